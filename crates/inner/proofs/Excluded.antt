-- Calls that the state excludes: they are refused and alter nothing. Rests on the moments of each state.
use Rattle.std.proofs.Common.{◌≡◌, ℕ, true, List, is_some, Some, None, Option, sym, refl, ap, ◌∙◌, arith}
use Rattle.cells.specs.Cells.{Map, Numbered}
use Rattle.plain.specs.Calls.{Phase, is_bare, is_open, is_running, is_done, excluded, advance_excluded, refused_with, load, feed, fund, one_step, advance, pull}
use Rattle.sheet.specs.declared.passed.Sheet.{Sheet as LoadedSheet}
use Rattle.standing.specs.Moments.{Moment, bare, open_with, running_with, done_with, phase}
use Rattle.standing.specs.Serving.{refuse, load_on_words, feed_on_words, fund_on_words, one_step_on_words, pull_on_words}
use Rattle.standing.specs.Calls.{AdvancesFrom}
use Rattle.inner.specs.declared.kept.Inner.{Inner}
use Rattle.inner.specs.declared.kept.State.{State}
use Rattle.inner.specs.declared.kept.State.TheVariants.{Bare, Open, Running, Done}
use Rattle.inner.specs.Meant.{moment, moment_in, phase_of, Loaded, WellKept}
use Rattle.inner.specs.Serving.{PriceFits, Does}
use Rattle.inner.proofs.Stepping.{beyond_all, same_unaltered}

never : is_some {T = LoadedSheet} None ≡ true → ⊥
never e = let z : ◌≡◌ {A = ℕ} 0 1 = cc in omega arith

phase_at : (a : State) (o : Option LoadedSheet) (i : Inner) → Loaded a o → phase (moment_in a o i) ≡ phase_of a
phase_at Bare o i h = refl
phase_at Open None i h = absurd (never h)
phase_at Open (Some s) i h = refl
phase_at Running None i h = absurd (never h)
phase_at Running (Some s) i h = refl
phase_at Done None i h = absurd (never h)
phase_at Done (Some s) i h = refl

-- the phase of the moment is the engine's state
pub phase_kept : (i : Inner) → WellKept i → phase (moment i) ≡ phase_of i.state
phase_kept i kept = phase_at i.state i.sheet i kept.loaded

-- the state with this phase: no two have the same
abbrev state_in : Phase → State
state_in is_bare = Bare
state_in is_open = Open
state_in is_running = Running
state_in is_done = Done

state_back : (a : State) → state_in (phase_of a) ≡ a
state_back Bare = refl
state_back Open = refl
state_back Running = refl
state_back Done = refl

pub same_state : (a b : State) → phase_of a ≡ phase_of b → a ≡ b
same_state a b e = sym (state_back a) ∙ (ap state_in e ∙ state_back b)

-- a state that the engine does not have is no phase of its moment
not_in : (i : Inner) (a : State) → WellKept i → (i.state ≡ a → ⊥) → phase (moment i) ≡ phase_of a → ⊥
not_in i a kept other e = other (same_state i.state a (sym (phase_kept i kept) ∙ e))

feed_outside : (capacity : ℕ) (w : Moment) (m : Map) (k : ℕ) (bytes : List ℕ) → (phase w ≡ is_open → ⊥) → feed_on_words capacity w m k bytes ≡ refuse excluded w m
feed_outside capacity bare m k bytes h = refl
feed_outside capacity (open_with s es) m k bytes h = absurd (h refl)
feed_outside capacity (running_with s fs) m k bytes h = refl
feed_outside capacity (done_with s x) m k bytes h = refl

fund_outside : (capacity : ℕ) (w : Moment) (m : Map) → (phase w ≡ is_open → ⊥) → fund_on_words capacity w m ≡ refuse excluded w m
fund_outside capacity bare m h = refl
fund_outside capacity (open_with s es) m h = absurd (h refl)
fund_outside capacity (running_with s fs) m h = refl
fund_outside capacity (done_with s x) m h = refl

step_outside : (w : Moment) (m : Map) (k : ℕ) → (phase w ≡ is_running → ⊥) → one_step_on_words w m k ≡ refuse excluded w m
step_outside bare m k h = refl
step_outside (open_with s es) m k h = refl
step_outside (running_with s fs) m k h = absurd (h refl)
step_outside (done_with s x) m k h = refl

advance_outside : (w : Moment) (m : Map) (n : ℕ) → (phase w ≡ is_running → ⊥) → AdvancesFrom w m n (refuse advance_excluded w m)
advance_outside bare m n h = refl
advance_outside (open_with s es) m n h = refl
advance_outside (running_with s fs) m n h = absurd (h refl)
advance_outside (done_with s x) m n h = refl

pull_outside : (w : Moment) (m : Map) → (phase w ≡ is_done → ⊥) → pull_on_words w m ≡ refuse excluded w m
pull_outside bare m h = refl
pull_outside (open_with s es) m h = refl
pull_outside (running_with s fs) m h = refl
pull_outside (done_with s x) m h = absurd (h refl)

load_outside : (w : Moment) (m : Map) (bytes : List ℕ) → (phase w ≡ is_bare → ⊥) → (phase w ≡ is_open → ⊥) → load_on_words w m bytes ≡ refuse excluded w m
load_outside bare m bytes h g = absurd (h refl)
load_outside (open_with s es) m bytes h g = absurd (g refl)
load_outside (running_with s fs) m bytes h g = refl
load_outside (done_with s x) m bytes h g = refl

module _ (capacity : ℕ) (m : Map) (i : Inner) (kept : WellKept i) (fits : PriceFits (moment i) m) where
  pub load_excluded : (bytes : List ℕ) → (i.state ≡ Bare → ⊥) → (i.state ≡ Open → ⊥) → Does capacity m i (load bytes) (refused_with excluded) m i
  load_excluded bytes h g =
      record { kept = kept; fits = fits; did = sym (load_outside (moment i) m bytes (not_in i Bare kept h) (not_in i Open kept g)); unaltered = same_unaltered m i _ }

  pub feed_excluded : (bytes : List ℕ) → Numbered m → (i.state ≡ Open → ⊥) → Does capacity m i (feed bytes) (refused_with excluded) m i
  feed_excluded bytes numbered h =
      record {
        kept = kept;
        fits = fits;
        did = record { number = 65536; takeable = beyond_all numbered; is = sym (feed_outside capacity (moment i) m 65536 bytes (not_in i Open kept h)) };
        unaltered = same_unaltered m i _;
      }

  pub fund_excluded : (i.state ≡ Open → ⊥) → Does capacity m i fund (refused_with excluded) m i
  fund_excluded h = record { kept = kept; fits = fits; did = sym (fund_outside capacity (moment i) m (not_in i Open kept h)); unaltered = same_unaltered m i _ }

  pub step_excluded : Numbered m → (i.state ≡ Running → ⊥) → Does capacity m i one_step (refused_with excluded) m i
  step_excluded numbered h =
      record {
        kept = kept;
        fits = fits;
        did = record { number = 65536; takeable = beyond_all numbered; is = sym (step_outside (moment i) m 65536 (not_in i Running kept h)) };
        unaltered = same_unaltered m i _;
      }

  pub advance_is_excluded : (n : ℕ) → (i.state ≡ Running → ⊥) → Does capacity m i (advance n) (refused_with advance_excluded) m i
  advance_is_excluded n h = record { kept = kept; fits = fits; did = advance_outside (moment i) m n (not_in i Running kept h); unaltered = same_unaltered m i _ }

  pub pull_excluded : (i.state ≡ Done → ⊥) → Does capacity m i pull (refused_with excluded) m i
  pull_excluded h = record { kept = kept; fits = fits; did = sym (pull_outside (moment i) m (not_in i Done kept h)); unaltered = same_unaltered m i _ }

-- there is a sheet in every state but Bare
there : (o : Option LoadedSheet) → is_some o ≡ true → (s : LoadedSheet) × (o ≡ Some s)
there None h = absurd (never h)
there (Some s) h = (s, refl)

sheet_at : (a : State) (o : Option LoadedSheet) → (a ≡ Bare → ⊥) → Loaded a o → (s : LoadedSheet) × (o ≡ Some s)
sheet_at Bare o h l = absurd (h refl)
sheet_at Open o h l = there o l
sheet_at Running o h l = there o l
sheet_at Done o h l = there o l

pub loaded_sheet : (i : Inner) → WellKept i → (i.state ≡ Bare → ⊥) → (s : LoadedSheet) × (i.sheet ≡ Some s)
loaded_sheet i kept h = sheet_at i.state i.sheet h kept.loaded
