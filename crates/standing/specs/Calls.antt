-- Every call keeps standing: what it does on words stands for what it does to the plain service, with the same answer. Rests on
-- what each call does on words.
use Rattle.std.specs.Prelude.{◌≡◌, ℕ, zero, suc, ◌+◌, ◌≤◌, List}
use Rattle.cells.specs.Cells.{Map, Numbered, count, free}
use Rattle.plain.specs.Calls.{Request, load, feed, fund, one_step, advance, pull, abandon, ask_price, ask_free, ask_held, ask_state}
use Rattle.plain.specs.Calls.{advance_excluded, too_deep_after, refused_with, in_phase, advanced, counted, is_running, is_done}
use Rattle.plain.specs.States.{Sheet, program_of, State, Served, live_nodes}
use Rattle.plain.specs.Service.{serve}
use Rattle.standing.specs.declared.frames.Slot.{Slot}
use Rattle.standing.specs.declared.frames.Frame.{Frame}
use Rattle.standing.specs.Stepping.{goes_on, ends, refused, step_on_words}
use Rattle.standing.specs.Moments.{Moment, bare, open_with, running_with, done_with, phase, Stands, Sound}
use Rattle.standing.specs.Serving.{Done, done, refuse, load_on_words, feed_on_words, fund_on_words, one_step_on_words, pull_on_words, abandon_on_words, price}
use Rattle.standing.specs.Law.{Takeable}

-- Advances s n made fs m d: from these frames and cells, with so many steps made, an advance makes at most n steps more, one after
-- the other, and comes to d. Each step takes an unheld number, if it takes one.
pub data Advances (s : Sheet) : ℕ → ℕ → List Frame → Map → Done → Type 0 where
  asked_for : {made : ℕ} {fs : List Frame} {m : Map} → Advances s zero made fs m (done (advanced made is_running) (running_with s fs) m)
  one_further : {n made k : ℕ} {fs gs : List Frame} {m after : Map} {d : Done} → Takeable m k → step_on_words (program_of s) fs m k ≡ goes_on gs after →
      Advances s n (made + 1) gs after d → Advances s (suc n) made fs m d
  run_ends : {n made k : ℕ} {fs : List Frame} {m after : Map} {x : Slot} → Takeable m k → step_on_words (program_of s) fs m k ≡ ends x after →
      Advances s (suc n) made fs m (done (advanced (made + 1) is_done) (done_with s x) after)
  too_deep : {n made k : ℕ} {fs : List Frame} {m : Map} → Takeable m k → step_on_words (program_of s) fs m k ≡ refused →
      Advances s (suc n) made fs m (done (refused_with (too_deep_after made)) (running_with s fs) m)

abbrev pub AdvancesFrom : Moment → Map → ℕ → Done → Type 0
AdvancesFrom bare m n d = d ≡ refuse advance_excluded bare m
AdvancesFrom (open_with s es) m n d = d ≡ refuse advance_excluded (open_with s es) m
AdvancesFrom (running_with s fs) m n d = Advances s n 0 fs m d
AdvancesFrom (done_with s x) m n d = d ≡ refuse advance_excluded (done_with s x) m

-- what a call that may take a cell does, for some unheld number
pub record ForSomeNumber (m : Map) (does : ℕ → Done) (d : Done) : Type 0 where
  pub number : ℕ
  pub takeable : Takeable m number
  pub is : d ≡ does number

-- what each call may do on words, with a store of this capacity and these cells; the number that a take answers is open
abbrev pub MayDo : ℕ → Moment → Map → Request → Done → Type 0
MayDo capacity w m (load bytes) d = d ≡ load_on_words w m bytes
MayDo capacity w m (feed record_bytes) d = ForSomeNumber m (λ k. feed_on_words capacity w m k record_bytes) d
MayDo capacity w m fund d = d ≡ fund_on_words capacity w m
MayDo capacity w m one_step d = ForSomeNumber m (λ k. one_step_on_words w m k) d
MayDo capacity w m (advance n) d = AdvancesFrom w m n d
MayDo capacity w m pull d = d ≡ pull_on_words w m
MayDo capacity w m abandon d = d ≡ abandon_on_words w
MayDo capacity w m ask_price d = d ≡ done (counted (price w)) w m
MayDo capacity w m ask_free d = d ≡ done (counted (free capacity m)) w m
MayDo capacity w m ask_held d = d ≡ done (counted (count m)) w m
MayDo capacity w m ask_state d = d ≡ done (in_phase (phase w)) w m

-- what was done on words is what the plain service did: the answer is the same, and moment and cells stand for the state
pub record Serves (capacity : ℕ) (d : Done) (p : Served) : Type 0 where
  pub answers : d.answer ≡ p.answer
  pub stands : Stands d.cells d.after p.after
  pub sound : Sound capacity p.after

-- The held cells are as many as the nodes of the live values.
abbrev pub HeldAreTheLiveNodes : Type 0
HeldAreTheLiveNodes = (m : Map) (w : Moment) (s : State) → Numbered m → Stands m w s → count m ≡ live_nodes s

-- From a moment that stands for a sound state, whatever a call may do on words is what it does to the plain service.
abbrev pub CallsKeepStanding : Type 0
CallsKeepStanding =
    (capacity : ℕ) (m : Map) (w : Moment) (s : State) (r : Request) (d : Done) → Numbered m → count m ≤ capacity → Stands m w s → Sound capacity s →
    MayDo capacity w m r d → Serves capacity d (serve capacity s r)
