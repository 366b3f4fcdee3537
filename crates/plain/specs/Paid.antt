-- What is held for a run under way: each frame's balance, what its slots bring along, and the same for its suspended callers.
-- Rests on the rules and on how slots fit a context.
use Rattle.std.specs.Prelude.{◌≡◌, ℕ, ◌+◌, ◌<◌, ◌≤◌, List, [], ◌∷◌, length}
use Rattle.rules.specs.Limits.{slot_count}
use Rattle.rules.specs.Types.{Ty}
use Rattle.rules.specs.Programs.{Program}
use Rattle.rules.specs.Branches.{Branch}
use Rattle.rules.specs.Contexts.{Context, bound, Binds}
use Rattle.rules.specs.Rules.{Derives}
use Rattle.plain.specs.Reading.{Frame, frame_limit}
use Rattle.plain.specs.Fitting.{Filled, slots_potential}

-- At the offset o a branch of the sheet continues, and the rules derive it from there: in the context Γ, with the balance b, it
-- answers a value of type A and leaves at least m.
pub record Continues (p : Program) (A : Ty) (m : ℕ) (Γ : Context) (b o : ℕ) : Type 0 where
  pub waiting : ℕ
  pub end : ℕ
  pub branch : Branch p waiting o end
  pub derives : Derives p A m Γ b o (p.fetched o)

-- Suspended p A r d t m amount fs: the frames fs, the newest first, await a value of type t in slot d and with it the amount m.
-- They hold the amount: each its balance and what its slots bring along. Whoever began the run awaits a value of type A and r.
pub data Suspended (p : Program) (A : Ty) (r : ℕ) : ℕ → Ty → ℕ → ℕ → List Frame → Type 0 where
  no_caller : {d : ℕ} → Suspended p A r d A r 0 []
  a_caller : {d m n beneath amount : ℕ} {t B : Ty} {Γ : Context} {f : Frame} {fs : List Frame} (balance : ℕ) →
      Filled Γ f.slots → Binds Γ d → d < slot_count →
      Continues p B n (bound Γ d t) (balance + m) f.next →
      Suspended p A r f.awaiting B n beneath fs →
      balance + slots_potential Γ f.slots + beneath ≡ amount →
      Suspended p A r d t m amount (f ∷ fs)

-- Paid p A r spare purse fs: the run with the frames fs is paid for. The purse has at least the spare amount, the balance of the
-- newest frame, what its slots bring along, and what the suspended callers hold.
pub data Paid (p : Program) (A : Ty) (r spare purse : ℕ) : List Frame → Type 0 where
  paid : {amount balance n : ℕ} {B : Ty} {Γ : Context} {f : Frame} {fs : List Frame} →
      Filled Γ f.slots →
      Continues p B n Γ balance f.next →
      Suspended p A r f.awaiting B n amount fs →
      spare + balance + slots_potential Γ f.slots + amount ≤ purse →
      length (f ∷ fs) ≤ frame_limit →
      Paid p A r spare purse (f ∷ fs)
