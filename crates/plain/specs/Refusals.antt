-- What a refusal leaves as it was. Rests on the plain service.
use Rattle.std.specs.Prelude.{◌≡◌, ℕ, ◌≢◌}
use Rattle.plain.specs.Calls.{Request, Refusal, too_deep_after, refused_with}
use Rattle.plain.specs.States.{State}
use Rattle.plain.specs.Service.{answer_to, state_after}

-- A refused call alters nothing, unless it is an advance that has made steps before its refusal.
abbrev pub ARefusedCallAltersNothing : Type 0
ARefusedCallAltersNothing =
    (capacity : ℕ) (s : State) (r : Request) (x : Refusal) → answer_to capacity s r ≡ refused_with x →
    ((made : ℕ) → x ≢ too_deep_after made) → state_after capacity s r ≡ s
