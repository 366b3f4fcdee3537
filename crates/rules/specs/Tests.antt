-- Tests on types and fields, as the check makes them. Rests on types and causes.
use Rattle.std.specs.Prelude.{ℕ, zero, suc, Bool, true, false, cond, List, [], ◌∷◌, length, Err, Result, ◌==◌, nat_le, nat_lt}
use Rattle.records.specs.declared.faults.Cause.{Cause}
use Rattle.records.specs.declared.kinds.NodeType.{NodeType}
use Rattle.rules.specs.Limits.{unused}
use Rattle.rules.specs.Types.{Ty, number, list}

-- a test that has to hold before what follows; where it fails, this is the cause
abbrev pub need : {A : Type 0} → Cause → Bool → Result A Cause → Result A Cause
need cause test rest = cond test rest (Err cause)

-- whether both tests hold
abbrev pub both : Bool → Bool → Bool
both a b = cond a b false

-- whether the first type covers the second
abbrev pub covers : Ty → Ty → Bool
covers number number = true
covers number (list t b) = false
covers (list s a) number = false
covers (list s a) (list t b) = both (nat_le b a) (covers s t)

-- whether of these fields the first n are below the limit and the others FF
abbrev pub padded : ℕ → ℕ → List ℕ → Bool
padded limit zero [] = true
padded limit (suc n) [] = false
padded limit zero (x ∷ xs) = both (x == unused) (padded limit zero xs)
padded limit (suc n) (x ∷ xs) = both (nat_lt x limit) (padded limit n xs)

-- whether t numbers a list type
abbrev pub is_list_type : List NodeType → ℕ → Bool
is_list_type ts t = both (nat_lt 0 t) (nat_le t (length ts))
