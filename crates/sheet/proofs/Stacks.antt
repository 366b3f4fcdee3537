-- A list as a stack: its last item is the newest.
use Rattle.std.proofs.Common.{◌≡◌, ◌<◌, List, [], ◌∷◌, ◌++◌, reverse, length, refl, ap, ◌∙◌, arith}
use Rattle.std.proofs.lemmas.List.{reverse-append}

pub newest : {X : Type 0} (all rest : List X) (x : X) → all ≡ rest ++ (x ∷ []) → reverse all ≡ x ∷ reverse rest
newest {X} all rest x e = ap {B = List X} reverse e ∙ reverse-append rest (x ∷ [])

pub none_left : {X : Type 0} (all : List X) → (0 < length all → ⊥) → reverse all ≡ []
none_left [] never = refl
none_left (x ∷ xs) never = elim (never (omega arith)) [ ]
