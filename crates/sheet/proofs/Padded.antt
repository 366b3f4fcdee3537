-- Padded fields by their parts: the fields that are used, and the others.
use Rattle.std.proofs.Common.{◌≡◌, ℕ, zero, suc, ◌<◌, ◌≤◌, Bool, true, false, ◌&&◌, eqb, ltb, List, [], ◌∷◌, length, take, drop, refl, ap, ◌∙◌, arith}
use Rattle.std.specs.List.{list_all}
use Rattle.rules.specs.Limits.{unused}
use Rattle.rules.specs.Tests.{both, padded}

both_and : (a b : Bool) → both a b ≡ (a && b)
both_and true b = refl
both_and false b = refl

and_left : (a b c : Bool) → (a && (b && c)) ≡ ((a && b) && c)
and_left true b c = refl
and_left false b c = refl

all_unused : (limit : ℕ) (xs : List ℕ) → padded limit 0 xs ≡ list_all (λ x. eqb x unused) xs
all_unused limit [] = refl
all_unused limit (x ∷ xs) = both_and (eqb x unused) (padded limit 0 xs) ∙ ap (λ b. eqb x unused && b) (all_unused limit xs)

pub padded_parts : (limit n : ℕ) (xs : List ℕ) → n ≤ length xs →
    padded limit n xs ≡ (list_all (λ x. ltb x limit) (take n xs) && list_all (λ x. eqb x unused) (drop n xs))
padded_parts limit zero xs h = all_unused limit xs
padded_parts limit (suc n) [] h = absurd (omega arith)
padded_parts limit (suc n) (x ∷ xs) h =
    both_and (ltb x limit) (padded limit n xs)
    ∙ ap (λ b. ltb x limit && b) (padded_parts limit n xs (omega arith))
    ∙ and_left (ltb x limit) (list_all (λ y. ltb y limit) (take n xs)) (list_all (λ y. eqb y unused) (drop n xs))

pub padded_short : (limit n : ℕ) (xs : List ℕ) → length xs < n → padded limit n xs ≡ false
padded_short limit zero xs h = absurd (omega arith)
padded_short limit (suc n) [] h = refl
padded_short limit (suc n) (x ∷ xs) h = ap (both (ltb x limit)) (padded_short limit n xs (omega arith)) ∙ both_and (ltb x limit) false ∙ never (ltb x limit)
  where
    never : (b : Bool) → (b && false) ≡ false
    never true = refl
    never false = refl
