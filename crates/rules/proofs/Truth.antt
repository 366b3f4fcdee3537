-- Tests that hold, and what cannot be.
use Rattle.std.proofs.Common.{◌≡◌, ℕ, Bool, true, false, refl, ap, ◌∙◌, arith}
use Rattle.rules.specs.Tests.{both}

pub impossible : {A : Type 0} → ◌≡◌ {A = ℕ} 0 1 → A
impossible e = absurd (omega arith)

-- both tests hold exactly when each does
pub split : (a b : Bool) → both a b ≡ true → (a ≡ true) × (b ≡ true)
split true true e = (refl, refl)
split true false e = impossible (cc)
split false b e = impossible (cc)

pub join : {a b : Bool} → a ≡ true → b ≡ true → both a b ≡ true
join {a} {b} p q = ap (λ x. both x b) p ∙ q
