-- What a result behind `map_err` tells of the one before it. Assumes nothing.
use Rattle.std.proofs.Common.{◌≡◌, ℕ, Ok, Err, Result, sym, refl, ap, ◌∙◌, subst, arith}
use Rattle.std.specs.Result.{MatchResult, IsErrAnd}

module _ {T E D : Type 0} (P : E → D → Type 0) (m : Result T D) where
  -- a value was that value
  pub value_before : (r : Result T E) → MatchResult r (λ x. m ≡ Ok x) (λ e. IsErrAnd m (P e)) → (x : T) → m ≡ Ok x → r ≡ Ok x
  value_before (Ok y) h x p = let q = sym h ∙ p in let same : y ≡ x = cc in ap Ok same
  value_before (Err e) h x p = absurd (subst (λ y. IsErrAnd y (P e)) p h)

  -- an error was an error, from which it was made
  pub error_before : (r : Result T E) → MatchResult r (λ x. m ≡ Ok x) (λ e. IsErrAnd m (P e)) → (d : D) → m ≡ Err d →
      (e : E) × (r ≡ Err e) × P e d
  error_before (Ok y) h d p = absurd (no_both y d (sym h ∙ p))
    where
      no_both : (y : T) (d : D) → ◌≡◌ {A = Result T D} (Ok y) (Err d) → ⊥
      no_both y d q = let z : ◌≡◌ {A = ℕ} 0 1 = cc in omega arith
  error_before (Err e) h d p = (e, refl, subst (λ y. IsErrAnd y (P e)) p h)
