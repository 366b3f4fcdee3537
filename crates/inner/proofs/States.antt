-- What a comparison of states tells. Assumes nothing.
use Rattle.std.proofs.Common.{◌≡◌, Bool, true, false, not, sym, ◌∙◌, rules}
use denote.Enum.Bare.{sameb, same_true, same_false, differs_true, differs_false}
use Rattle.inner.specs.declared.kept.State.{State}
use Rattle.inner.specs.contracts.kept.State.{the_type}

-- where `!=` is false, the states are the same
pub told_same : (a b : State) (r : Bool) → r ≡ not (sameb the_type a b) → r ≡ false → a ≡ b
told_same a b r e f = differs_false the_type (search rules) a b (sym e ∙ f)

-- where it is true, they are not
pub told_other : (a b : State) (r : Bool) → r ≡ not (sameb the_type a b) → r ≡ true → a ≡ b → ⊥
told_other a b r e t = differs_true the_type a b (sym e ∙ t)

-- where `==` is true, they are the same
pub told_equal : (a b : State) (r : Bool) → r ≡ sameb the_type a b → r ≡ true → a ≡ b
told_equal a b r e t = same_true the_type (search rules) a b (sym e ∙ t)

-- where it is false, they are not
pub told_unequal : (a b : State) (r : Bool) → r ≡ sameb the_type a b → r ≡ false → a ≡ b → ⊥
told_unequal a b r e f = same_false the_type a b (sym e ∙ f)
