-- What the entries bring along fits 32 bits. Rests on the moments of each state.
use Rattle.std.proofs.Common.{◌≡◌, ℕ, ◌+◌, ◌*◌, ◌≤◌, sum_by, List, [], ◌∷◌, reverse, Some, Option, sym, refl, ap, ◌∙◌, subst, arith}
use Rattle.std.proofs.lemmas.List.Sums.{sum_by-cons, sum_by_push}
use mathlib.Core.List.{reverse-cons}
use Rattle.cells.specs.Cells.{Map, count}
use Rattle.sheet.specs.declared.passed.Sheet.{Sheet as LoadedSheet}
use Rattle.sheet.proofs.Known.{sheet_lawful}
use Rattle.standing.specs.declared.frames.Input.{Input}
use Rattle.standing.specs.Serving.{brought}
use Rattle.inner.specs.declared.kept.Inner.{Inner}
use Rattle.inner.specs.declared.kept.State.{State}
use Rattle.inner.specs.declared.kept.State.TheVariants.{Bare, Open}
use Rattle.inner.specs.Meant.{input_stack}
use Rattle.inner.specs.Kinds.{KnownFunction}
use Rattle.inner.specs.Serving.{greatest_amount, greatest_price, PriceFits, Serving}
use Rattle.inner.proofs.Moments.{open_moment}
use Rattle.inner.proofs.Excluded.{loaded_sheet}

-- what entries bring along is a sum, in whichever order
brought_summed : (xs : List Input) → brought xs ≡ sum_by (λ x. x.potential) xs
brought_summed [] = refl
brought_summed (x ∷ xs) = ap (λ n. x.potential + n) (brought_summed xs) ∙ sym (sum_by-cons (λ (y : Input). y.potential) x xs)

pub brought_turned : (xs : List Input) → brought (reverse xs) ≡ sum_by (λ x. x.potential) xs
brought_turned xs = brought_summed (reverse xs) ∙ turned xs
  where
    turned : (xs : List Input) → sum_by (λ x. x.potential) (reverse xs) ≡ sum_by (λ x. x.potential) xs
    turned [] = refl
    turned (x ∷ xs) =
        ap (sum_by (λ (y : Input). y.potential)) (reverse-cons x xs) ∙
        (sum_by_push (λ (y : Input). y.potential) (reverse xs) x ∙
        (let e = turned xs in let c = sum_by-cons (λ (y : Input). y.potential) x xs in omega (arith, e, c)))

open_not_bare : (a : State) → a ≡ Open → a ≡ Bare → ⊥
open_not_bare a p q = let z : ◌≡◌ {A = ℕ} 0 1 = cc in omega arith

-- an engine that is Open has a sheet
pub open_sheet : (capacity : ℕ) (m : Map) (i : Inner) → Serving capacity m i → i.state ≡ Open → (s : LoadedSheet) × (i.sheet ≡ Some s)
open_sheet capacity m i v p = loaded_sheet i v.kept (open_not_bare i.state p)

pub brought_fits : (capacity : ℕ) (m : Map) (i : Inner) → Serving capacity m i → i.state ≡ Open → brought (input_stack i) ≤ greatest_amount * count m
brought_fits capacity m i v p =
    let l = open_sheet capacity m i v p in
    subst (λ w. PriceFits w m) (open_moment i l.0 p l.1) v.fits

pub price_fits : (capacity : ℕ) (m : Map) (i : Inner) → count m ≤ capacity → capacity ≤ 65535 → Serving capacity m i → i.state ≡ Open →
    brought (input_stack i) ≤ greatest_price
price_fits capacity m i within small v p =
    let b = brought_fits capacity m i v p in
    let few : count m ≤ 65535 = omega arith in
    omega arith

-- function 0 of a sheet that was loaded
pub first_known : (o : Option LoadedSheet) (s : LoadedSheet) → o ≡ Some s → KnownFunction o 0
first_known o s e = subst (λ x. KnownFunction x 0) (sym e) (sheet_lawful s).form.some_function
