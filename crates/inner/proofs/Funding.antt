-- That funding does what it does on words, and its tests. Rests on the moment of an open engine.
use Rattle.std.proofs.Common.{◌≡◌, ℕ, suc, Bool, true, false, cond, ◌&&◌, eqb, leb, List, [], ◌∷◌, map, length, Some, sym, refl, ap, ◌∙◌, subst, arith, le-leb}
use Rattle.std.specs.List.{list_all, zip}
use borrow.Author.Tests.{lt-leb}
use Rattle.cells.specs.Cells.{Map, free}
use Rattle.rules.specs.Tests.{both}
use Rattle.plain.specs.Calls.{fund, accepted, refused_with, other_parameters, too_dear, excluded}
use Rattle.plain.specs.Feeding.{same_numbers}
use Rattle.sheet.specs.declared.passed.Sheet.{Sheet as LoadedSheet}
use Rattle.standing.specs.Moments.{running_with}
use Rattle.standing.specs.Serving.{done, refuse, are_parameters, first_frame, price, fund_on_words}
use Rattle.inner.specs.declared.kept.Inner.{Inner}
use Rattle.inner.specs.declared.kept.State.TheVariants.{Open}
use Rattle.inner.specs.Meant.{moment, sheet_of, input_stack, WellKept}
use Rattle.inner.specs.Changes.{started}
use Rattle.inner.proofs.Outcomes.{Funds, FundMistaken, FundUnpaid, ExcludedFrom}
use Rattle.inner.specs.Serving.{PriceFits, Does}
use Rattle.inner.proofs.Keeping.{started_kept}
use Rattle.inner.proofs.Moments.{open_moment, running_moment}
use Rattle.inner.proofs.Stepping.{told_alters, same_unaltered, is_there}
use Rattle.inner.proofs.Excluded.{fund_excluded}
use Rattle.inner.proofs.Opening.{same_does}

-- rows of other lengths are not the same
pub same_length : (xs ys : List ℕ) → (length xs ≡ length ys → ⊥) → same_numbers xs ys ≡ false
same_length [] [] h = absurd (h refl)
same_length [] (y ∷ ys) h = refl
same_length (x ∷ xs) [] h = refl
same_length (x ∷ xs) (y ∷ ys) h = either (eqb x y) (same_length xs ys (λ e. h (ap suc e)))
  where
    either : (b : Bool) → same_numbers xs ys ≡ false → both b (same_numbers xs ys) ≡ false
    either true e = e
    either false e = refl

as_both : (a : Bool) {b c : Bool} → b ≡ c → (a && b) ≡ both a c
as_both true e = e
as_both false e = refl

-- rows of the same length are the same where each two in one place are
pub compared : {X : Type 0} (f : X → ℕ) (xs : List X) (ys : List ℕ) → length xs ≡ length ys →
    list_all (λ (p : X × ℕ). eqb (f p.0) p.1) (zip xs ys) ≡ same_numbers (map f xs) ys
compared f [] [] e = refl
compared f [] (y ∷ ys) e = absurd (omega arith)
compared f (x ∷ xs) [] e = absurd (omega arith)
compared f (x ∷ xs) (y ∷ ys) e = as_both (eqb (f x) y) (compared f xs ys (omega arith))

module _ (capacity : ℕ) (m : Map) (i : Inner) (kept : WellKept i) where
  -- funding by its two tests
  fund_at : (s : LoadedSheet) (a b : Bool) → i.state ≡ Open → i.sheet ≡ Some s → are_parameters (sheet_of s) (input_stack i) ≡ a →
      leb (price (moment i)) (free capacity m) ≡ b →
      fund_on_words capacity (moment i) m ≡
      cond a (cond b (done accepted (running_with (sheet_of s) (first_frame (sheet_of s) (input_stack i) ∷ [])) m) (refuse (too_dear (price (moment i))) (moment i) m))
      (refuse other_parameters (moment i) m)
  fund_at s a b p q e f =
      let w = open_moment i s p q in
      ap (λ x. fund_on_words capacity x m) w ∙
      (ap (λ x.
      cond (are_parameters (sheet_of s) (input_stack i))
      (cond (leb (price x) (free capacity m)) (done accepted (running_with (sheet_of s) (first_frame (sheet_of s) (input_stack i) ∷ [])) m) (refuse (too_dear (price x)) x m))
      (refuse other_parameters x m)) (sym w) ∙
      (ap (λ c.
      cond c
      (cond (leb (price (moment i)) (free capacity m)) (done accepted (running_with (sheet_of s) (first_frame (sheet_of s) (input_stack i) ∷ [])) m) (refuse (too_dear (price (moment i))) (moment i) m))
      (refuse other_parameters (moment i) m)) e ∙
      ap (λ c.
      cond a (cond c (done accepted (running_with (sheet_of s) (first_frame (sheet_of s) (input_stack i) ∷ [])) m) (refuse (too_dear (price (moment i))) (moment i) m))
      (refuse other_parameters (moment i) m)) f))

  pub funds_does : (n : Map) (j : Inner) → Funds capacity m i n j → Does capacity m i fund accepted n j
  funds_does n j x =
      let s = x.sheet in
      let F = first_frame (sheet_of s) (input_stack i) in
      let on = running_moment (started i F) s refl x.loaded in
      subst (λ y. Does capacity m i fund accepted n y) (sym x.inner)
      (subst (λ c. Does capacity m i fund accepted c (started i F)) (sym x.cells)
      (record {
        kept = started_kept i kept (is_there x.loaded) F;
        fits = subst (λ w. PriceFits w m) (sym on) tt;
        did = ap (λ w. done accepted w m) on ∙ sym (fund_at s true true x.is_open x.loaded x.parameters (le-leb (price (moment i)) (free capacity m) x.paid));
        unaltered = told_alters accepted tt;
      }))

  module _ (fits : PriceFits (moment i) m) where
    pub fund_mistaken_does : (n : Map) (j : Inner) → FundMistaken m i n j → Does capacity m i fund (refused_with other_parameters) n j
    fund_mistaken_does n j x =
        same_does capacity m i kept fits fund (refused_with other_parameters) x.same
        (record { kept = kept; fits = fits; did = sym (fund_at x.sheet false _ x.is_open x.loaded x.others refl); unaltered = same_unaltered m i _ })

    pub fund_unpaid_does : (asked : ℕ) (n : Map) (j : Inner) → FundUnpaid capacity m i asked n j → Does capacity m i fund (refused_with (too_dear asked)) n j
    fund_unpaid_does asked n j x =
        subst (λ p. Does capacity m i fund (refused_with (too_dear p)) n j) (sym x.its_price)
        (same_does capacity m i kept fits fund (refused_with (too_dear (price (moment i)))) x.same
        (record {
          kept = kept;
          fits = fits;
          did = sym (fund_at x.sheet true false x.is_open x.loaded x.parameters (lt-leb (price (moment i)) (free capacity m) x.unpaid));
          unaltered = same_unaltered m i _;
        }))

    pub fund_excluded_does : (n : Map) (j : Inner) → ExcludedFrom Open m i n j → Does capacity m i fund (refused_with excluded) n j
    fund_excluded_does n j x = same_does capacity m i kept fits fund (refused_with excluded) x.same (fund_excluded capacity m i kept fits x.other_state)
