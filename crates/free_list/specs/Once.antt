-- Lent cells are in order in one way at most, since the chain itself tells its places. So the type of a free list can carry that
-- its cells are in order.
use Rattle.std.specs.Prelude.{◌≡◌, ℕ, ◌+◌, ◌<◌, false, List, [], ◌∷◌, length}
use Rattle.std.proofs.Common.{sym, refl, ap, subst, inl, inr, arith}
use Rattle.std.proofs.Props.{props}
use Rattle.std.specs.Coded.{Π_prop, →_prop}
use mathlib.Core.HLevel.{is_prop→PathP}
use Rattle.cells.specs.Cells.{count}
use Rattle.free_list.specs.declared.lent.LentCell.{LentCell}
use Rattle.free_list.specs.Lent.{cell_at, lent_capacity, lent_cells}
use Rattle.free_list.specs.Chain.{Among, Absent, first_word, Leads, Chain, InOrder}

-- what is among some places is not absent from them
not_both : (place : ℕ) (places : List ℕ) → Among place places → Absent place places → ⊥
not_both place [] among absent = among
not_both place (other ∷ rest) (inl e) absent = absent.0 e
not_both place (other ∷ rest) (inr among) absent = not_both place rest among absent.1

absent_once : (place : ℕ) (places : List ℕ) → IsProp (Absent place places)
absent_once place [] x y = refl
absent_once place (other ∷ rest) x y =
    let here : IsProp (place ≡ other → ⊥) = Prim.hlevel props in
    λ i. (here x.0 y.0 i, absent_once place rest x.1 y.1 i)

module _ (lent : List LentCell) where
  leads_once : (number place : ℕ) → IsProp (Leads lent number place)
  leads_once number place x y =
      let number_once : IsProp (number ≡ place + 1) = Prim.hlevel props in
      let inside_once : IsProp (place < lent_capacity lent) = Prim.hlevel props in
      let unmarked_once : IsProp ((cell_at lent place).held ≡ false) = Prim.hlevel props in
      λ i. record {
        its_number = number_once x.its_number y.its_number i;
        inside = inside_once x.inside y.inside i;
        unmarked = unmarked_once x.unmarked y.unmarked i;
      }

  chain_once : (number : ℕ) (places : List ℕ) → IsProp (Chain lent number places)
  chain_once number [] x y = let end_once : IsProp (number ≡ 0) = Prim.hlevel props in end_once x y
  chain_once number (place ∷ rest) x y = λ i. (
    leads_once number place x.0 y.0 i,
    absent_once place rest x.1 y.1 i,
    chain_once (first_word lent place) rest x.2 y.2 i,
  )

  -- a chain meets each place once
  among_once : (number : ℕ) (places : List ℕ) → Chain lent number places → (place : ℕ) → IsProp (Among place places)
  among_once number [] chain place x y = absurd x
  among_once number (other ∷ rest) chain place (inl e) (inl f) = let here : IsProp (place ≡ other) = Prim.hlevel props in ap inl (here e f)
  among_once number (other ∷ rest) chain place (inl e) (inr there) = absurd (not_both other rest (subst (λ (k : ℕ). Among k rest) e there) chain.1)
  among_once number (other ∷ rest) chain place (inr there) (inl e) = absurd (not_both other rest (subst (λ (k : ℕ). Among k rest) e there) chain.1)
  among_once number (other ∷ rest) chain place (inr x) (inr y) = ap inr (among_once (first_word lent other) rest chain.2 place x y)

  -- two chains from one number pass the same places
  same_places : (number : ℕ) (places others : List ℕ) → Chain lent number places → Chain lent number others → places ≡ others
  same_places number [] [] x y = refl
  same_places number [] (other ∷ rest) x y = absurd (omega (arith, y.0.its_number))
  same_places number (place ∷ rest) [] x y = absurd (omega (arith, x.0.its_number))
  same_places number (place ∷ rest) (other ∷ more) x y =
      let here : place ≡ other = omega (arith, x.0.its_number, y.0.its_number) in
      let there : rest ≡ more = same_places (first_word lent place) rest more x.2 (subst (λ (k : ℕ). Chain lent (first_word lent k) more) (sym here) y.2) in
      λ i. here i ∷ there i

  pub in_order_once : (first taken : ℕ) → IsProp (InOrder lent first taken)
  in_order_once first taken x y =
      let same : x.places ≡ y.places = same_places first x.places y.places x.chain y.chain in
      let chains = is_prop→PathP (λ i. Chain lent first (same i)) (λ i. chain_once first (same i)) x.chain y.chain in
      let free = is_prop→PathP (λ i. (place : ℕ) → place < lent_capacity lent → (cell_at lent place).held ≡ false → Among place (same i))
      (λ i. Π_prop (λ place. →_prop (→_prop (among_once first (same i) (chains i) place)))) x.every_free y.every_free in
      let others = is_prop→PathP (λ i. length (same i) + taken ≡ lent_capacity lent) (λ i. Prim.hlevel props) x.others_held y.others_held in
      let counted_once : IsProp (taken ≡ count (lent_cells lent)) = Prim.hlevel props in
      λ i. record {
        places = same i;
        chain = chains i;
        every_free = free i;
        others_held = others i;
        counted = counted_once x.counted y.counted i;
      }
