-- Cells chained in rising order are in order, with none held. Rests on how lent cells stand for the held ones.
use Rattle.std.proofs.Common.{◌≡◌, ℕ, zero, suc, ◌+◌, ◌<◌, ◌≤◌, false, ltb, List, [], ◌∷◌, length, sym, refl, ap, ◌∙◌, inl, inr, ⊎_elim, arith}
use Rattle.std.proofs.lemmas.Bool.{cases_eq, cond-true, cond-false, lt-ltb, le-ltb}
use Rattle.cells.specs.Cells.{count}
use Rattle.cells.specs.Counts.{count_empty}
use Rattle.free_list.specs.declared.lent.LentCell.{LentCell}
use Rattle.free_list.specs.Lent.{cell_at, lent_capacity, number_at, lent_cells}
use Rattle.free_list.specs.Chain.{Among, Absent, first_word, Chain, InOrder, freed_cell, Rising}
use Rattle.free_list.specs.Places.{all_free_empty}

-- so many places in rising order
pub rising_places : ℕ → ℕ → List ℕ
rising_places from zero = []
rising_places from (suc more) = from ∷ rising_places (suc from) more

lower_absent : (place from more : ℕ) → place < from → Absent place (rising_places from more)
unfolding rising_places
lower_absent place from zero lower = tt
lower_absent place from (suc more) lower = ((λ e. omega arith), lower_absent place (suc from) more (omega arith))

all_among : (place from more : ℕ) → from ≤ place → place < from + more → Among place (rising_places from more)
unfolding rising_places
all_among place from zero low high = absurd (omega arith)
all_among place from (suc more) low high = ⊎_elim
    (λ (e : place ≡ from). inl e)
    (λ (ne : place ≡ from → ⊥). inr (all_among place (suc from) more (omega arith) (omega arith)))
    (cases_eq place from)

as_many : (from more : ℕ) → length (rising_places from more) ≡ more
unfolding rising_places
as_many from zero = refl
as_many from (suc more) = omega (arith, as_many (suc from) more)

number_inside : (place capacity : ℕ) → place < capacity → number_at place capacity ≡ place + 1
number_inside place capacity inside = cond-true (ltb place capacity) (place + 1) 0 (lt-ltb place capacity inside)

number_past : (place capacity : ℕ) → capacity ≤ place → number_at place capacity ≡ 0
number_past place capacity past = cond-false (ltb place capacity) (place + 1) 0 (le-ltb place capacity past)

module _ (lent after : List LentCell) (first : ℕ) (rising : Rising lent after first) where
  pub risen_capacity : lent_capacity after ≡ lent_capacity lent
  risen_capacity = simp rising.same_length

  pub risen_free : (place : ℕ) → place < lent_capacity after → (cell_at after place).held ≡ false
  risen_free place inside = ap (λ x. x.held) (rising.rises place (omega (arith, risen_capacity)))

  chain_rises : (from more number : ℕ) → from + more ≡ lent_capacity lent → number ≡ number_at from (lent_capacity lent) → Chain after number (rising_places from more)
  unfolding rising_places
  chain_rises from zero number end e = e ∙ number_past from (lent_capacity lent) (omega arith)
  chain_rises from (suc more) number end e =
      let inside : from < lent_capacity lent = omega arith in
      let cell : cell_at after from ≡ freed_cell (cell_at lent from) (number_at (from + 1) (lent_capacity lent)) = rising.rises from inside in (
        record {
          its_number = e ∙ number_inside from (lent_capacity lent) inside;
          inside = omega (arith, risen_capacity);
          unmarked = ap (λ x. x.held) cell;
        },
        lower_absent from (suc from) more (omega arith),
        chain_rises (suc from) more (first_word after from) (omega arith) (ap (λ x. x.words.element) cell ∙ ap (λ i. number_at i (lent_capacity lent)) (omega arith)),
      )

  pub risen_count : count (lent_cells after) ≡ 0
  risen_count = ap count (all_free_empty after risen_free) ∙ count_empty

  -- cells chained in rising order are in order, with none held
  pub risen_in_order : InOrder after first 0
  risen_in_order = record {
    places = rising_places 0 (lent_capacity lent);
    chain = chain_rises 0 (lent_capacity lent) first (omega arith) rising.starts;
    every_free = λ place inside unmarked. all_among place 0 (lent_capacity lent) (omega arith) (omega (arith, risen_capacity));
    others_held = omega (arith, as_many 0 (lent_capacity lent), risen_capacity);
    counted = sym risen_count;
  }
