-- How the chain of the free cells changes: a cell taken from its head, and one given to it.
use Rattle.std.proofs.Common.{◌≡◌, ℕ, ◌+◌, ◌-◌, ◌<◌, ◌≤◌, true, false, List, [], ◌∷◌, length, set, sym, ap, ◌∙◌, subst, inl, inr, ⊎_elim, arith}
use Rattle.std.proofs.lemmas.Bool.{cases_eq, both_ways}
use Rattle.std.proofs.lemmas.List.{get_or-set_same, get_or-set_other, length-set}
use Rattle.cells.specs.Cells.{count}
use Rattle.cells.specs.declared.words.Words.{Words}
use Rattle.free_list.specs.declared.lent.LentCell.{LentCell}
use Rattle.free_list.specs.Lent.{no_cell, cell_at, lent_capacity, lent_cells}
use Rattle.free_list.specs.Chain.{Among, Absent, first_word, Leads, Chain, InOrder, freed_cell}
use Rattle.free_list.specs.Calls.{marked_cell}

-- ---- one cell written

pub capacity_written : (lent : List LentCell) (place : ℕ) (cell : LentCell) → lent_capacity (set lent place cell) ≡ lent_capacity lent
capacity_written lent place cell = simp length-set

-- a chain that does not pass a place stays when that place is written
chain_stays : (lent : List LentCell) (place : ℕ) (cell : LentCell) (number : ℕ) (places : List ℕ) → Chain lent number places → Absent place places → Chain (set lent place cell) number places
chain_stays lent place cell number [] chain absent = chain
chain_stays lent place cell number (other ∷ rest) chain absent =
    let same : cell_at (set lent place cell) other ≡ cell_at lent other = get_or-set_other lent place other cell no_cell (λ e. absent.0 (sym e)) in (
      record {
        its_number = chain.0.its_number;
        inside = omega (arith, chain.0.inside, capacity_written lent place cell);
        unmarked = ap (λ x. x.held) same ∙ chain.0.unmarked;
      },
      chain.1,
      subst (λ (x : LentCell). Chain (set lent place cell) x.words.element rest) (sym same) (chain_stays lent place cell (first_word lent other) rest chain.2 absent.1),
    )

-- no chain passes a held cell
held_absent : (lent : List LentCell) (place number : ℕ) (places : List ℕ) → Chain lent number places → (cell_at lent place).held ≡ true → Absent place places
held_absent lent place number [] chain marked = tt
held_absent lent place number (other ∷ rest) chain marked = (
  (λ e. both_ways (cell_at lent other).held chain.0.unmarked (subst (λ (i : ℕ). (cell_at lent i).held ≡ true) e marked)),
  held_absent lent place (first_word lent other) rest chain.2 marked,
)

-- ---- the head

-- where there is no head, no cell is free
pub no_head : (lent : List LentCell) (taken first : ℕ) (places : List ℕ) → Chain lent first places → first ≡ 0 → length places + taken ≡ lent_capacity lent → taken ≡ lent_capacity lent
no_head lent taken first [] chain e others = omega (arith, others)
no_head lent taken first (place ∷ rest) chain e others = absurd (omega (arith, chain.0.its_number))

-- a head leads to the place below it, and not all cells are held
pub head_leads : (lent : List LentCell) (taken first : ℕ) (places : List ℕ) → Chain lent first places → (first ≡ 0 → ⊥) → length places + taken ≡ lent_capacity lent → Leads lent first (first - 1) × (taken < lent_capacity lent)
head_leads lent taken first [] chain ne others = absurd (ne chain)
head_leads lent taken first (place ∷ rest) chain ne others =
    let e : place ≡ first - 1 = omega (arith, chain.0.its_number) in
    (subst (λ (i : ℕ). Leads lent first i) e chain.0, omega (arith, others))

-- ---- taking

rest_in_order : (lent : List LentCell) (taken first : ℕ) (words : Words) (place : ℕ) (rest : List ℕ) → Chain lent first (place ∷ rest)
    → ((other : ℕ) → other < lent_capacity lent → (cell_at lent other).held ≡ false → Among other (place ∷ rest)) → length (place ∷ rest) + taken ≡ lent_capacity lent
    → taken + 1 ≡ count (lent_cells (set lent place (marked_cell words))) → InOrder (set lent place (marked_cell words)) (first_word lent place) (taken + 1)
rest_in_order lent taken first words place rest chain every others more = record {
  places = rest;
  chain = chain_stays lent place (marked_cell words) (first_word lent place) rest chain.2 chain.1;
  every_free = free;
  others_held = omega (arith, others, capacity_written lent place (marked_cell words));
  counted = more;
}
  where
    free : (other : ℕ) → other < lent_capacity (set lent place (marked_cell words)) → (cell_at (set lent place (marked_cell words)) other).held ≡ false → Among other rest
    free other inside unmarked = ⊎_elim
        (λ (e : other ≡ place). absurd
        (both_ways (cell_at (set lent place (marked_cell words)) place).held
        (subst (λ (i : ℕ). (cell_at (set lent place (marked_cell words)) i).held ≡ false) e unmarked)
        (ap (λ x. x.held) (get_or-set_same lent place (marked_cell words) no_cell (omega (arith, chain.0.inside))))))
        (λ (ne : other ≡ place → ⊥). ⊎_elim (λ (e : other ≡ place). absurd (ne e)) (λ among. among)
        (every other (omega (arith, inside, capacity_written lent place (marked_cell words)))
        (subst (λ (x : LentCell). x.held ≡ false) (get_or-set_other lent place other (marked_cell words) no_cell ne) unmarked)))
        (cases_eq other place)

-- the cell at the head is taken
pub taken_in_order : (lent : List LentCell) (taken first : ℕ) (words : Words) → (first ≡ 0 → ⊥) → InOrder lent first taken
    → taken + 1 ≡ count (lent_cells (set lent (first - 1) (marked_cell words)))
    → InOrder (set lent (first - 1) (marked_cell words)) (first_word lent (first - 1)) (taken + 1)
taken_in_order lent taken first words ne order more = by order.places order.chain order.every_free order.others_held
  where
    by : (places : List ℕ) → Chain lent first places → ((other : ℕ) → other < lent_capacity lent → (cell_at lent other).held ≡ false → Among other places) → length places + taken ≡ lent_capacity lent
        → InOrder (set lent (first - 1) (marked_cell words)) (first_word lent (first - 1)) (taken + 1)
    by [] chain every others = absurd (ne chain)
    by (place ∷ rest) chain every others =
        let e : place ≡ first - 1 = omega (arith, chain.0.its_number) in
        subst (λ (i : ℕ). InOrder (set lent i (marked_cell words)) (first_word lent i) (taken + 1)) e
        (rest_in_order lent taken first words place rest chain every others (subst (λ (i : ℕ). taken + 1 ≡ count (lent_cells (set lent i (marked_cell words)))) (sym e) more))

-- ---- giving

-- a held cell is given to the head
pub given_in_order : (lent : List LentCell) (taken first number place : ℕ) → number ≡ place + 1 → place < lent_capacity lent → (cell_at lent place).held ≡ true → InOrder lent first taken
    → taken - 1 ≡ count (lent_cells (set lent place (freed_cell (cell_at lent place) first))) → 1 ≤ taken
    → InOrder (set lent place (freed_cell (cell_at lent place) first)) number (taken - 1)
given_in_order lent taken first number place e inside marked order less some = record {
  places = place ∷ order.places;
  chain = (
    record { its_number = e; inside = omega (arith, inside, capacity_written lent place freed); unmarked = ap (λ x. x.held) here },
    absent,
    subst (λ (x : LentCell). Chain (set lent place freed) x.words.element order.places) (sym here) (chain_stays lent place freed first order.places order.chain absent),
  );
  every_free = free;
  others_held = omega (arith, order.others_held, capacity_written lent place freed);
  counted = less;
}
  where
    freed : LentCell
    freed = freed_cell (cell_at lent place) first

    here : cell_at (set lent place freed) place ≡ freed
    here = get_or-set_same lent place freed no_cell (omega arith)

    absent : Absent place order.places
    absent = held_absent lent place first order.places order.chain marked

    free : (other : ℕ) → other < lent_capacity (set lent place freed) → (cell_at (set lent place freed) other).held ≡ false → Among other (place ∷ order.places)
    free other within unmarked = ⊎_elim
        (λ (same : other ≡ place). inl same)
        (λ (ne : other ≡ place → ⊥). inr
        (order.every_free other (omega (arith, within, capacity_written lent place freed))
        (subst (λ (x : LentCell). x.held ≡ false) (get_or-set_other lent place other freed no_cell ne) unmarked)))
        (cases_eq other place)
