-- How lent cells stand for the held cells: what each number reads, and what writing one cell does to the map. Rests on the
-- counts of the interface.
use Rattle.std.proofs.Math.Path.{fun_ext}
use Rattle.std.proofs.Common.{◌≡◌, ℕ, zero, suc, ◌+◌, ◌<◌, ◌≤◌, true, false, ltb, List, set, is_some, Some, None, sym, refl, ap, ◌∙◌, ⊎_elim, add-one, arith}
use Rattle.std.proofs.lemmas.Bool.{cases_eq, cases_lt, cond-true, cond-false, lt-ltb, le-ltb}
use Rattle.std.proofs.lemmas.List.{get_or-set_same, get_or-set_other, get_or_past}
use Rattle.cells.specs.Cells.{last_number, Held, Unheld, Numbered, empty, update}
use Rattle.cells.specs.Counts.{update_here, update_elsewhere}
use Rattle.free_list.specs.declared.lent.LentCell.{LentCell}
use Rattle.free_list.specs.Lent.{no_cell, cell_at, lent_capacity, shown, lent_cells}

shown_free : (cell : LentCell) → cell.held ≡ false → shown cell ≡ None
shown_free cell e = rw e

shown_held : (cell : LentCell) → cell.held ≡ true → shown cell ≡ Some cell.words
shown_held cell e = rw e

module _ (lent : List LentCell) where
  -- a number with a cell reads as its cell shows
  number_reads : (number place : ℕ) → number ≡ place + 1 → place < last_number → lent_cells lent number ≡ shown (cell_at lent place)
  number_reads number place e small =
      rw (e, add-one) (cond-true (ltb place last_number) (shown (cell_at lent place)) None (lt-ltb place last_number small))

  pub free_unheld : (number place : ℕ) → number ≡ place + 1 → place < last_number → (cell_at lent place).held ≡ false → Unheld (lent_cells lent) number
  free_unheld number place e small free = number_reads number place e small ∙ shown_free (cell_at lent place) free

  pub marked_reads : (number place : ℕ) → number ≡ place + 1 → place < last_number → (cell_at lent place).held ≡ true
      → lent_cells lent number ≡ Some (cell_at lent place).words
  marked_reads number place e small marked = number_reads number place e small ∙ shown_held (cell_at lent place) marked

  pub marked_held : (number place : ℕ) → number ≡ place + 1 → place < last_number → (cell_at lent place).held ≡ true → Held (lent_cells lent) number
  marked_held number place e small marked = ap is_some (marked_reads number place e small marked)

  pub zero_unheld : (number : ℕ) → number ≡ 0 → Unheld (lent_cells lent) number
  zero_unheld number e = rw e

  -- no number past the capacity is held
  pub past_unheld : (number : ℕ) → lent_capacity lent < number → Unheld (lent_cells lent) number
  past_unheld zero above = refl
  past_unheld (suc place) above = ⊎_elim
      (λ (small : place < last_number).
      number_reads (suc place) place (omega arith) small ∙ shown_free (cell_at lent place) (ap (λ cell. cell.held) (get_or_past lent place no_cell (omega arith))))
      (λ (large : last_number ≤ place). cond-false (ltb place last_number) (shown (cell_at lent place)) None (le-ltb place last_number large))
      (cases_lt place last_number)

  pub numbers_held : Numbered (lent_cells lent)
  numbers_held = record { not_zero = refl; not_above = λ number above. past_unheld number (omega arith) }

  -- where every cell is free, none is held
  pub all_free_empty : ((place : ℕ) → place < lent_capacity lent → (cell_at lent place).held ≡ false) → lent_cells lent ≡ empty
  all_free_empty free = fun_ext at
    where
      at : (number : ℕ) → lent_cells lent number ≡ None
      at zero = refl
      at (suc place) = ⊎_elim
          (λ (inside : place < lent_capacity lent). free_unheld (suc place) place (omega arith) (omega arith) (free place inside))
          (λ (past : lent_capacity lent ≤ place). past_unheld (suc place) (omega arith))
          (cases_lt place (lent_capacity lent))

  -- a cell written at one place alters the map at one number
  pub written : (place : ℕ) (cell : LentCell) → place < lent_capacity lent
      → lent_cells (set lent place cell) ≡ update (lent_cells lent) (place + 1) (shown cell)
  written place cell inside = fun_ext at
    where
      at : (number : ℕ) → lent_cells (set lent place cell) number ≡ update (lent_cells lent) (place + 1) (shown cell) number
      at zero = sym (update_elsewhere (lent_cells lent) (place + 1) (shown cell) 0 (λ e. omega arith))
      at (suc other) = ⊎_elim
          (λ (e : other ≡ place).
          cond-true (ltb other last_number) (shown (cell_at (set lent place cell) other)) None (lt-ltb other last_number (omega arith))
          ∙ (ap shown (ap (cell_at (set lent place cell)) e ∙ get_or-set_same lent place cell no_cell (omega arith))
          ∙ sym (ap (update (lent_cells lent) (place + 1) (shown cell)) (omega arith) ∙ update_here (lent_cells lent) (place + 1) (shown cell))))
          (λ (ne : other ≡ place → ⊥).
          rw (get_or-set_other lent place other cell no_cell ne)
          (sym (update_elsewhere (lent_cells lent) (place + 1) (shown cell) (suc other) (λ e. ne (omega arith)))))
          (cases_eq other place)
