-- How the marks and rows of a pool stand for its cells: which numbers they hold, how many, and what turning one mark does.
-- Rests on the counts, and on the laws of a row of flags.
use Rattle.std.specs.Prelude.{◌≡◌, ℕ, zero, suc, ◌+◌, ◌-◌, ◌<◌, ◌≤◌, Bool, true, false, cond, List, length, take, replicate, is_some, Some, None, slice_index_or, slice_set}
use Rattle.std.proofs.Math.Path.{refl, ap, fun_ext}
use Rattle.std.proofs.Common.{sym, ◌∙◌, ⊎_elim, arith, add-one}
use Rattle.std.proofs.lemmas.Bool.{cases_eq, cases_lt}
use Rattle.std.proofs.lemmas.List.{get_or-set_same, get_or-set_other, get_or_past, length-set, take_all}
use Rattle.bits.specs.declared.Flags.{Flags}
use Rattle.bits.specs.Flags.{flags, flag, how_many}
use Rattle.bits.proofs.Rows.{flags_length, many_at_most, many_in_all, many_one_more, many_written}
use Rattle.cells.specs.declared.words.Words.{Words}
use Rattle.cells.specs.declared.pool.Pool.{Pool}
use Rattle.cells.specs.Cells.{last_number, Held, Unheld, Numbered, empty, put, without, one_if, count_below, count}
use Rattle.cells.specs.Rows.{pool_capacity, no_words, at_place, numbered_from_one}
use Rattle.cells.specs.Pool.{marks_of, pool_cells}
use Rattle.cells.specs.Counts.{update_here, update_elsewhere, count_empty}

-- ---- one place

pub at_set : (marks : List Bool) (rows : List Words) (place : ℕ) → flag marks place ≡ true → at_place marks rows place ≡ Some (slice_index_or rows place no_words)
at_set marks rows place e = rw e

pub at_clear : (marks : List Bool) (rows : List Words) (place : ℕ) → flag marks place ≡ false → at_place marks rows place ≡ None
at_clear marks rows place e = rw e

held_if_set : (b : Bool) (words : Words) → is_some (cond b (Some words) None) ≡ b
held_if_set true words = refl
held_if_set false words = refl

one_at_place : (b : Bool) (words : Words) → one_if (cond b (Some words) None) ≡ cond b 1 0
one_at_place true words = refl
one_at_place false words = refl

unheld_if_clear : (b : Bool) (words : Words) → cond b (Some words) None ≡ None → b ≡ false
unheld_if_clear true words e = cc
unheld_if_clear false words e = refl

module _ (marks : List Bool) (rows : List Words) where
  -- a held number has its mark set, one place below
  pub held_marked : (number : ℕ) → Held (numbered_from_one marks rows) number → (1 ≤ number) × (number ≤ length marks) × (flag marks (number - 1) ≡ true)
  held_marked zero h = absurd (let z : ◌≡◌ {A = ℕ} 0 1 = cc in omega arith)
  held_marked (suc place) h =
      let set_here : flag marks place ≡ true = sym (held_if_set (flag marks place) (slice_index_or rows place no_words)) ∙ h in
      let inside : place < length marks = ⊎_elim (λ lt. lt) (λ le. absurd (let p = get_or_past marks place false le in let z : ◌≡◌ {A = ℕ} 0 1 = cc in omega arith)) (cases_lt place (length marks)) in
      (omega arith, omega arith, ap (flag marks) (omega arith) ∙ set_here)

  pub marked_held : (number place : ℕ) → number ≡ place + 1 → flag marks place ≡ true → Held (numbered_from_one marks rows) number
  marked_held number place e h = rw (e, add-one) (held_if_set (flag marks place) (slice_index_or rows place no_words) ∙ h)

  pub unheld_unmarked : (number place : ℕ) → number ≡ place + 1 → Unheld (numbered_from_one marks rows) number → flag marks place ≡ false
  unheld_unmarked number place e h = unheld_if_clear (flag marks place) (slice_index_or rows place no_words) (rw (e, add-one) at h)

  pub unmarked_unheld : (number place : ℕ) → number ≡ place + 1 → flag marks place ≡ false → Unheld (numbered_from_one marks rows) number
  unmarked_unheld number place e h = rw (e, add-one) (at_clear marks rows place h)

  -- no number past the last mark is held
  pub numbers_held : length marks ≤ last_number → Numbered (numbered_from_one marks rows)
  numbers_held short = record { not_zero = refl; not_above = above }
    where
      above : (number : ℕ) → last_number < number → Unheld (numbered_from_one marks rows) number
      above zero h = refl
      above (suc place) h = at_clear marks rows place (get_or_past marks place false (omega arith))

  count_so_far : (n : ℕ) → count_below (numbered_from_one marks rows) (suc n) ≡ how_many (take n marks)
  unfolding count_below
  count_so_far zero = refl
  count_so_far (suc n) = omega (arith, count_so_far n, one_at_place (flag marks n) (slice_index_or rows n no_words), many_one_more marks n)

  -- as many cells are held as marks are set
  pub count_marks : length marks ≤ last_number → count (numbered_from_one marks rows) ≡ how_many marks
  unfolding count
  count_marks short = count_so_far last_number ∙ ap how_many (take_all last_number marks short)

  -- a mark set and its row written put the cell
  pub set_puts : (place : ℕ) (words : Words) → place < length marks → place < length rows
      → numbered_from_one (slice_set marks place true) (slice_set rows place words) ≡ put (numbered_from_one marks rows) (place + 1) words
  set_puts place words in_marks in_rows = fun_ext at
    where
      at : (number : ℕ) → numbered_from_one (slice_set marks place true) (slice_set rows place words) number ≡ put (numbered_from_one marks rows) (place + 1) words number
      at zero = sym (update_elsewhere (numbered_from_one marks rows) (place + 1) (Some words) 0 (λ e. omega arith))
      at (suc other) = ⊎_elim
          (λ (e : other ≡ place).
          rw (e, get_or-set_same marks place true false in_marks, get_or-set_same rows place words no_words in_rows)
          (sym (ap (put (numbered_from_one marks rows) (place + 1) words) (sym (add-one place)) ∙ update_here (numbered_from_one marks rows) (place + 1) (Some words))))
          (λ (ne : other ≡ place → ⊥).
          rw (get_or-set_other marks place other true false ne, get_or-set_other rows place other words no_words ne)
          (sym (update_elsewhere (numbered_from_one marks rows) (place + 1) (Some words) (suc other) (λ e. ne (omega arith)))))
          (cases_eq other place)

  -- a mark cleared removes the cell
  pub clear_removes : (place : ℕ) → place < length marks
      → numbered_from_one (slice_set marks place false) rows ≡ without (numbered_from_one marks rows) (place + 1)
  clear_removes place in_marks = fun_ext at
    where
      at : (number : ℕ) → numbered_from_one (slice_set marks place false) rows number ≡ without (numbered_from_one marks rows) (place + 1) number
      at zero = sym (update_elsewhere (numbered_from_one marks rows) (place + 1) None 0 (λ e. omega arith))
      at (suc other) = ⊎_elim
          (λ (e : other ≡ place).
          rw (e, get_or-set_same marks place false false in_marks)
          (sym (ap (without (numbered_from_one marks rows) (place + 1)) (sym (add-one place)) ∙ update_here (numbered_from_one marks rows) (place + 1) None)))
          (λ (ne : other ≡ place → ⊥).
          rw (get_or-set_other marks place other false false ne)
          (sym (update_elsewhere (numbered_from_one marks rows) (place + 1) None (suc other) (λ e. ne (omega arith)))))
          (cases_eq other place)

-- ---- how many cells a pool holds

flags_long : (marks : Flags) → length (flags marks.words) ≡ pool_capacity
flags_long marks = omega (arith, flags_length marks.words, marks.long)

pub marks_long : (pool : Pool) → length (marks_of pool) ≡ pool_capacity
marks_long pool = flags_long pool.marks

-- no more than it has
pub count_within : (marks : Flags) (rows : List Words) → count (numbered_from_one (flags marks.words) rows) ≤ pool_capacity
count_within marks rows =
    let row = flags marks.words in
    omega (arith, count_marks row rows (omega (arith, flags_long marks)), many_at_most row, flags_long marks)

-- all, where every mark is set
pub count_all_set : (pool : Pool) → ((j : ℕ) → j < length (marks_of pool) → flag (marks_of pool) j ≡ true) → count (pool_cells pool) ≡ pool_capacity
count_all_set pool all =
    omega (arith, count_marks (marks_of pool) pool.rows (omega (arith, marks_long pool)), many_in_all (marks_of pool) all, marks_long pool)

-- fewer, where one is clear: with that one set too they would be no more than all
pub count_one_clear : (pool : Pool) (place : ℕ) → place < length (marks_of pool) → flag (marks_of pool) place ≡ false → count (pool_cells pool) < pool_capacity
count_one_clear pool place inside clear =
    let row = marks_of pool in
    let more : how_many (slice_set row place true) ≡ how_many row + 1 = omega (arith, rw clear at (many_written row place true inside)) in
    omega (arith, count_marks row pool.rows (omega (arith, marks_long pool)), many_at_most (slice_set row place true), length-set row place true, marks_long pool)

none_is_clear : (n place : ℕ) → flag (replicate n false) place ≡ false
none_is_clear zero place = refl
none_is_clear (suc n) zero = refl
none_is_clear (suc n) (suc place) = none_is_clear n place

-- no mark set holds no cell
pub none_empty : (n : ℕ) (rows : List Words) → numbered_from_one (replicate n false) rows ≡ empty
none_empty n rows = fun_ext at
  where
    at : (number : ℕ) → numbered_from_one (replicate n false) rows number ≡ None
    at zero = refl
    at (suc place) = at_clear (replicate n false) rows place (none_is_clear n place)

-- where no mark is set, no cell is held
pub unmarked_empty : (marks : List Bool) (rows : List Words) → marks ≡ replicate 1024 false → numbered_from_one marks rows ≡ empty
unmarked_empty marks rows e = ap (λ x. numbered_from_one x rows) e ∙ none_empty 1024 rows

pub unmarked_count : (marks : List Bool) (rows : List Words) → marks ≡ replicate 1024 false → count (numbered_from_one marks rows) ≡ 0
unmarked_count marks rows e = ap count (unmarked_empty marks rows e) ∙ count_empty
