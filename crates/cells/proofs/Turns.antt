-- What turning one mark of a pool makes of its cells, and of how many are held. Rests on the places of a pool.
use Rattle.std.proofs.Common.{◌≡◌, ℕ, ◌+◌, ◌-◌, ◌≤◌, Bool, true, false, not, List, set, sym, ap, ◌∙◌, arith}
use Rattle.bits.specs.Flags.{turned}
use Rattle.cells.specs.declared.words.Words.{Words}
use Rattle.cells.specs.declared.pool.Pool.{Pool}
use Rattle.cells.specs.Cells.{Held, Unheld, put, without, count}
use Rattle.cells.specs.Rows.{pool_capacity, numbered_from_one}
use Rattle.cells.specs.Pool.{marks_of, pool_cells}
use Rattle.cells.specs.Places.{marks_long, held_marked, unheld_unmarked, set_puts, clear_removes}
use Rattle.cells.proofs.Reasoning.{put_counts_one_more, removal_counts_one_less}

module _ (pool : Pool) (number : ℕ) (after : List Bool) (turns : after ≡ turned (marks_of pool) (number - 1)) where
  -- turned where no cell was held, it puts the one whose row is written
  module _ (words : Words) (from_one : 1 ≤ number) (in_pool : number ≤ pool_capacity) (unheld : Unheld (pool_cells pool) number) where
    pub holds : numbered_from_one after (set pool.rows (number - 1) words) ≡ put (pool_cells pool) number words
    holds =
        let one_above : number ≡ number - 1 + 1 = omega arith in
        let now_set : after ≡ set (marks_of pool) (number - 1) true =
        turns ∙ ap (λ b. set (marks_of pool) (number - 1) (not b)) (unheld_unmarked (marks_of pool) pool.rows number (number - 1) one_above unheld) in
        ap (λ m. numbered_from_one m (set pool.rows (number - 1) words)) now_set
        ∙ (set_puts (marks_of pool) pool.rows (number - 1) words (omega (arith, marks_long pool)) (omega (arith, pool.all_rows))
        ∙ ap (λ k. put (pool_cells pool) k words) (sym one_above))

    pub holds_one_more : count (numbered_from_one after (set pool.rows (number - 1) words)) ≡ count (pool_cells pool) + 1
    holds_one_more = ap count holds ∙ put_counts_one_more (pool_cells pool) number words (omega arith) unheld

  -- turned where a cell was held, it removes that
  module _ (held : Held (pool_cells pool) number) where
    pub releases : numbered_from_one after pool.rows ≡ without (pool_cells pool) number
    releases =
        let marked = held_marked (marks_of pool) pool.rows number held in
        let one_above : number ≡ number - 1 + 1 = omega (arith, marked.0) in
        let now_clear : after ≡ set (marks_of pool) (number - 1) false = turns ∙ ap (λ b. set (marks_of pool) (number - 1) (not b)) marked.2 in
        ap (λ m. numbered_from_one m pool.rows) now_clear
        ∙ (clear_removes (marks_of pool) pool.rows (number - 1) (omega (arith, marked.0, marked.1)) ∙ ap (without (pool_cells pool)) (sym one_above))

    pub releases_one_less : count (numbered_from_one after pool.rows) + 1 ≡ count (pool_cells pool)
    releases_one_less =
        let marked = held_marked (marks_of pool) pool.rows number held in
        ap (λ m. count m + 1) releases ∙ removal_counts_one_less (pool_cells pool) number (omega (arith, marked.1, marks_long pool)) held
