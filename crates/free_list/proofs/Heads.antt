-- A free list whose head is taken, and one whose head a held cell becomes: the chain that this leaves, and what it means to the
-- interface. Rests on how a chain changes.
use Rattle.std.proofs.Common.{◌≡◌, ℕ, ◌+◌, ◌-◌, ◌<◌, ◌≤◌, List, set, sym, ap, ◌∙◌, arith}
use Rattle.cells.specs.declared.words.Words.{Words}
use Rattle.cells.specs.Cells.{Held, Unheld, put, without, count}
use Rattle.cells.specs.Outcomes.{Placed, Ended}
use Rattle.cells.proofs.Reasoning.{put_counts_one_more, removal_counts_one_less}
use Rattle.free_list.specs.declared.lent.LentCell.{LentCell}
use Rattle.free_list.specs.declared.list.FreeList.{FreeList}
use Rattle.free_list.specs.Lent.{cell_at, lent_capacity, lent_cells, HeldAt}
use Rattle.free_list.specs.Chain.{first_word, Leads, InOrder, freed_cell}
use Rattle.free_list.specs.Calls.{lent_to, list_cells, list_capacity, marked_cell}
use Rattle.free_list.specs.Places.{free_unheld, marked_held, written}
use Rattle.free_list.proofs.Chains.{capacity_written, no_head, head_leads, taken_in_order, given_in_order}

-- where there is no head, as many are held as can be
pub all_taken : (list : FreeList) → list.head ≡ 0 → list.taken ≡ list_capacity list
all_taken list none = no_head (lent_to list) list.taken list.head list.order.places list.order.chain none list.order.others_held

module _ (list : FreeList) (some : list.head ≡ 0 → ⊥) where
  head_is_free : Leads (lent_to list) list.head (list.head - 1) × (list.taken < list_capacity list)
  head_is_free = head_leads (lent_to list) list.taken list.head list.order.places list.order.chain some list.order.others_held

  pub head_inside : list.head - 1 < list_capacity list
  head_inside = head_is_free.0.inside

  pub room : list.taken < list_capacity list
  room = head_is_free.1

  module _ (words : Words) where
    abbrev after : List LentCell
    after = set (lent_to list) (list.head - 1) (marked_cell words)

    unheld : Unheld (list_cells list) list.head
    unheld = free_unheld (lent_to list) list.head (list.head - 1) head_is_free.0.its_number (omega (arith, head_inside)) head_is_free.0.unmarked

    pub head_puts : lent_cells after ≡ put (list_cells list) list.head words
    head_puts =
        written (lent_to list) (list.head - 1) (marked_cell words) head_inside
        ∙ ap (λ k. put (list_cells list) k words) (sym head_is_free.0.its_number)

    one_more : count (lent_cells after) ≡ count (list_cells list) + 1
    one_more = ap count head_puts ∙ put_counts_one_more (list_cells list) list.head words (omega (arith, head_is_free.0.its_number, head_inside)) unheld

    pub taken_orders : InOrder after (first_word (lent_to list) (list.head - 1)) (list.taken + 1)
    taken_orders = taken_in_order (lent_to list) list.taken list.head words some list.order (omega (arith, list.order.counted, one_more))

    pub taken_placed : Placed (list_cells list) (list_capacity list) words list.head (lent_cells after) (lent_capacity after)
    taken_placed = record {
      room = omega (arith, list.order.counted, room);
      from_one = omega (arith, head_is_free.0.its_number);
      to_the_last = omega (arith, head_is_free.0.its_number, head_inside);
      unheld = unheld;
      now_held = head_puts;
      one_more = one_more;
      same_capacity = capacity_written (lent_to list) (list.head - 1) (marked_cell words);
    }

-- a held cell is given to the head
module _ (list : FreeList) (number place : ℕ) (found : HeldAt (lent_to list) number place) where
  abbrev left : List LentCell
  left = set (lent_to list) place (freed_cell (cell_at (lent_to list) place) list.head)

  held : Held (list_cells list) number
  held = marked_held (lent_to list) number place found.its_number (omega (arith, found.inside)) found.marked

  head_removes : lent_cells left ≡ without (list_cells list) number
  head_removes =
      written (lent_to list) place (freed_cell (cell_at (lent_to list) place) list.head) found.inside ∙ ap (without (list_cells list)) (sym found.its_number)

  one_less : count (lent_cells left) + 1 ≡ count (list_cells list)
  one_less = ap (λ m. count m + 1) head_removes ∙ removal_counts_one_less (list_cells list) number (omega (arith, found.its_number, found.inside)) held

  pub some_taken : 1 ≤ list.taken
  some_taken = omega (arith, list.order.counted, one_less)

  pub given_orders : InOrder left number (list.taken - 1)
  given_orders = given_in_order (lent_to list) list.taken list.head number place found.its_number found.inside found.marked list.order
      (omega (arith, list.order.counted, one_less)) some_taken

  pub given_ended : Ended (list_cells list) (list_capacity list) number (lent_cells left) (lent_capacity left)
  given_ended = record {
    was_held = held;
    now_unheld = head_removes;
    one_less = one_less;
    same_capacity = capacity_written (lent_to list) place (freed_cell (cell_at (lent_to list) place) list.head);
  }
