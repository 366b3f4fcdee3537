-- As many cells are held as the live values have nodes: a sum over all cells, of the nodes in each. Rests on located values and on
-- how held cells are counted.
use Rattle.std.proofs.Common.{◌≡◌, ℕ, zero, suc, ◌+◌, ◌<◌, ◌≤◌, List, map, Some, refl, ap, ◌∙◌, ⊎_elim, arith}
use Rattle.std.proofs.lemmas.Bool.{cases_eq, cases_lt}
use Rattle.records.specs.declared.kinds.NodeType.{NodeType}
use Rattle.cells.specs.declared.words.Words.{Words}
use Rattle.cells.specs.Cells.{Map, Numbered, last_number, one_if, count_below, count}
use Rattle.rules.proofs.Truth.{impossible}
use Rattle.plain.specs.Values.{nodes}
use Rattle.plain.specs.Slots.{slot_nodes, slots_nodes}
use Rattle.plain.specs.Reading as plain
use Rattle.standing.specs.Located.{Located, value, Stored, stored_number, stored_none, stored_node, one_where_same, occurrences}
use Rattle.standing.specs.Rows.{LocatedSlot, Row, slot_value, row_values, slot_occurrences, row_occurrences, Kept, kept_vacant, kept_number, kept_list, KeptRow, kept_none, kept_more}
use Rattle.standing.specs.Standing.{LocatedFrame, frame_values, frames_occurrences, KeptFrames, no_frames, one_frame}
use Rattle.standing.specs.Law.{HeldAreTheNodesOfARun, HeldAreTheNodesOfAResult}
use Rattle.standing.proofs.Cells.{one_here, none_elsewhere}

-- the sum of what the numbers below n have
pub sum : (ℕ → ℕ) → ℕ → ℕ
sum f zero = 0
sum f (suc n) = f n + sum f n

sum_more : (f : ℕ → ℕ) (n : ℕ) → sum f (suc n) ≡ f n + sum f n
unfolding sum
sum_more f n = refl

sum_start : (f : ℕ → ℕ) → sum f zero ≡ 0
unfolding sum
sum_start f = refl

pub sum_none : (n : ℕ) → sum (λ c. 0) n ≡ 0
sum_none zero = sum_start (λ c. 0)
sum_none (suc n) = omega (arith, sum_more (λ c. 0) n, sum_none n)

pub sum_both : (f g : ℕ → ℕ) (n : ℕ) → sum (λ c. f c + g c) n ≡ sum f n + sum g n
sum_both f g zero = omega (arith, sum_start (λ c. f c + g c), sum_start f, sum_start g)
sum_both f g (suc n) = omega (arith, sum_more (λ c. f c + g c) n, sum_more f n, sum_more g n, sum_both f g n)

sum_before : (k n : ℕ) → n ≤ k → sum (λ c. one_where_same c k) n ≡ 0
sum_before k zero h = sum_start (λ c. one_where_same c k)
sum_before k (suc n) h =
    omega (arith, sum_more (λ c. one_where_same c k) n, sum_before k n (omega arith), none_elsewhere n k (λ q. omega arith))

sum_one : (k n : ℕ) → k < n → sum (λ c. one_where_same c k) n ≡ 1
sum_one k zero h = absurd (omega arith)
sum_one k (suc n) h = ⊎_elim
    (λ (q : n ≡ k). omega (arith, sum_more (λ c. one_where_same c k) n, sum_before k n (omega arith), ap (λ j. one_where_same j k) q, one_here k))
    (λ (q : n ≡ k → ⊥). omega (arith, sum_more (λ c. one_where_same c k) n, sum_one k n (omega arith), none_elsewhere n k q))
    (cases_eq n k)

-- one more than the last number
abbrev beyond : ℕ
beyond = 65536

module _ {m : Map} (below : (k : ℕ) (w : Words) → m k ≡ Some w → k < beyond) where
  pub sum_located : {x : Located} → Stored m x → sum (λ c. occurrences c x) beyond ≡ nodes (value x)
  sum_located stored_number = sum_none beyond
  sum_located stored_none = sum_none beyond
  sum_located (stored_node {c = k} {x} {y} big have sx sy) =
      omega (
        arith,
        sum_both (λ c. one_where_same c k + occurrences c x) (λ c. occurrences c y) beyond,
        sum_both (λ c. one_where_same c k) (λ c. occurrences c x) beyond,
        sum_one k beyond (below k _ have),
        sum_located sx,
        sum_located sy,
      )

  sum_slot : {ts : List NodeType} {x : LocatedSlot} → Kept ts m x → sum (λ c. slot_occurrences c x) beyond ≡ slot_nodes (slot_value x)
  sum_slot kept_vacant = sum_none beyond
  sum_slot kept_number = sum_none beyond
  sum_slot (kept_list l h s) = sum_located s

  pub sum_row : {ts : List NodeType} {R : Row} → KeptRow ts m R → sum (λ c. row_occurrences c R) beyond ≡ slots_nodes (row_values R)
  sum_row kept_none = sum_none beyond
  sum_row (kept_more {x = x} {R = R} y r) =
      omega (arith, sum_both (λ c. slot_occurrences c x) (λ c. row_occurrences c R) beyond, sum_slot y, sum_row r)

  sum_frames : {ts : List NodeType} {Ls : List LocatedFrame} → KeptFrames ts m Ls → sum (λ c. frames_occurrences c Ls) beyond ≡ plain.frames_nodes (map frame_values Ls)
  sum_frames no_frames = sum_none beyond
  sum_frames (one_frame {f = f} {fs = fs} l x r) =
      omega (arith, sum_both (λ c. row_occurrences c f.row) (λ c. frames_occurrences c fs) beyond, sum_row x, sum_frames r)

held_below : (m : Map) (f : ℕ → ℕ) → ((c : ℕ) → f c ≡ one_if (m c)) → (n : ℕ) → count_below m n ≡ sum f n
unfolding count_below sum
held_below m f h zero = refl
held_below m f h (suc n) = omega (arith, h n, held_below m f h n)

pub held_as_summed : (m : Map) (f : ℕ → ℕ) → ((c : ℕ) → f c ≡ one_if (m c)) → count m ≡ sum f beyond
unfolding count
held_as_summed m f h = held_below m f h (last_number + 1)

pub held_below_last : (m : Map) → Numbered m → (k : ℕ) (w : Words) → m k ≡ Some w → k < beyond
held_below_last m numbered k w q = ⊎_elim (λ small. small)
    (λ far. let unheld = numbered.not_above k (omega arith) in impossible (cc))
    (cases_lt k beyond)

pub held_are_the_nodes_of_a_run : HeldAreTheNodesOfARun
held_are_the_nodes_of_a_run ts m words values numbered stands =
    held_as_summed m (λ c. frames_occurrences c stands.located) stands.owned ∙
    (sum_frames (held_below_last m numbered) stands.kept ∙ ap plain.frames_nodes stands.as_values)

pub held_are_the_nodes_of_a_result : HeldAreTheNodesOfAResult
held_are_the_nodes_of_a_result ts m words v numbered stands =
    held_as_summed m (λ c. slot_occurrences c stands.located) stands.owned ∙
    (sum_slot (held_below_last m numbered) stands.kept ∙ ap slot_nodes stands.as_value)
