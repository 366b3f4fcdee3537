-- Located values and the cells of a map: a cell that a value does not have may change; what is held after one cell is put or
-- removed; a node that is made, and one that is taken apart. Rests on the meaning of a store.
use Rattle.std.proofs.Common.{◌≡◌, ℕ, ◌+◌, ◌≤◌, Bool, true, false, cond, eqb, Some, None, Option, refl, ap, ◌∙◌, ⊎_elim, arith}
use Rattle.std.proofs.lemmas.Bool.{eq-eqb, ne_eqb, cases_eq, cond-true, cond-false}
use Rattle.cells.specs.declared.words.Words.{Words}
use Rattle.cells.specs.Cells.{Map, update, put, without, one_if}
use Rattle.cells.specs.Counts.{update_here, update_elsewhere}
use Rattle.plain.specs.Values.{nodes}
use Rattle.standing.specs.Located.{Located, a_number, no_node, in_cell, value, word, node_words, Stored, stored_number, stored_none, stored_node, one_where_same, occurrences}

pub one_here : (k : ℕ) → one_where_same k k ≡ 1
one_here k = cond-true (eqb k k) 1 0 (eq-eqb k k refl)

pub none_elsewhere : (c k : ℕ) → (c ≡ k → ⊥) → one_where_same c k ≡ 0
none_elsewhere c k h = cond-false (eqb c k) 1 0 (ne_eqb c k h)

pub at_most_one : (c k : ℕ) → one_where_same c k ≤ 1
at_most_one c k = go (eqb c k)
  where
    go : (b : Bool) → cond b 1 0 ≤ 1
    go true = omega arith
    go false = omega arith

-- a value has a cell no more often than it has nodes
pub occurs_within : (c : ℕ) (x : Located) → occurrences c x ≤ nodes (value x)
occurs_within c (a_number n) = omega arith
occurs_within c no_node = omega arith
occurs_within c (in_cell k x y) = omega (arith, at_most_one c k, occurs_within c x, occurs_within c y)

-- a cell that a value does not have may change
pub stored_beside : {m : Map} {x : Located} (k : ℕ) (entry : Option Words) → Stored m x → occurrences k x ≡ 0 → Stored (update m k entry) x
stored_beside k entry stored_number q = stored_number
stored_beside k entry stored_none q = stored_none
stored_beside {m} k entry (stored_node {c} {x} {y} big have sx sy) q =
    let other : (c ≡ k → ⊥) = λ e. omega (arith, one_here k, ap (λ j. one_where_same k j) e) in
    stored_node big (update_elsewhere m k entry c other ∙ have) (stored_beside k entry sx (omega arith)) (stored_beside k entry sy (omega arith))

-- what is held after a put where nothing was held, and after a removal
pub held_after_put : (m : Map) (k : ℕ) (w : Words) (c : ℕ) → m k ≡ None → one_if (put m k w c) ≡ one_if (m c) + one_where_same c k
held_after_put m k w c unheld = ⊎_elim
    (λ (e : c ≡ k). omega (arith, ap one_if (ap (put m k w) e ∙ update_here m k (Some w)), ap one_if (ap m e ∙ unheld), ap (λ j. one_where_same j k) e, one_here k))
    (λ (ne : c ≡ k → ⊥). omega (arith, ap one_if (update_elsewhere m k (Some w) c ne), none_elsewhere c k ne))
    (cases_eq c k)

pub held_after_removal : (m : Map) (k : ℕ) (w : Words) (c : ℕ) → m k ≡ Some w → one_if (without m k c) + one_where_same c k ≡ one_if (m c)
held_after_removal m k w c held = ⊎_elim
    (λ (e : c ≡ k). omega (arith, ap one_if (ap (without m k) e ∙ update_here m k None), ap one_if (ap m e ∙ held), ap (λ j. one_where_same j k) e, one_here k))
    (λ (ne : c ≡ k → ⊥). omega (arith, ap one_if (update_elsewhere m k None c ne), none_elsewhere c k ne))
    (cases_eq c k)

-- a node that is made in a cell that was not held
pub stored_new : {m : Map} {x y : Located} (k : ℕ) → 1 ≤ k → Stored m x → Stored m y → occurrences k x ≡ 0 → occurrences k y ≡ 0 →
    Stored (put m k (node_words (word x) (word y))) (in_cell k x y)
stored_new {m} {x} {y} k big sx sy nx ny =
    stored_node big (update_here m k (Some (node_words (word x) (word y)))) (stored_beside k _ sx nx) (stored_beside k _ sy ny)

-- the parts of a node that is stored
pub record Parts (m : Map) (k : ℕ) (x y : Located) : Type 0 where
  pub from_one : 1 ≤ k
  pub held : m k ≡ Some (node_words (word x) (word y))
  pub element : Stored m x
  pub tail : Stored m y

pub parts : {m : Map} {k : ℕ} {x y : Located} → Stored m (in_cell k x y) → Parts m k x y
parts (stored_node big have sx sy) = record { from_one = big; held = have; element = sx; tail = sy }
