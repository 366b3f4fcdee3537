-- Load, feed, fund and pull keep a service in order.
use Rattle.std.proofs.Common.{◌≡◌, ℕ, ◌≤◌, Bool, true, false, eqb, ltb, leb, List, [], ◌∷◌, length, Some, None, Ok, Err, Option, Result, sym, refl, subst, arith, ltb-true, eqb-true}
use Rattle.records.specs.declared.faults.Fault.{Fault}
use Rattle.rules.specs.Types.{type_record, type_of}
use Rattle.rules.specs.Programs.{Tables}
use Rattle.rules.specs.Lawful.{Lawful}
use Rattle.rules.specs.Tests.{both, is_list_type}
use Rattle.rules.specs.Verdict.{verdict}
use Rattle.rules.proofs.Truth.{split}
use Rattle.rules.proofs.Numbered.{type_of_list, list_type_true}
use Rattle.rules.proofs.Holds.{check_accepts_what_the_rules_derive}
use Rattle.plain.specs.Values.{Value, num, empty, node, nodes, HasType, is_num, is_empty, is_node}
use Rattle.plain.specs.Calls.{fund, Refusal}
use Rattle.plain.specs.States.{Sheet, Entry, entry, State, open_with, entries_nodes, free, price_of, Served}
use Rattle.plain.specs.Feeding.{loaded, Fed, a_number, an_empty, a_node, entry_limit, unless_refused, pushed, joined, fed_with, are_parameters}
use Rattle.plain.specs.Running.{pull_result}
use Rattle.plain.specs.Service.{state_after}
use Rattle.plain.specs.Funded.{Numbers, no_numbers, one_number, EntriesTyped, no_entries, one_entry}
use Rattle.plain.specs.Law.{spare_at}
use Rattle.plain.specs.Order.{InOrder, open_in_order, running_in_order, done_in_order}
use Rattle.plain.proofs.Funding.{tested_pays}

module _ (capacity : ℕ) where
  pub emptied : {s : Sheet} → Lawful s.bytes s.tables → InOrder capacity (open_with s [])
  emptied lawful = open_in_order lawful no_entries (omega arith) (omega arith)

  -- a test that fails leaves the state
  by_test : {s : State} (t : Bool) (r : Refusal) (rest : Served) → InOrder capacity s → (t ≡ true → InOrder capacity rest.after) →
      InOrder capacity (unless_refused t r s rest).after
  by_test true r rest here then = then refl
  by_test false r rest here then = here

  pub loads : (s : State) (bytes : List ℕ) (x : Result Tables Fault) → verdict bytes ≡ x → InOrder capacity s → InOrder capacity (loaded bytes x s).after
  loads s bytes (Ok t) e here = emptied ((check_accepts_what_the_rules_derive bytes t).0 e)
  loads s bytes (Err f) e here = here

  module _ (s : Sheet) (lawful : Lawful s.bytes s.tables) where
    pushes : {es : List Entry} (e : Entry) → HasType (type_of s.tables.types e.type_number) e.value → nodes e.value ≡ 0 →
        EntriesTyped s.tables.types es → length es ≤ entry_limit → entries_nodes es ≤ capacity → InOrder capacity (pushed s es e).after
    pushes {es} e h none typed few within =
        by_test (ltb (length es) entry_limit) _ _ (open_in_order lawful typed few within)
        (λ q. let less = ltb-true (length es) entry_limit q in open_in_order lawful (one_entry h typed) (omega arith) (omega arith))

    empty_typed : (t : ℕ) → is_list_type s.tables.types t ≡ true → HasType (type_of s.tables.types t) empty
    empty_typed t q =
        let k = list_type_true s.tables.types t q in
        subst (λ x. HasType x empty) (sym (type_of_list s.tables.types lawful.form.lower t k.positive)) is_empty

    node_typed : (t : ℕ) (h l : Entry) → is_list_type s.tables.types t ≡ true → h.type_number ≡ (type_record s.tables.types t).element → l.type_number ≡ t →
        HasType (type_of s.tables.types h.type_number) h.value → HasType (type_of s.tables.types l.type_number) l.value →
        HasType (type_of s.tables.types t) (node h.value l.value)
    node_typed t h l q eh el hh hl =
        let k = list_type_true s.tables.types t q in
        let is = type_of_list s.tables.types lawful.form.lower t k.positive in
        let head = subst (λ n. HasType (type_of s.tables.types n) h.value) eh hh in
        let tail = subst (λ x. HasType x l.value) is (subst (λ n. HasType (type_of s.tables.types n) l.value) el hl) in
        subst (λ x. HasType x (node h.value l.value)) (sym is) (is_node head tail)

    joins : (t : ℕ) {es : List Entry} → is_list_type s.tables.types t ≡ true → EntriesTyped s.tables.types es → length es ≤ entry_limit →
        entries_nodes es ≤ capacity → InOrder capacity (joined capacity s t es).after
    joins t q no_entries few within = open_in_order lawful no_entries few within
    joins t q (one_entry h no_entries) few within = open_in_order lawful (one_entry h no_entries) few within
    joins t q (one_entry {e = h} hh (one_entry {e = l} {es = es} hl typed)) few within =
        by_test (both (eqb h.type_number (type_record s.tables.types t).element) (eqb l.type_number t)) _ _
        (open_in_order lawful (one_entry hh (one_entry hl typed)) few within)
        (λ right. by_test (ltb 0 (free capacity (open_with s (h ∷ (l ∷ es))))) _ _ (open_in_order lawful (one_entry hh (one_entry hl typed)) few within)
        (λ room.
        let numbers = split (eqb h.type_number (type_record s.tables.types t).element) (eqb l.type_number t) right in
        let some_free = ltb-true 0 (free capacity (open_with s (h ∷ (l ∷ es)))) room in
        let is = node_typed t h l q (eqb-true h.type_number (type_record s.tables.types t).element numbers.0) (eqb-true l.type_number t numbers.1) hh hl in
        open_in_order lawful (one_entry is typed) (omega arith) (omega arith)))

    pub feeds : {es : List Entry} (x : Option Fed) → EntriesTyped s.tables.types es → length es ≤ entry_limit → entries_nodes es ≤ capacity →
        InOrder capacity (fed_with capacity s es x).after
    feeds None typed few within = open_in_order lawful typed few within
    feeds (Some (a_number n)) typed few within = pushes (entry (num n) 0) is_num refl typed few within
    feeds (Some (an_empty t)) typed few within =
        by_test (is_list_type s.tables.types t) _ _ (open_in_order lawful typed few within)
        (λ q. pushes (entry empty t) (empty_typed t q) refl typed few within)
    feeds (Some (a_node t)) typed few within =
        by_test (is_list_type s.tables.types t) _ _ (open_in_order lawful typed few within) (λ q. joins t q typed few within)

    pub funds : (es : List Entry) → EntriesTyped s.tables.types es → length es ≤ entry_limit → entries_nodes es ≤ capacity →
        InOrder capacity (state_after capacity (open_with s es) fund)
    funds es typed few within =
        by_test (are_parameters s es) _ _ (open_in_order lawful typed few within)
        (λ right. by_test (leb (price_of s es) (free capacity (open_with s es))) _ _ (open_in_order lawful typed few within)
        (λ enough. running_in_order (spare_at capacity s es) lawful (tested_pays s es capacity lawful typed within right enough)))

    pub pulls : {v : Value} → Numbers v → nodes v ≤ capacity → InOrder capacity (pull_result s v).after
    pulls no_numbers within = emptied lawful
    pulls (one_number more) within = done_in_order lawful more (omega arith)
