-- Feed on words. Rests on entries and on what each call does on words.
use Rattle.std.proofs.Common.{◌≡◌, ℕ, ◌+◌, ◌-◌, ◌≤◌, eqb, ltb, List, [], ◌∷◌, map, length, Some, None, Option, sym, refl, ap, ◌∙◌, subst, arith, ltb-true, eqb-true}
use Rattle.cells.specs.Cells.{Map, Numbered, put, one_if}
use Rattle.rules.specs.Types.{list, type_record, type_of}
use Rattle.rules.specs.Branches.{ListType}
use Rattle.rules.specs.Lawful.{Lawful}
use Rattle.rules.proofs.Numbered.{type_of_list, list_type_true}
use Rattle.rules.proofs.Truth.{split}
use Rattle.plain.specs.Values.{empty, node, potential, HasType, is_num, is_empty, is_node}
use Rattle.plain.specs.Calls.{bad_record, bad_type, too_few_entries, other_type, too_many_entries, no_free_cell}
use Rattle.plain.specs.States as plain
use Rattle.plain.specs.Feeding as feeding
use Rattle.plain.specs.Feeding.{Fed, entry_limit}
use Rattle.standing.specs.Located.{a_number, no_node, in_cell, value, word, node_words, stored_number, stored_none, occurrences}
use Rattle.standing.specs.Inputs.{LocatedEntry, input, entry_words, entry_value, entries_occurrences, KeptEntry, KeptEntries, one_entry}
use Rattle.standing.specs.Moments.{open_with, Stands, open_stands, sound_open}
use Rattle.standing.specs.Serving.{pushed, joined, joined_entry, fed_on_words}
use Rattle.standing.specs.Law.{Takeable}
use Rattle.standing.specs.Calls.{Serves}
use Rattle.standing.proofs.Lists.{map_length}
use Rattle.standing.proofs.Cells.{held_after_put, stored_new}
use Rattle.standing.proofs.Entries.{entries_beside, held_are_the_entries}
use Rattle.standing.proofs.Tests.{by_test, by_equal_tests, refuses}

module _ (capacity : ℕ) (s : plain.Sheet) (lawful : Lawful s.bytes s.tables) (m : Map) where
  stack_stands : (Ls : List LocatedEntry) → KeptEntries s.tables.types m Ls → ((c : ℕ) → entries_occurrences c Ls ≡ one_if (m c)) → length Ls ≤ entry_limit →
      Stands m (open_with s (map (entry_words s.tables.types) Ls)) (plain.open_with s (map entry_value Ls))
  stack_stands Ls kept owned few = open_stands (record { located = Ls; as_words = refl; as_entries = refl; kept = kept; owned = owned; few = few })

  push_serves : (Ls : List LocatedEntry) → KeptEntries s.tables.types m Ls → ((c : ℕ) → entries_occurrences c Ls ≡ one_if (m c)) → length Ls ≤ entry_limit →
      (e : LocatedEntry) → KeptEntry s.tables.types m e → ((c : ℕ) → occurrences c e.located ≡ 0) →
      Serves capacity (pushed s (map (entry_words s.tables.types) Ls) m (entry_words s.tables.types e)) (feeding.pushed s (map entry_value Ls) (entry_value e))
  push_serves Ls kept owned few e keeps bare =
      by_equal_tests (ap (λ n. ltb n entry_limit) (map_length (entry_words s.tables.types) Ls ∙ sym (map_length entry_value Ls)))
      (λ room.
      let less = ltb-true (length (map entry_value Ls)) entry_limit room in
      let long = map_length entry_value Ls in
      record { answers = refl; stands = stack_stands (e ∷ Ls) (one_entry keeps kept) (λ c. omega (arith, owned c, bare c)) (omega arith); sound = sound_open lawful })
      (refuses too_many_entries (stack_stands Ls kept owned few) (sound_open lawful))

  -- two entries are joined to a node in the cell k
  join_serves : (k t : ℕ) → Takeable m k → ListType s.tables.types t → (h l : LocatedEntry) (Ls : List LocatedEntry) →
      KeptEntries s.tables.types m (h ∷ (l ∷ Ls)) → ((c : ℕ) → entries_occurrences c (h ∷ (l ∷ Ls)) ≡ one_if (m c)) → length (h ∷ (l ∷ Ls)) ≤ entry_limit →
      h.of ≡ (type_record s.tables.types t).element → l.of ≡ t →
      Stands (put m k (node_words (word h.located) (word l.located)))
      (open_with s (joined_entry s.tables.types t k (entry_words s.tables.types h) (entry_words s.tables.types l) ∷ map (entry_words s.tables.types) Ls))
      (plain.open_with s (plain.entry (node (value h.located) (value l.located)) t ∷ map entry_value Ls))
  join_serves k t takes known h l Ls (one_entry kh (one_entry kl kept)) owned few of_element of_list =
      let ts = s.tables.types in
      let vh = value h.located in
      let vl = value l.located in
      let list_of = type_of_list ts lawful.form.lower t known.positive in
      let none : occurrences k h.located + (occurrences k l.located + entries_occurrences k Ls) ≡ 0 = owned k ∙ ap one_if takes.unheld in
      let made : LocatedEntry = record { of = t; located = in_cell k h.located l.located } in
      let w = node_words (word h.located) (word l.located) in
      let stored = stored_new k takes.from_one kh.stored kl.stored (omega arith) (omega arith) in
      let typed : HasType (type_of ts t) (node vh vl) =
      subst (λ T. HasType T (node vh vl)) (sym list_of)
      (is_node (subst (λ n. HasType (type_of ts n) vh) of_element kh.typed) (subst (λ T. HasType T vl) (ap (type_of ts) of_list ∙ list_of) kl.typed)) in
      let brings : potential (type_of ts t) (node vh vl) ≡ (type_record ts t).amount + potential (type_of ts h.of) vh + potential (type_of ts l.of) vl =
      ap (λ T. potential T (node vh vl)) list_of ∙
      (ap (λ n. (type_record ts t).amount + potential (type_of ts n) vh + potential (list (type_of ts (type_record ts t).element) (type_record ts t).amount) vl) (sym of_element) ∙
      ap (λ T. (type_record ts t).amount + potential (type_of ts h.of) vh + potential T vl) (sym (ap (type_of ts) of_list ∙ list_of))) in
      open_stands (record {
        located = made ∷ Ls;
        as_words = ap (λ b. input k t b ∷ map (entry_words ts) Ls) brings;
        as_entries = refl;
        kept = one_entry (record { known = λ some. known; typed = typed; stored = stored }) (entries_beside k (Some w) kept (omega arith));
        owned = λ c. omega (arith, owned c, held_after_put m k w c takes.unheld);
        few = omega arith;
      })

  fed_node_serves : (k t : ℕ) → Numbered m → Takeable m k → ListType s.tables.types t → (Ls : List LocatedEntry) →
      KeptEntries s.tables.types m Ls → ((c : ℕ) → entries_occurrences c Ls ≡ one_if (m c)) → length Ls ≤ entry_limit →
      Serves capacity (joined capacity s t (map (entry_words s.tables.types) Ls) m k) (feeding.joined capacity s t (map entry_value Ls))
  fed_node_serves k t numbered takes known [] kept owned few = refuses too_few_entries (stack_stands [] kept owned few) (sound_open lawful)
  fed_node_serves k t numbered takes known (h ∷ []) kept owned few = refuses too_few_entries (stack_stands (h ∷ []) kept owned few) (sound_open lawful)
  fed_node_serves k t numbered takes known (h ∷ (l ∷ Ls)) kept owned few =
      let same = stack_stands (h ∷ (l ∷ Ls)) kept owned few in
      by_test _
      (λ fits.
      let of = split (eqb h.of (type_record s.tables.types t).element) (eqb l.of t) fits in
      by_equal_tests (ap (λ n. ltb 0 (capacity - n)) (held_are_the_entries numbered kept owned))
      (λ room. record {
        answers = refl;
        stands = join_serves k t takes known h l Ls kept owned few (eqb-true h.of (type_record s.tables.types t).element of.0) (eqb-true l.of t of.1);
        sound = sound_open lawful;
      })
      (refuses no_free_cell same (sound_open lawful)))
      (refuses other_type same (sound_open lawful))

  pub feed_serves : (k : ℕ) → Numbered m → Takeable m k → (Ls : List LocatedEntry) → KeptEntries s.tables.types m Ls →
      ((c : ℕ) → entries_occurrences c Ls ≡ one_if (m c)) → length Ls ≤ entry_limit → (f : Option Fed) →
      Serves capacity (fed_on_words capacity s (map (entry_words s.tables.types) Ls) m k f) (feeding.fed_with capacity s (map entry_value Ls) f)
  feed_serves k numbered takes Ls kept owned few None = refuses bad_record (stack_stands Ls kept owned few) (sound_open lawful)
  feed_serves k numbered takes Ls kept owned few (Some (feeding.a_number n)) =
      push_serves Ls kept owned few (record { of = 0; located = a_number n }) (record { known = λ some. absurd (omega arith); typed = is_num; stored = stored_number }) (λ c. refl)
  feed_serves k numbered takes Ls kept owned few (Some (feeding.an_empty t)) =
      by_test _
      (λ fits.
      let known = list_type_true s.tables.types t fits in
      push_serves Ls kept owned few (record { of = t; located = no_node })
      (record {
        known = λ some. known;
        typed = subst (λ T. HasType T empty) (sym (type_of_list s.tables.types lawful.form.lower t known.positive)) is_empty;
        stored = stored_none;
      })
      (λ c. refl))
      (refuses bad_type (stack_stands Ls kept owned few) (sound_open lawful))
  feed_serves k numbered takes Ls kept owned few (Some (feeding.a_node t)) =
      by_test _ (λ fits. fed_node_serves k t numbered takes (list_type_true s.tables.types t fits) Ls kept owned few)
      (refuses bad_type (stack_stands Ls kept owned few) (sound_open lawful))
