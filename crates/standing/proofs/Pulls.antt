-- Pull on words. Rests on located values and on what each call does on words.
use Rattle.std.proofs.Common.{◌≡◌, ℕ, ◌+◌, false, cond, eqb, [], Some, None, sym, refl, ap, ◌∙◌, subst, arith}
use Rattle.std.proofs.lemmas.Bool.{eq-eqb, ne_eqb}
use Rattle.cells.specs.Cells.{Map, without, one_if}
use Rattle.rules.specs.Types.{number, list, type_record, type_of}
use Rattle.rules.specs.Lawful.{Lawful}
use Rattle.rules.proofs.Numbered.{type_of_list}
use Rattle.plain.specs.Values.{Value, HasType, is_num, is_empty, is_node}
use Rattle.plain.specs.Calls.{pulled, at_end}
use Rattle.plain.specs.States as plain
use Rattle.plain.specs.Running as running
use Rattle.plain.specs.Funded.{Numbers, no_numbers, one_number}
use Rattle.standing.specs.declared.frames.Slot.{Slot}
use Rattle.standing.specs.declared.frames.Slot.TheVariants.{ListOf}
use Rattle.standing.specs.Located.{in_cell, value, word, node_words, Stored, one_where_same, occurrences}
use Rattle.standing.specs.Rows.{LocatedSlot, with_list, slot_words, slot_occurrences, kept_list}
use Rattle.standing.specs.Stepping.{slot_word, words_in}
use Rattle.standing.specs.Standing.{ResultStands}
use Rattle.standing.specs.Inputs.{no_entries}
use Rattle.standing.specs.Moments.{open_with, done_with, open_stands, done_stands, sound_open, sound_done}
use Rattle.standing.specs.Serving.{done, pulled_node, pull_on_words}
use Rattle.standing.specs.Calls.{Serves}
use Rattle.standing.proofs.Cells.{one_here, stored_beside, held_after_removal, parts}
use Rattle.standing.proofs.Rows.{as_list}
use Rattle.standing.proofs.Bindings.{word_of_number, nothing_of_number}
use Rattle.standing.proofs.ForkSteps.{Listed, listed, word_of_empty, nothing_of_empty, a_node, tail_typed}

-- a list of Numbers has a list type
pub numbers_typed : {v : Value} → Numbers v → HasType (list number 0) v
numbers_typed no_numbers = is_empty
numbers_typed (one_number l) = is_node is_num (numbers_typed l)

module _ (capacity : ℕ) (s : plain.Sheet) (lawful : Lawful s.bytes s.tables) (m : Map) where
  -- the result in located form, by what it is
  located_pull : (x : LocatedSlot) {v : Value} → Listed s.tables.types m x v → ((c : ℕ) → slot_occurrences c x ≡ one_if (m c)) → Numbers v →
      Serves capacity (pull_on_words (done_with s (slot_words x)) m) (running.pull_from (plain.done_with s v))
  located_pull x it owned no_numbers =
      let zero_word : slot_word (slot_words x) ≡ 0 = ap (λ y. slot_word (slot_words y)) it.is ∙ word_of_empty it.located it.is_value in
      subst (λ b. Serves capacity (cond b (done at_end (open_with s []) m) (pulled_node s (slot_words x) m (words_in (m (slot_word (slot_words x)))))) (plain.served at_end (plain.open_with s [])))
      (sym (eq-eqb (slot_word (slot_words x)) 0 zero_word))
      (record {
        answers = refl;
        stands = open_stands (record {
          located = [];
          as_words = refl;
          as_entries = refl;
          kept = no_entries;
          owned = λ c. omega (arith, owned c, ap (slot_occurrences c) it.is, nothing_of_empty c it.located it.is_value);
          few = omega arith;
        });
        sound = sound_open lawful;
      })
  located_pull x it owned (one_number {n} {l} ns) =
      let ts = s.tables.types in
      let nd = a_node it.located it.is_value in
      let k = nd.cell in
      let slot_is : slot_words x ≡ ListOf k it.of = ap slot_words it.is ∙ ap (λ y. ListOf (word y) it.of) nd.is in
      let stored : Stored m (in_cell k nd.first nd.others) = subst (λ y. Stored m y) nd.is it.stored in
      let part = parts stored in
      let its : slot_word (slot_words x) ≡ k = ap slot_word slot_is in
      let no : eqb (slot_word (slot_words x)) 0 ≡ false = ne_eqb (slot_word (slot_words x)) 0 (λ q. let big = part.from_one in omega arith) in
      let words = node_words (word nd.first) (word nd.others) in
      let read : words_in (m (slot_word (slot_words x))) ≡ words = ap (λ j. words_in (m j)) its ∙ ap words_in part.held in
      let out : (c : ℕ) → one_if (m c) ≡ one_where_same c k + occurrences c nd.first + occurrences c nd.others =
      λ c. sym (owned c) ∙ (ap (slot_occurrences c) it.is ∙ ap (occurrences c) nd.is) in
      let here = one_here k in
      let mine = out k in
      let held = ap one_if part.held in
      let others_stored = stored_beside k None part.tail (omega arith) in
      let typed = subst (λ y. HasType (list (type_of ts (type_record ts it.of).element) (type_record ts it.of).amount) (value y)) nd.is (as_list lawful.form.lower it.known it.typed) in
      let tail_of : HasType (type_of ts it.of) (value nd.others) =
      subst (λ T. HasType T (value nd.others)) (sym (type_of_list ts lawful.form.lower it.of it.known.positive)) (tail_typed typed) in
      let rest : ResultStands ts (without m k) (ListOf (word nd.others) it.of) l =
      record {
        located = with_list it.of nd.others;
        as_words = refl;
        as_value = ap Some nd.others_value;
        kept = kept_list it.known tail_of others_stored;
        owned = λ c. omega (arith, out c, held_after_removal m k words c part.held, nothing_of_number c nd.first n nd.first_value);
      } in
      subst (λ b. Serves capacity (cond b (done at_end (open_with s []) m) (pulled_node s (slot_words x) m (words_in (m (slot_word (slot_words x)))))) (plain.served (pulled n) (plain.done_with s l))) (sym no)
      (subst (λ w. Serves capacity (pulled_node s (slot_words x) m w) (plain.served (pulled n) (plain.done_with s l))) (sym read)
      (subst (λ y. Serves capacity (pulled_node s y m words) (plain.served (pulled n) (plain.done_with s l))) (sym slot_is)
      (record {
        answers = ap pulled (word_of_number nd.first n nd.first_value);
        stands = done_stands rest;
        sound = sound_done lawful ns;
      })))

  pub pull_serves : (words : Slot) (v : Value) → ResultStands s.tables.types m words v → Numbers v →
      Serves capacity (pull_on_words (done_with s words) m) (running.pull_from (plain.done_with s v))
  pull_serves words v stands numbers =
      subst (λ w. Serves capacity (pull_on_words (done_with s w) m) (running.pull_from (plain.done_with s v))) stands.as_words
      (located_pull stands.located (listed v stands.kept stands.as_value (numbers_typed numbers)) stands.owned numbers)
