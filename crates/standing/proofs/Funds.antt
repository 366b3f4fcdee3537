-- Fund on words. Rests on entries, on the moving of slots into a frame, and on the law of amounts.
use Rattle.std.proofs.Common.{◌≡◌, ℕ, ◌+◌, ◌-◌, ◌≤◌, cond, leb, List, [], ◌∷◌, map, reverse, length, take, replicate, Some, None, sym, refl, ap, ◌∙◌, arith}
use Rattle.cells.specs.Cells.{Map, Numbered, one_if, count}
use Rattle.rules.specs.Limits.{slot_count}
use Rattle.rules.specs.Lawful.{Lawful}
use Rattle.plain.specs.Calls.{refused_with, accepted, other_parameters, too_dear}
use Rattle.plain.specs.States as plain
use Rattle.plain.specs.Reading as reading
use Rattle.plain.specs.Slots.{starting_slots}
use Rattle.plain.specs.Feeding as feeding
use Rattle.plain.specs.Feeding.{entry_limit, same_numbers}
use Rattle.plain.proofs.Funding.{funding_pays}
use Rattle.standing.specs.declared.frames.Slot.TheVariants.{Vacant}
use Rattle.standing.specs.Rows.{vacant, slot_words, row_words, slot_value, row_values}
use Rattle.standing.specs.Stepping.{as_slot, moved_in, starting_words, word_frame}
use Rattle.standing.specs.Standing.{RunStands, located_frame, one_frame, no_frames}
use Rattle.standing.specs.Inputs.{LocatedEntry, entry_words, entry_value, entries_occurrences, KeptEntries, no_entries}
use Rattle.standing.specs.Moments.{open_with, Stands, open_stands, run_stands, sound_open, sound_running}
use Rattle.standing.specs.Serving.{fund_on_words, first_frame, price_on_words}
use Rattle.standing.specs.Calls.{Serves}
use Rattle.standing.proofs.Entries.{entries_typed, brought_is, held_are_the_entries, map_turned, map_both, kept_turned, occurrences_turned, length_turned, as_row, as_slots}
use Rattle.standing.proofs.Lists.{map_length}
use Rattle.standing.proofs.CallSteps.{map_moved_in, put_as_moved, length_moved_in, moved_in_counts, moved_in_kept, all_vacant, vacant_kept, vacant_counts}
use Rattle.standing.proofs.ForkSteps.{element_slot}
use Rattle.standing.proofs.Tests.{by_equal_tests, refuses}

module _ (s : plain.Sheet) (m : Map) (Ls : List LocatedEntry) (kept : KeptEntries s.tables.types m Ls)
    (owned : (c : ℕ) → entries_occurrences c Ls ≡ one_if (m c)) (few : length Ls ≤ entry_limit) where
  -- the type numbers are the same, first pushed first
  numbers_turned : map (λ x. x.of) (reverse (map (entry_words s.tables.types) Ls)) ≡ map (λ e. e.type_number) (reverse (map entry_value Ls))
  numbers_turned =
      ap (map (λ x. x.of)) (sym (map_turned (entry_words s.tables.types) Ls [])) ∙
      (map_both (λ x. x.of) (entry_words s.tables.types) (reverse Ls) ∙
      (sym (map_both (λ e. e.type_number) entry_value (reverse Ls)) ∙ ap (map (λ e. e.type_number)) (map_turned entry_value Ls [])))

  -- the first frame stands
  first_stands : RunStands s.tables.types m (first_frame s (map (entry_words s.tables.types) Ls) ∷ []) (feeding.first_frame s (map entry_value Ls) ∷ [])
  first_stands =
      let ts = s.tables.types in
      let x = as_slots (kept_turned kept no_entries) in
      let R = as_row (reverse Ls) in
      let A = moved_in 0 R (replicate slot_count vacant) in
      let b = (plain.main_function s).body in
      let words : row_words A ≡ starting_words (map (λ x. as_slot x.of x.word) (reverse (map (entry_words ts) Ls))) =
      map_moved_in slot_words 0 R (replicate slot_count vacant) ∙
      ap (λ xs. moved_in 0 xs (replicate slot_count Vacant)) (x.words ∙ ap (map (λ x. as_slot x.of x.word)) (map_turned (entry_words ts) Ls [])) in
      let values : row_values A ≡ starting_slots (map (λ e. e.value) (reverse (map entry_value Ls))) =
      map_moved_in slot_value 0 R (replicate slot_count vacant) ∙
      (ap (λ xs. moved_in 0 xs (replicate slot_count None)) (x.values ∙ ap (λ es. map Some (map (λ e. e.value) es)) (map_turned entry_value Ls [])) ∙
      put_as_moved 0 (map (λ e. e.value) (reverse (map entry_value Ls))) (replicate slot_count None)) in
      let room : 0 + length R ≤ length (replicate slot_count vacant) =
      let a = map_length (λ (e : LocatedEntry). element_slot e.of e.located) (reverse Ls) in let c = length_turned Ls [] in omega arith in
      record {
        located = located_frame b A 0 ∷ [];
        as_words = ap (λ W. word_frame b W 0 ∷ []) words;
        as_values = ap (λ S. reading.frame b S 0 ∷ []) values;
        kept = one_frame (length_moved_in 0 R (replicate slot_count vacant)) (moved_in_kept 0 x.keeps (vacant_kept slot_count)) no_frames;
        owned = λ c. omega (arith, owned c, x.counts c, occurrences_turned c Ls [], moved_in_counts c 0 R (replicate slot_count vacant) room (λ j far. all_vacant slot_count j), vacant_counts c slot_count);
      }

  pub fund_serves : (capacity : ℕ) → Lawful s.bytes s.tables → Numbered m → count m ≤ capacity →
      Serves capacity (fund_on_words capacity (open_with s (map (entry_words s.tables.types) Ls)) m) (feeding.fund_from capacity (plain.open_with s (map entry_value Ls)))
  fund_serves capacity lawful numbered within =
      let ts = s.tables.types in
      let es = map entry_value Ls in
      let ws = map (entry_words ts) Ls in
      let stack : Stands m (open_with s ws) (plain.open_with s es) = open_stands (record { located = Ls; as_words = refl; as_entries = refl; kept = kept; owned = owned; few = few }) in
      let held = held_are_the_entries numbered kept owned in
      let same_price : price_on_words s ws ≡ plain.price_of s es = ap (λ n. (plain.main_function s).signature.entry + n) (brought_is ts Ls) in
      let params = take (plain.main_function s).signature.count (plain.main_function s).signature.params in
      by_equal_tests (ap (λ ns. same_numbers ns params) numbers_turned)
      (λ are.
      by_equal_tests (ap (λ n. leb n (capacity - count m)) same_price ∙ ap (λ n. leb (plain.price_of s es) (capacity - n)) held)
      (λ cheap.
      let taken : (feeding.fund_from capacity (plain.open_with s es)).answer ≡ accepted =
      ap (λ b. (cond b (feeding.unless_refused (leb (plain.price_of s es) (plain.free capacity (plain.open_with s es))) (too_dear (plain.price_of s es)) (plain.open_with s es)
      (plain.served accepted (plain.running_with s (feeding.first_frame s es ∷ [])))) (plain.refuse other_parameters (plain.open_with s es))).answer) are ∙
      ap (λ b. (cond b (plain.served accepted (plain.running_with s (feeding.first_frame s es ∷ []))) (plain.refuse (too_dear (plain.price_of s es)) (plain.open_with s es))).answer) cheap in
      record {
        answers = refl;
        stands = run_stands first_stands;
        sound = sound_running (plain.free capacity (plain.open_with s es) - plain.price_of s es) lawful
            (funding_pays s es capacity lawful (entries_typed kept) (omega arith) taken);
      })
      (record { answers = ap (λ n. refused_with (too_dear n)) same_price; stands = stack; sound = sound_open lawful }))
      (refuses other_parameters stack (sound_open lawful))
