-- Entries of an input stack in the cells: a cell that they do not have may change, they are turned round, and their nodes are
-- counted. Rests on located values.
use Rattle.std.proofs.Common.{◌≡◌, ℕ, ◌+◌, ◌<◌, List, [], ◌∷◌, map, length, Some, Option, refl, ap, ◌∙◌, arith}
use mathlib.Core.List.{reverse_aux}
use Rattle.records.specs.declared.kinds.NodeType.{NodeType}
use Rattle.cells.specs.declared.words.Words.{Words}
use Rattle.cells.specs.Cells.{Map, Numbered, update, one_if, count}
use Rattle.plain.specs.States.{entries_nodes, entries_potential}
use Rattle.plain.specs.Funded as law
use Rattle.standing.specs.Located.{occurrences}
use Rattle.standing.specs.Rows.{Row, row_words, row_values, row_occurrences, KeptRow, kept_none, kept_more}
use Rattle.standing.specs.Stepping.{as_slot}
use Rattle.standing.specs.Inputs.{LocatedEntry, entry_words, entry_value, entries_occurrences, KeptEntries, no_entries, one_entry}
use Rattle.standing.specs.Serving.{brought}
use Rattle.standing.proofs.Cells.{stored_beside}
use Rattle.standing.proofs.Counting.{sum, sum_none, sum_both, sum_located, held_as_summed, held_below_last}
use Rattle.standing.proofs.ForkSteps.{element_slot, element}

pub entries_beside : {ts : List NodeType} {m : Map} {Ls : List LocatedEntry} (k : ℕ) (entry : Option Words) → KeptEntries ts m Ls →
    entries_occurrences k Ls ≡ 0 → KeptEntries ts (update m k entry) Ls
entries_beside k entry no_entries q = no_entries
entries_beside k entry (one_entry e es) q =
    one_entry (record { known = e.known; typed = e.typed; stored = stored_beside k entry e.stored (omega arith) }) (entries_beside k entry es (omega arith))

-- the entries have the types with their numbers
pub entries_typed : {ts : List NodeType} {m : Map} {Ls : List LocatedEntry} → KeptEntries ts m Ls → law.EntriesTyped ts (map entry_value Ls)
entries_typed no_entries = law.no_entries
entries_typed (one_entry e es) = law.one_entry e.typed (entries_typed es)

-- what is kept with the entries is what they bring along
pub brought_is : (ts : List NodeType) (Ls : List LocatedEntry) → brought (map (entry_words ts) Ls) ≡ entries_potential ts (map entry_value Ls)
brought_is ts [] = refl
brought_is ts (e ∷ es) = omega (arith, brought_is ts es)

-- as many cells are held as the entries have nodes
sum_entries : {ts : List NodeType} {m : Map} {Ls : List LocatedEntry} → ((k : ℕ) (w : Words) → m k ≡ Some w → k < 65536) → KeptEntries ts m Ls →
    sum (λ c. entries_occurrences c Ls) 65536 ≡ entries_nodes (map entry_value Ls)
sum_entries below no_entries = sum_none 65536
sum_entries below (one_entry {e = e} {es = es} x r) =
    omega (arith, sum_both (λ c. occurrences c e.located) (λ c. entries_occurrences c es) 65536, sum_located below x.stored, sum_entries below r)

pub held_are_the_entries : {ts : List NodeType} {m : Map} {Ls : List LocatedEntry} → Numbered m → KeptEntries ts m Ls →
    ((c : ℕ) → entries_occurrences c Ls ≡ one_if (m c)) → count m ≡ entries_nodes (map entry_value Ls)
held_are_the_entries {m = m} {Ls = Ls} numbered kept owned =
    held_as_summed m (λ c. entries_occurrences c Ls) owned ∙ sum_entries (held_below_last m numbered) kept

-- ---- turned round

pub map_turned : {X Y : Type 0} (g : X → Y) (xs ys : List X) → map g (reverse_aux xs ys) ≡ reverse_aux (map g xs) (map g ys)
map_turned g [] ys = refl
map_turned g (x ∷ xs) ys = map_turned g xs (x ∷ ys)

pub map_both : {X Y Z : Type 0} (f : Y → Z) (g : X → Y) (xs : List X) → map f (map g xs) ≡ map (λ x. f (g x)) xs
map_both f g [] = refl
map_both f g (x ∷ xs) = ap (λ ys. f (g x) ∷ ys) (map_both f g xs)

pub kept_turned : {ts : List NodeType} {m : Map} {xs ys : List LocatedEntry} → KeptEntries ts m xs → KeptEntries ts m ys → KeptEntries ts m (reverse_aux xs ys)
kept_turned no_entries k = k
kept_turned (one_entry e es) k = kept_turned es (one_entry e k)

pub occurrences_turned : (c : ℕ) (xs ys : List LocatedEntry) → entries_occurrences c (reverse_aux xs ys) ≡ entries_occurrences c xs + entries_occurrences c ys
occurrences_turned c [] ys = omega arith
occurrences_turned c (x ∷ xs) ys = omega (arith, occurrences_turned c xs (x ∷ ys))

pub length_turned : (xs ys : List LocatedEntry) → length (reverse_aux xs ys) ≡ length xs + length ys
length_turned [] ys = omega arith
length_turned (x ∷ xs) ys = omega (arith, length_turned xs (x ∷ ys))

-- ---- as slots

-- the entries as slots of a frame
abbrev pub as_row : List LocatedEntry → Row
as_row Ls = map (λ e. element_slot e.of e.located) Ls

pub record AsSlots (ts : List NodeType) (m : Map) (Ls : List LocatedEntry) : Type 0 where
  pub keeps : KeptRow ts m (as_row Ls)
  pub words : row_words (as_row Ls) ≡ map (λ x. as_slot x.of x.word) (map (entry_words ts) Ls)
  pub values : row_values (as_row Ls) ≡ map Some (map (λ e. e.value) (map entry_value Ls))
  pub counts : (c : ℕ) → row_occurrences c (as_row Ls) ≡ entries_occurrences c Ls

pub as_slots : {ts : List NodeType} {m : Map} {Ls : List LocatedEntry} → KeptEntries ts m Ls → AsSlots ts m Ls
as_slots no_entries = record { keeps = kept_none; words = refl; values = refl; counts = λ c. refl }
as_slots {ts} (one_entry {e = e} {es = es} x r) =
    let y = element e.of e.located x.known x.typed x.stored in
    let z = as_slots r in
    let w = y.words in
    let ws = z.words in
    let v = y.is_value in
    let vs = z.values in
    record { keeps = kept_more y.keeps z.keeps; words = cc; values = cc; counts = λ c. omega (arith, y.counts c, z.counts c) }
