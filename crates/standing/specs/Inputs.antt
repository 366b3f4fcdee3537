-- When the entries of an input stack on words, and the map of a store, stand for entries of the plain service. Rests on located
-- values.
use Rattle.std.specs.Prelude.{◌≡◌, ℕ, ◌+◌, ◌<◌, ◌≤◌, List, [], ◌∷◌, map, length}
use Rattle.records.specs.declared.kinds.NodeType.{NodeType}
use Rattle.cells.specs.Cells.{Map, one_if}
use Rattle.rules.specs.Types.{type_of}
use Rattle.rules.specs.Branches.{ListType}
use Rattle.plain.specs.Values.{potential, HasType}
use Rattle.plain.specs.States.{Entry, entry}
use Rattle.plain.specs.Feeding.{entry_limit}
use Rattle.standing.specs.declared.frames.Input.{Input}
use Rattle.standing.specs.Located.{Located, value, word, Stored, occurrences}

-- an entry whose value has the numbers of its cells, with its type number
pub record LocatedEntry : Type 0 where
  pub of : ℕ
  pub located : Located

-- as an engine has it, with what the value brings along, and as the plain service has it
abbrev pub input : ℕ → ℕ → ℕ → Input
input w t brought = record { word = w; of = t; potential = brought }

abbrev pub entry_words : List NodeType → LocatedEntry → Input
entry_words ts e = input (word e.located) e.of (potential (type_of ts e.of) (value e.located))

abbrev pub entry_value : LocatedEntry → Entry
entry_value e = entry (value e.located) e.of

-- how many nodes of all entries are in the cell c
abbrev pub entries_occurrences : ℕ → List LocatedEntry → ℕ
entries_occurrences c [] = 0
entries_occurrences c (e ∷ es) = occurrences c e.located + entries_occurrences c es

-- every entry has the type with its number, which is Number or a list type of the sheet, and its nodes are stored
pub record KeptEntry (ts : List NodeType) (m : Map) (e : LocatedEntry) : Type 0 where
  pub known : 0 < e.of → ListType ts e.of
  pub typed : HasType (type_of ts e.of) (value e.located)
  pub stored : Stored m e.located

pub data KeptEntries (ts : List NodeType) (m : Map) : List LocatedEntry → Type 0 where
  no_entries : KeptEntries ts m []
  one_entry : {e : LocatedEntry} {es : List LocatedEntry} → KeptEntry ts m e → KeptEntries ts m es → KeptEntries ts m (e ∷ es)

-- The input stack on words and the cells stand for the plain one, and no other cells are held.
pub record InputsStand (ts : List NodeType) (m : Map) (words : List Input) (entries : List Entry) : Type 0 where
  pub located : List LocatedEntry
  pub as_words : map (entry_words ts) located ≡ words
  pub as_entries : map entry_value located ≡ entries
  pub kept : KeptEntries ts m located
  pub owned : (c : ℕ) → entries_occurrences c located ≡ one_if (m c)
  pub few : length located ≤ entry_limit
