-- The records of a sheet one by one, with their numbers. Assumes nothing.
use Rattle.std.specs.Prelude.{ℕ, ◌+◌, ◌≤◌, cond, List, [], ◌∷◌, length, drop, nat_lt}
use Rattle.records.specs.declared.reading.Reader.{Reader}
use Rattle.records.specs.Rows.{Row, next, end, broken, row}
use Rattle.label_text.specs.declared.entries.Entry.{Entry}
use Rattle.label_text.specs.declared.entries.Numbering.{Numbering}
use Rattle.label_text.specs.Listing.{number_behind, numbered}

-- the records of a row that come behind these types and functions
abbrev pub entries : Row → Numbering → List Entry
entries (next at r rest) n = record { at = at; item = record { number = number_behind n r; what = r } } ∷ entries rest (numbered n r)
entries (end at) n = []
entries (broken f) n = []

-- those that a reader has before it
abbrev pub left : Reader → Numbering → List Entry
left r n = entries (row (drop r.at r.bytes.now) r.at) n

-- those of a sheet; one that is too long is not cut
abbrev pub entries_in : List ℕ → List Entry
entries_in bytes = cond (nat_lt 4096 (length bytes)) [] (entries (row bytes 0) (record { types = 0; functions = 0 }))

-- no more types and functions are numbered than the reader has passed bytes
abbrev pub Few : Reader → Numbering → Type 0
Few r n = n.types + n.functions ≤ r.at

-- the reader is over no more bytes than a sheet may have
abbrev pub Short : Reader → Type 0
Short r = length r.bytes.now ≤ 4096
