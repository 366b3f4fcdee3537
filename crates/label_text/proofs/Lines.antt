-- The listing of a sheet from its records one by one.
use Rattle.std.proofs.Common.{◌≡◌, ℕ, Bool, true, false, cond, ltb, eqb, List, [], ◌∷◌, ◌++◌, length, Some, None, Option, refl, ap, ◌∙◌}
use Rattle.std.specs.List.{find}
use Rattle.records.specs.Rows.{Row, next, end, broken, row}
use Rattle.label_text.specs.declared.entries.Entry.{Entry}
use Rattle.label_text.specs.declared.entries.Numbering.{Numbering}
use Rattle.label_text.specs.Entries.{entries, entries_in}
use Rattle.label_text.specs.Listing.{lines, line_at, line_in, record_line, record_lines, number_behind, numbered}

-- the lines of some records
abbrev pub entry_lines : List Entry → List ℕ
entry_lines [] = []
entry_lines (e ∷ es) = record_line e.at e.item.number e.item.what ++ entry_lines es

pub lines_of_entries : (row : Row) (n : Numbering) → entry_lines (entries row n) ≡ lines row n
lines_of_entries (next at r rest) n = ap (λ ls. record_line at (number_behind n r) r ++ ls) (lines_of_entries rest (numbered n r))
lines_of_entries (end at) n = refl
lines_of_entries (broken f) n = refl

abbrev none : Numbering
none = record { types = 0; functions = 0 }

module _ (bytes : List ℕ) where
  lines_by : (long : Bool) → entry_lines (cond long [] (entries (row bytes 0) none)) ≡ cond long [] (lines (row bytes 0) none)
  lines_by true = refl
  lines_by false = lines_of_entries (row bytes 0) none

  pub lines_in_sheet : entry_lines (entries_in bytes) ≡ record_lines bytes
  lines_in_sheet = lines_by (ltb 4096 (length bytes))

-- the line of a record that was found, if one was
abbrev pub found_line : Option Entry → List ℕ
found_line None = []
found_line (Some e) = record_line e.at e.item.number e.item.what

module _ (place : ℕ) where
  abbrev stands : Entry → Bool
  stands e = eqb e.at place

  found_first : (here : Bool) (e : Entry) (o : Option Entry) (behind : List ℕ) → found_line o ≡ behind → found_line (cond here (Some e) o) ≡ cond here (found_line (Some e)) behind
  found_first true e o behind is = refl
  found_first false e o behind is = is

  found_in_row : (row : Row) (n : Numbering) → found_line (find stands (entries row n)) ≡ line_at row n place
  found_in_row (next at r rest) n = found_first (eqb at place) _ _ _ (found_in_row rest (numbered n r))
  found_in_row (end at) n = refl
  found_in_row (broken f) n = refl

  found_by : (bytes : List ℕ) (long : Bool) → found_line (find stands (cond long [] (entries (row bytes 0) none))) ≡ cond long [] (line_at (row bytes 0) none place)
  found_by bytes true = refl
  found_by bytes false = found_in_row (row bytes 0) none

  pub line_of_found : (bytes : List ℕ) (o : Option Entry) → o ≡ find stands (entries_in bytes) → found_line o ≡ line_in bytes place
  line_of_found bytes o is = ap found_line is ∙ found_by bytes (ltb 4096 (length bytes))
