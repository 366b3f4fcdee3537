-- The lines so far, and those of the records that are left, are the lines of the sheet.
use Rattle.std.proofs.Common.{◌≡◌, ◌++◌, string_bytes}
use Rattle.label_text.specs.Entries.{left}
use Rattle.label_text.specs.Listing.{record_lines}
use Rattle.label_text.proofs.Lines.{entry_lines}
use Rattle.label_text.proofs.listing.list.Given as goal

abbrev pub invariant-loop-entry : goal.invariant-loop-entry
invariant-loop-entry l =
    string_bytes l.text ++ entry_lines (left l.entry-iterator.reader l.entry-iterator.numbering) ≡ record_lines l.bytes
