-- The bytes so far, and those that are read from here on, are what is read of the text.
use Rattle.std.proofs.Common.{◌≡◌, ◌+◌, ◌≤◌, drop, vec_items}
use Rattle.label_text.specs.Hexes.{read_on, reading}
use Rattle.label_text.specs.Parsed.{Low, with_bytes}
use Rattle.label_text.proofs.hexes.read_text.Given as goal

abbrev pub invariant-loop-c : goal.invariant-loop-c
invariant-loop-c l =
    Low l.mode × (l.spot.line ≤ l.c-index + 1) × (l.spot.column ≤ l.c-index + 1)
    × (with_bytes (vec_items l.bytes) (read_on l.mode l.spot (drop l.c-index l.text)) ≡ reading l.text)
