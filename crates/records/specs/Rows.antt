-- The row of records that a sheet's bytes are, each with its offset. Assumes nothing.
use Rattle.std.specs.Prelude.{ℕ, zero, suc, ◌+◌, ◌-◌, List, [], ◌∷◌, Some, None, Ok, Err}
use Rattle.records.specs.declared.faults.Fault.{Fault}
use Rattle.records.specs.declared.kinds.Record.{Record}
use Rattle.records.specs.Writing.{size}
use Rattle.records.specs.Cutting.{Cutting, cut}

-- a record at this offset and the row behind it, the sheet's end at this offset, or a record that cannot be cut
pub data Row : Type 0 where
  next : ℕ → Record → Row → Row
  end : ℕ → Row
  broken : Fault → Row

-- the row that begins with what was cut here; `behind` is the row after so many bytes of the record more
abbrev pub begin : Cutting → ℕ → (ℕ → Row) → Row
begin (Ok (Some r)) at behind = next at r (behind (size r - 1))
begin (Ok None) at behind = end at
begin (Err f) at behind = broken f

-- the row of these bytes, which begin at offset `at`, once the first `skip` of them, the rest of a record, are passed
abbrev pub row_behind : List ℕ → ℕ → ℕ → Row
row_behind [] skip at = end at
row_behind (b ∷ bs) zero at = begin (cut (b ∷ bs) at) at (λ skip. row_behind bs skip (at + 1))
row_behind (b ∷ bs) (suc skip) at = row_behind bs skip (at + 1)

-- the row of records from this offset of a sheet on
abbrev pub row : List ℕ → ℕ → Row
row bytes at = row_behind bytes 0 at
