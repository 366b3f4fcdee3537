-- Writing and cutting are inverse to each other. Assumes nothing.
use Rattle.std.specs.Prelude.{◌≡◌, ℕ, ◌<◌, List, ◌++◌, length, drop, Some, Ok, slice_index}
use Rattle.records.specs.declared.kinds.Record.{Record}
use Rattle.records.specs.Writing.{written, size}
use Rattle.records.specs.Cutting.{Cutting}

-- each number is a byte
abbrev pub Bytes : List ℕ → Type 0
Bytes xs = (i : ℕ) → slice_index xs i < 256

-- each field of the record has a number that fits it
pub record Writable (r : Record) : Type 0 where
  pub sized : length (written r) ≡ size r
  pub bytes : Bytes (written r)

-- What a reader answers at the front of these bytes: the record whose writing they begin with, and no other.
pub record Reads (bytes : List ℕ) (answer : Cutting) : Type 0 where
  pub back : (r : Record) (behind : List ℕ) → Writable r → bytes ≡ written r ++ behind → answer ≡ Ok (Some r)
  pub only : (r : Record) → answer ≡ Ok (Some r) → Writable r × (bytes ≡ written r ++ drop (size r) bytes)
