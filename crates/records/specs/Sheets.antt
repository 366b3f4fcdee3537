-- What the first round says of a sheet, in terms of writing alone: its bytes are the writing of exactly one row of records,
-- or of some records and then of bytes that begin none. Nothing here speaks of how a record is cut.
use Rattle.std.specs.Prelude.{◌≡◌, ℕ, ◌<◌, ◌≤◌, List, [], ◌∷◌, ◌++◌, length, Ok, Err, Result, ◌≢◌}
use Rattle.records.specs.declared.faults.Cause.{Cause}
use Rattle.records.specs.declared.faults.Cause.TheVariants.{TooLong, UnknownKind, CutShort}
use Rattle.records.specs.declared.faults.Fault.{Fault}
use Rattle.records.specs.declared.kinds.Record.{Record}
use Rattle.records.specs.declared.rounds.Tally.{Tally}
use Rattle.records.specs.Writing.{written, writing}
use Rattle.records.specs.Inverse.{Writable}
use Rattle.records.specs.FirstRound.{counted, no_records}

pub data AllWritable : List Record → Type 0 where
  no_record : AllWritable []
  one_more : {r : Record} {rs : List Record} → Writable r → AllWritable rs → AllWritable (r ∷ rs)

-- how many records of each sort there are, beside those of t
abbrev pub tally : Tally → List Record → Tally
tally t [] = t
tally t (r ∷ rs) = tally (counted t r) rs

-- the sheet is the writing of these records, and of no others
pub record Whole (sheet : List ℕ) (t : Tally) : Type 0 where
  pub short : length sheet ≤ 4096
  pub records : List Record
  pub writable : AllWritable records
  pub is : writing records ≡ sheet
  pub only : (others : List Record) → AllWritable others → writing others ≡ sheet → others ≡ records
  pub counts : t ≡ tally no_records records

-- why bytes behind this kind byte begin no record: the kind byte is that of none, or more bytes would have to follow
pub data BeginsNone (kind : ℕ) (rest : List ℕ) : Cause → Type 0 where
  no_such_kind : ((r : Record) (body : List ℕ) → Writable r → written r ≢ kind ∷ body) → BeginsNone kind rest UnknownKind
  more_wanted : (r : Record) (more : List ℕ) → Writable r → 0 < length more → written r ≡ kind ∷ (rest ++ more) → BeginsNone kind rest CutShort

-- the sheet is too long, or begins with these records and then with bytes that begin none
pub data Refused (sheet : List ℕ) : Fault → Type 0 where
  too_long : 4096 < length sheet → Refused sheet (record { cause = TooLong; place = 0 })
  breaks_off : {cause : Cause} (records : List Record) (kind : ℕ) (rest : List ℕ) → length sheet ≤ 4096 → AllWritable records →
      writing records ++ kind ∷ rest ≡ sheet → BeginsNone kind rest cause →
      Refused sheet (record { cause = cause; place = length (writing records) })

abbrev pub ReadInOneWay : List ℕ → Result Tally Fault → Type 0
ReadInOneWay sheet (Ok t) = Whole sheet t
ReadInOneWay sheet (Err f) = Refused sheet f
