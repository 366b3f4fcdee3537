-- The kinds of records, the kind byte of each, and what stands behind a kind byte. Assumes nothing.
use Rattle.std.specs.Prelude.{◌≡◌, ℕ, List, ◌∷◌, Some, Ok, Err, Result, MatchResult, ◌≢◌}
use Rattle.records.specs.declared.faults.Cause.{Cause}
use Rattle.records.specs.declared.faults.Cause.TheVariants.{UnknownKind}
use Rattle.records.specs.declared.kinds.Record.{Record}
use Rattle.records.specs.declared.layouts.Kind.{Kind}
use Rattle.records.specs.declared.layouts.Kind.TheVariants.{ListType, Function, Const, Arith, Empty, Cons, Call, Return, Match, If}
use Rattle.records.specs.Cutting.{Cutting, cut_kind}

-- the byte with which a record of this kind begins
abbrev pub kind_byte : Kind → ℕ
kind_byte ListType = 0x11
kind_byte Function = 0x20
kind_byte Const = 0x30
kind_byte Arith = 0x31
kind_byte Empty = 0x32
kind_byte Cons = 0x33
kind_byte Call = 0x35
kind_byte Return = 0x40
kind_byte Match = 0x41
kind_byte If = 0x43

-- the kind that begins with this byte, or an error where none does
abbrev pub Named : ℕ → Result Kind Cause → Type 0
Named byte r = MatchResult r (λ kind. kind_byte kind ≡ byte) (λ cause. (cause ≡ UnknownKind) × ((kind : Kind) → kind_byte kind ≢ byte))

-- a record, or the fault of a cause at this place
abbrev pub at_place : Result Record Cause → ℕ → Cutting
at_place (Ok r) place = Ok (Some r)
at_place (Err cause) place = Err (record { cause = cause; place = place })

-- these bytes behind this kind byte give this record, or are refused for this cause
abbrev pub CutBehind : ℕ → List ℕ → Result Record Cause → Type 0
CutBehind byte bytes r = (place : ℕ) → at_place r place ≡ cut_kind byte (byte ∷ bytes) place
