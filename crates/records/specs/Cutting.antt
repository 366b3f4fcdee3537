-- How a record is cut from the front of bytes. Assumes nothing.
use Rattle.std.specs.Prelude.{ℕ, ◌+◌, ◌*◌, cond, List, [], ◌∷◌, length, Some, None, Ok, Err, Option, Result, ◌==◌, nat_lt, slice_index}
use Rattle.records.specs.declared.faults.Cause.TheVariants.{UnknownKind, CutShort}
use Rattle.records.specs.declared.faults.Fault.{Fault}
use Rattle.records.specs.declared.kinds.Step.TheVariants.{Const, Arith, Empty, Cons, Call, Return, Match, If}
use Rattle.records.specs.declared.kinds.Record.{Record}
use Rattle.records.specs.declared.kinds.Record.TheVariants.{ListType, Function, Step}
use Rattle.records.specs.Writing.{size}

-- a record, None at the end of the bytes, or a fault
abbrev pub Cutting : Type 0
Cutting = Result (Option Record) Fault

-- two bytes as a number, and four, the high byte first
abbrev pub two_bytes : ℕ → ℕ → ℕ
two_bytes high low = high * 256 + low

abbrev pub four_bytes : ℕ → ℕ → ℕ → ℕ → ℕ
four_bytes b3 b2 b1 b0 = b3 * 0x1000000 + b2 * 0x10000 + b1 * 256 + b0

-- the record, if its bytes are all there
abbrev pub whole : List ℕ → ℕ → Record → Cutting
whole bytes place r = cond (nat_lt (length bytes) (size r)) (Err (record { cause = CutShort; place = place })) (Ok (Some r))

-- the byte at i, and the number that begins there
abbrev pub byte : List ℕ → ℕ → ℕ
byte bytes i = slice_index bytes i

abbrev pub two_at : List ℕ → ℕ → ℕ
two_at bytes i = two_bytes (byte bytes i) (byte bytes (i + 1))

abbrev pub four_at : List ℕ → ℕ → ℕ
four_at bytes i = four_bytes (byte bytes i) (byte bytes (i + 1)) (byte bytes (i + 2)) (byte bytes (i + 3))

abbrev pub bytes_at : List ℕ → ℕ → List ℕ
bytes_at bytes i = byte bytes i ∷ (byte bytes (i + 1) ∷ (byte bytes (i + 2) ∷ (byte bytes (i + 3) ∷ [])))

-- the record that begins with this kind byte; `xs` is all the bytes, the kind byte first
abbrev pub cut_kind : ℕ → List ℕ → ℕ → Cutting
cut_kind kind xs place =
    cond (kind == 0x11) (whole xs place (ListType (record { element = byte xs 1; amount = two_at xs 2 })))
    (cond (kind == 0x20) (whole xs place (Function (record { count = byte xs 1; params = bytes_at xs 2; result = byte xs 6; entry = two_at xs 7; remainder = two_at xs 9 })))
    (cond (kind == 0x30) (whole xs place (Step (Const (byte xs 1) (four_at xs 2))))
    (cond (kind == 0x31) (whole xs place (Step (Arith (byte xs 1) (byte xs 2) (byte xs 3) (byte xs 4))))
    (cond (kind == 0x32) (whole xs place (Step (Empty (byte xs 1) (byte xs 2))))
    (cond (kind == 0x33) (whole xs place (Step (Cons (byte xs 1) (byte xs 2) (byte xs 3) (byte xs 4))))
    (cond (kind == 0x35) (whole xs place (Step (Call (byte xs 1) (byte xs 2) (bytes_at xs 3))))
    (cond (kind == 0x40) (whole xs place (Step (Return (byte xs 1))))
    (cond (kind == 0x41) (whole xs place (Step (Match (byte xs 1) (byte xs 2) (byte xs 3) (two_at xs 4))))
    (cond (kind == 0x43) (whole xs place (Step (If (byte xs 1) (two_at xs 2))))
    (Err (record { cause = UnknownKind; place = place })))))))))))

-- what stands at the front of the bytes, which begin at this place in the sheet
abbrev pub cut : List ℕ → ℕ → Cutting
cut [] place = Ok None
cut (kind ∷ body) place = cut_kind kind (kind ∷ body) place

-- how far the reader moves
abbrev pub moved : Cutting → ℕ
moved (Ok (Some r)) = size r
moved (Ok None) = 0
moved (Err f) = 0
