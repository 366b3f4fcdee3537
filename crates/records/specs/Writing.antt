-- How a record is written as bytes. Assumes nothing.
use Rattle.std.specs.Prelude.{ℕ, ◌/◌, ◌%◌, List, [], ◌∷◌, ◌++◌}
use Rattle.records.specs.declared.kinds.Step.{Step as Action}
use Rattle.records.specs.declared.kinds.Step.TheVariants.{Const, Arith, Empty, Cons, Call, Return, Match, If}
use Rattle.records.specs.declared.kinds.Record.{Record}
use Rattle.records.specs.declared.kinds.Record.TheVariants.{ListType, Function, Step}

-- a number in two bytes, and in four, the high byte first
abbrev pub in_two : ℕ → List ℕ
in_two n = n / 256 ∷ (n % 256 ∷ [])

abbrev pub in_four : ℕ → List ℕ
in_four n = n / 0x1000000 ∷ (n / 0x10000 % 256 ∷ (n / 256 % 256 ∷ (n % 256 ∷ [])))

-- a step is its kind byte and its fields, in the order of the format
abbrev pub step_written : Action → List ℕ
step_written (Const d number) = 0x30 ∷ (d ∷ in_four number)
step_written (Arith d op a b) = 0x31 ∷ (d ∷ (op ∷ (a ∷ (b ∷ []))))
step_written (Empty d t) = 0x32 ∷ (d ∷ (t ∷ []))
step_written (Cons d t h l) = 0x33 ∷ (d ∷ (t ∷ (h ∷ (l ∷ []))))
step_written (Call d function slots) = 0x35 ∷ (d ∷ (function ∷ slots))
step_written (Return a) = 0x40 ∷ (a ∷ [])
step_written (Match a h l second) = 0x41 ∷ (a ∷ (h ∷ (l ∷ in_two second)))
step_written (If a second) = 0x43 ∷ (a ∷ in_two second)

-- and so is any record
abbrev pub written : Record → List ℕ
written (ListType t) = 0x11 ∷ (t.element ∷ in_two t.amount)
written (Function f) = 0x20 ∷ (f.count ∷ (f.params ++ f.result ∷ (in_two f.entry ++ in_two f.remainder)))
written (Step s) = step_written s

-- a row of records, one behind the other
abbrev pub writing : List Record → List ℕ
writing [] = []
writing (r ∷ rs) = written r ++ writing rs

-- how many bytes a record takes, its kind byte included
abbrev pub step_size : Action → ℕ
step_size (Const d number) = 6
step_size (Arith d op a b) = 5
step_size (Empty d t) = 3
step_size (Cons d t h l) = 5
step_size (Call d function slots) = 7
step_size (Return a) = 2
step_size (Match a h l second) = 6
step_size (If a second) = 4

abbrev pub size : Record → ℕ
size (ListType t) = 4
size (Function f) = 11
size (Step s) = step_size s
