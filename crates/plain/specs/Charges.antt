-- What each kind of step charges and what it gives back, in cells: the one place for each kind. Rests on slots.
use Rattle.std.specs.Prelude.{ℕ, ◌+◌, ◌-◌, Some, None, Option}
use Rattle.records.specs.declared.kinds.Step.{Step as Action}
use Rattle.records.specs.declared.kinds.Step.TheVariants.{Const, Arith, Empty, Cons, Call, Return, Match, If}
use Rattle.plain.specs.Values.{Value, num, empty, node}
use Rattle.plain.specs.Slots.{Slots, value_in}

-- a Cons makes a node, and no other step does
abbrev pub charge : Action → ℕ
charge (Const d n) = 0
charge (Arith d op a b) = 0
charge (Empty d t) = 0
charge (Cons d t h l) = 1
charge (Call d f slots) = 0
charge (Return a) = 0
charge (Match a h l second) = 0
charge (If a second) = 0

-- what the node gives back that a Match takes apart, if it finds one
abbrev pub taken_apart : Option Value → ℕ
taken_apart None = 0
taken_apart (Some (num n)) = 0
taken_apart (Some empty) = 0
taken_apart (Some (node h l)) = 1

-- a Match on a node gives its cell back, and no other step gives one
abbrev pub given_back : Action → Slots → ℕ
given_back (Const d n) S = 0
given_back (Arith d op a b) S = 0
given_back (Empty d t) S = 0
given_back (Cons d t h l) S = 0
given_back (Call d f slots) S = 0
given_back (Return a) S = 0
given_back (Match a h l second) S = taken_apart (value_in S a)
given_back (If a second) S = 0

-- what a step leaves of a purse
abbrev pub purse_after : Action → Slots → ℕ → ℕ
purse_after s S purse = purse - charge s + given_back s S
