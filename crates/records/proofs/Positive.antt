-- Every record has its kind byte, so a reader that has cut one has moved.
use Rattle.std.proofs.Common.{◌<◌, lit<}
use Rattle.records.specs.declared.kinds.Step.{Step as Action}
use Rattle.records.specs.declared.kinds.Step.TheVariants.{Const, Arith, Empty, Cons, Call, Return, Match, If}
use Rattle.records.specs.declared.kinds.Record.{Record}
use Rattle.records.specs.declared.kinds.Record.TheVariants.{ListType, Function, Step}
use Rattle.records.specs.Writing.{size, step_size}

pub step_size_positive : (s : Action) → 0 < step_size s
step_size_positive (Const d number) = lit< tt
step_size_positive (Arith d op a b) = lit< tt
step_size_positive (Empty d t) = lit< tt
step_size_positive (Cons d t h l) = lit< tt
step_size_positive (Call d f slots) = lit< tt
step_size_positive (Return a) = lit< tt
step_size_positive (Match a h l second) = lit< tt
step_size_positive (If a second) = lit< tt

pub size_positive : (r : Record) → 0 < size r
size_positive (ListType t) = lit< tt
size_positive (Function f) = lit< tt
size_positive (Step s) = step_size_positive s
