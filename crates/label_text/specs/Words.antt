-- The words for records and refusals. Assumes nothing.
use Rattle.std.specs.Prelude.{ℕ, cond, List, ◌++◌, codes, decimal, ◌==◌, slice_index}
use Rattle.records.specs.declared.faults.Cause.{Cause}
use Rattle.records.specs.declared.faults.Cause.TheVariants.{TooLong, UnknownKind, CutShort, OutOfOrder, NoFunction, TooMany, ElementNotLower, BadSignature, BadResult}
use Rattle.records.specs.declared.faults.Cause.TheVariants.{BodyEnd, WrongSecond, TooManyWaiting, BadField, EmptySlot, WrongType, BadBinding, ListLeft, BalanceTooSmall}
use Rattle.records.specs.declared.kinds.NodeType.{NodeType}
use Rattle.records.specs.declared.kinds.Signature.{Signature}
use Rattle.records.specs.declared.kinds.Step.{Step as Action}
use Rattle.records.specs.declared.kinds.Step.TheVariants.{Const, Arith, Empty, Cons, Call, Return, Match, If}
use Rattle.records.specs.declared.kinds.Record.{Record}
use Rattle.records.specs.declared.kinds.Record.TheVariants.{ListType, Function, Step}

-- a field that may be unused
abbrev pub field : ℕ → List ℕ
field n = cond (n == 255) (codes "-") (decimal n)

abbrev pub four_fields : List ℕ → List ℕ
four_fields xs = field (slice_index xs 0) ++ (codes " " ++ (field (slice_index xs 1) ++ (codes " " ++ (field (slice_index xs 2) ++ (codes " " ++ field (slice_index xs 3))))))

abbrev pub step_words : Action → List ℕ
step_words (Const d number) = codes "const, d " ++ (decimal d ++ (codes ", number " ++ decimal number))
step_words (Arith d op a b) = codes "arith, d " ++ (decimal d ++ (codes ", op " ++ (decimal op ++ (codes ", a " ++ (decimal a ++ (codes ", b " ++ decimal b))))))
step_words (Empty d t) = codes "empty, d " ++ (decimal d ++ (codes ", t " ++ decimal t))
step_words (Cons d t h l) = codes "cons, d " ++ (decimal d ++ (codes ", t " ++ (decimal t ++ (codes ", h " ++ (decimal h ++ (codes ", l " ++ decimal l))))))
step_words (Call d function slots) = codes "call, d " ++ (decimal d ++ (codes ", function " ++ (decimal function ++ (codes ", slots " ++ four_fields slots))))
step_words (Return a) = codes "return, a " ++ decimal a
step_words (Match a h l second) = codes "match list, a " ++ (decimal a ++ (codes ", h " ++ (decimal h ++ (codes ", l " ++ (decimal l ++ (codes ", second " ++ decimal second))))))
step_words (If a second) = codes "if, a " ++ (decimal a ++ (codes ", second " ++ decimal second))

abbrev pub type_words : ℕ → NodeType → List ℕ
type_words number t = codes "list type " ++ (decimal number ++ (codes ", element " ++ (decimal t.element ++ (codes ", amount " ++ decimal t.amount))))

abbrev pub amount_words : Signature → List ℕ
amount_words f = codes ", result " ++ (decimal f.result ++ (codes ", entry " ++ (decimal f.entry ++ (codes ", remainder " ++ decimal f.remainder))))

abbrev pub function_words : ℕ → Signature → List ℕ
function_words number f =
    codes "function " ++ (decimal number ++ (codes ", count " ++ (decimal f.count ++ (codes ", parameters " ++ (four_fields f.params ++ amount_words f)))))

-- a record in words, with its number where it is a type or a function
abbrev pub words : ℕ → Record → List ℕ
words number (ListType t) = type_words number t
words number (Function f) = function_words number f
words number (Step s) = step_words s

-- why a sheet is refused
abbrev pub reason : Cause → List ℕ
reason TooLong = codes "the sheet is longer than 4096 bytes"
reason UnknownKind = codes "no record has this kind"
reason CutShort = codes "the sheet ends inside this record"
reason OutOfOrder = codes "a step before the first function, or a type behind it"
reason NoFunction = codes "the sheet has no function"
reason TooMany = codes "more than 32 types or functions"
reason ElementNotLower = codes "the element type has not come before"
reason BadSignature = codes "a count over 4, an unknown type or an FF out of place"
reason BadResult = codes "the result of function 0 is no list of Number"
reason BodyEnd = codes "a step behind a body's end, or a body that is not finished"
reason WrongSecond = codes "the second branch starts elsewhere"
reason TooManyWaiting = codes "more than 16 second branches wait"
reason BadField = codes "a slot, function, op, type or FF that cannot stand here"
reason EmptySlot = codes "an empty slot is used"
reason WrongType = codes "a slot has the wrong sort, or does not cover what is asked"
reason BadBinding = codes "a list slot is bound, or one slot twice"
reason ListLeft = codes "a list is left at a return"
reason BalanceTooSmall = codes "the balance is too small"
