-- The number under which a sheet is refused for each cause. Assumes nothing.
use Rattle.std.specs.Prelude.{ℕ}
use Rattle.records.specs.declared.faults.Cause.{Cause}
use Rattle.records.specs.declared.faults.Cause.TheVariants.{TooLong, UnknownKind, CutShort, OutOfOrder, NoFunction, TooMany, ElementNotLower, BadSignature, BadResult}
use Rattle.records.specs.declared.faults.Cause.TheVariants.{BodyEnd, WrongSecond, TooManyWaiting, BadField, EmptySlot, WrongType, BadBinding, ListLeft, BalanceTooSmall}

-- 10 to 12 are about the cut of records, 20 to 25 about types and function records, 30 to 40 about bodies
abbrev pub number_of : Cause → ℕ
number_of TooLong = 10
number_of UnknownKind = 11
number_of CutShort = 12
number_of OutOfOrder = 20
number_of NoFunction = 21
number_of TooMany = 22
number_of ElementNotLower = 23
number_of BadSignature = 24
number_of BadResult = 25
number_of BodyEnd = 30
number_of WrongSecond = 31
number_of TooManyWaiting = 32
number_of BadField = 33
number_of EmptySlot = 34
number_of WrongType = 35
number_of BadBinding = 36
number_of ListLeft = 37
number_of BalanceTooSmall = 40
