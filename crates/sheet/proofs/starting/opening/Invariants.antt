-- With the parameters that are left in their slots, the slots are those with all parameters.
use Rattle.std.proofs.Common.{◌≡◌, drop, take, replicate}
use Rattle.rules.specs.declared.accounts.Slot.TheVariants.{Vacant}
use Rattle.rules.specs.Accounts.{slots_from}
use Rattle.rules.specs.Limits.{slot_count}
use Rattle.sheet.proofs.starting.opening.Given as goal

abbrev pub invariant-loop-i : goal.invariant-loop-i
invariant-loop-i l =
    slots_from l.i (drop l.i l.t-items) l.slots
    ≡ slots_from 0 (take l.function.count l.function.params) (replicate slot_count Vacant)
