use Rattle.std.proofs.Common.{rules}
use Rattle.sheet.proofs.Padded.{padded_parts, padded_short}
use Rattle.sheet.proofs.types.padded.Goals as goal

pub returns-in_default : goal.returns-in_default
returns-in_default c = search (rules, padded_short)

pub returns-then-all_below : goal.returns-then-all_below
returns-then-all_below c = search (rules, padded_parts)

pub returns-else-all_below : goal.returns-else-all_below
returns-else-all_below c = search (rules, padded_parts)
