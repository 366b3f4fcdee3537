-- What the check finds on a branch. Rests on what is found of one step.
use Rattle.std.specs.Prelude.{Result}
use Rattle.records.specs.declared.faults.Cause.{Cause}
use Rattle.records.specs.declared.kinds.Step.{Step as Action}
use Rattle.rules.specs.declared.findings.Finding.{Finding}
use Rattle.rules.specs.Findings.{finding}
use Rattle.sheet.specs.declared.branch.Branch.{Branch}
use Rattle.sheet.specs.Held.{tables_of}

-- what is found where this step comes next
abbrev pub finding_on : Branch → Action → Result Finding Cause
finding_on b s = finding (tables_of b.tables.now) b.function.now b.waiting b.account s
