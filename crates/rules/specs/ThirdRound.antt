-- The third round: the bodies, in the order of the sheet. Rests on what is found of one step.
use Rattle.std.specs.Prelude.{ℕ, ◌+◌, cond, List, [], ◌∷◌, length, Ok, Err, Result, ◌==◌}
use Rattle.records.specs.declared.faults.Cause.{Cause}
use Rattle.records.specs.declared.faults.Cause.TheVariants.{BodyEnd, WrongSecond}
use Rattle.records.specs.declared.faults.Fault.{Fault}
use Rattle.records.specs.declared.kinds.Signature.{Signature}
use Rattle.records.specs.declared.kinds.Record.TheVariants.{ListType, Function, Step}
use Rattle.records.specs.Writing.{step_size}
use Rattle.records.specs.Rows.{Row, next, end, broken}
use Rattle.rules.specs.declared.accounts.Account.{Account}
use Rattle.rules.specs.declared.accounts.Waiting.{Waiting}
use Rattle.rules.specs.declared.findings.Finding.{Finding}
use Rattle.rules.specs.declared.findings.Finding.TheVariants.{Onward, Forks, Ends}
use Rattle.rules.specs.Programs.{Tables}
use Rattle.rules.specs.Accounts.{opening}
use Rattle.rules.specs.Findings.{finding}
use Rattle.rules.specs.SecondRound.{fault}

-- where the round is: between bodies, or in a body of this function, with the account of the branch and the second branches
-- that wait, the newest first
pub data Stage : Type 0 where
  between : Stage
  within : Signature → Account → List Waiting → Stage

-- a second branch that waits, of the Match or If at this place
abbrev pub waits : ℕ → ℕ → Account → Waiting
waits place second later = record { place = place; second = second; account = later }

-- nothing, or the first fault
abbrev pub Answer : Type 0
Answer = Result (Unit {0}) Fault

-- A branch of g has ended at this offset. The newest second branch that waits comes next, and has to start here.
abbrev pub branch_ended : Signature → List Waiting → ℕ → (Stage → Answer) → Answer
branch_ended g [] at go_on = go_on between
branch_ended g (w ∷ ws) at go_on = cond (w.second == at) (go_on (within g w.account ws)) (fault WrongSecond w.place)

-- how the round goes on behind a step at this place, which ends at that offset
abbrev pub passed : Result Finding Cause → Signature → ℕ → ℕ → List Waiting → (Stage → Answer) → Answer
passed (Err cause) g place at ws go_on = fault cause place
passed (Ok (Onward c)) g place at ws go_on = go_on (within g c ws)
passed (Ok (Forks first second later)) g place at ws go_on = go_on (within g first (waits place second later ∷ ws))
passed (Ok Ends) g place at ws go_on = branch_ended g ws at go_on

-- the first fault of a row of records from this stage on; a type record in a body is for the second round to refuse
abbrev pub bodies_pass : Tables → Row → Stage → Answer
bodies_pass t (end at) between = Ok tt
bodies_pass t (end at) (within g c ws) = fault BodyEnd at
bodies_pass t (broken f) stage = Err f
bodies_pass t (next at (ListType x) rest) between = bodies_pass t rest between
bodies_pass t (next at (ListType x) rest) (within g c ws) = fault BodyEnd at
bodies_pass t (next at (Function g) rest) between = bodies_pass t rest (within g (opening g) [])
bodies_pass t (next at (Function g) rest) (within h c ws) = fault BodyEnd at
bodies_pass t (next at (Step s) rest) between = fault BodyEnd at
bodies_pass t (next at (Step s) rest) (within g c ws) =
    passed (finding t g (length ws) c s) g at (at + step_size s) ws (λ stage. bodies_pass t rest stage)
