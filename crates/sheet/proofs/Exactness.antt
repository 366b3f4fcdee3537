-- An answer that is the verdict accepts exactly what the rules derive.
use Rattle.std.proofs.Common.{◌≡◌, ℕ, List, Some, Ok, Err, Result, sym, ◌∙◌}
use Rattle.records.specs.declared.faults.Fault.{Fault}
use Rattle.rules.specs.Programs.{Tables}
use Rattle.rules.specs.Verdict.{verdict}
use Rattle.rules.proofs.Holds.{check_accepts_what_the_rules_derive}
use Rattle.sheet.specs.declared.passed.Sheet.{Sheet}
use Rattle.sheet.specs.Checked.{answered, accepted, AcceptsExactly}

-- an answer with tables, as a verdict
answered_of : (r : Result Sheet Fault) (t : Tables) → accepted r ≡ Some t → answered r ≡ Ok t
answered_of (Ok s) t e = cc
answered_of (Err f) t e = cc

accepted_of : (r : Result Sheet Fault) (t : Tables) → answered r ≡ Ok t → accepted r ≡ Some t
accepted_of (Ok s) t e = cc
accepted_of (Err f) t e = cc

pub exactly : (bytes : List ℕ) (r : Result Sheet Fault) → answered r ≡ verdict bytes → AcceptsExactly bytes r
exactly bytes r e t = (
  λ a. (check_accepts_what_the_rules_derive bytes t).0 (sym e ∙ answered_of r t a),
  λ l. accepted_of r t (e ∙ (check_accepts_what_the_rules_derive bytes t).1 l),
)
