use Rattle.rules.proofs.Holds.{check_accepts_what_the_rules_derive}
use Rattle.rules.proofs.law.check_accepts_what_the_rules_derive.Goals as goal

pub returns : goal.returns
returns c = check_accepts_what_the_rules_derive
