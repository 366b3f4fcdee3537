use Rattle.sheet.proofs.Exactness.{exactly}
use Rattle.sheet.proofs.checking.check.Goals as goal

pub returns-clause-exact : goal.returns-clause-exact
returns-clause-exact c = exactly c.args.bytes.now c.made.result c.made.ensures.verdict
