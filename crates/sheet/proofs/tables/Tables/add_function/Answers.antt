use Rattle.std.proofs.Common.{sym, subst, rules}
use Rattle.sheet.specs.Growth.{SmallRemainders}
use Rattle.sheet.proofs.Balances.{remainders_more}
use Rattle.sheet.proofs.tables.Tables.add_function.Goals as goal

pub invariant_of-self-clause-small_remainders : goal.invariant_of-self-clause-small_remainders
invariant_of-self-clause-small_remainders c =
    let old = c.args.self.now.functions.items in
    subst SmallRemainders (sym c.push.ensures.items) (remainders_more old (record { signature = c.args.signature; body = c.args.body }) c.args.self.now.small_remainders (search rules))
