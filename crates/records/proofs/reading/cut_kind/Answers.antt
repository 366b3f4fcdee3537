use Rattle.std.proofs.Common.{sym}
use Rattle.std.proofs.lemmas.Result.{err_from_is_err_and}
use Rattle.records.proofs.NoKind.{of_no_kind}
use Rattle.records.proofs.reading.cut_kind.Goals as goal

pub returns-in_err-try_from : goal.returns-in_err-try_from
returns-in_err-try_from c =
    let p = err_from_is_err_and c.from_residual.result c.from_residual.ensures.1 in
    rw (p.1, p.2, c.in_err-try_from.ensures.0) (λ place. sym (of_no_kind c.args.byte c.in_err-try_from.ensures.1 c.args.fields.now place))
