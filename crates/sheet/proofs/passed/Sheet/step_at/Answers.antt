use Rattle.std.proofs.Common.{sym, ap, ◌∙◌}
use Rattle.rules.specs.Programs.{fetch}
use Rattle.sheet.proofs.Standing.{fetch_rest}
use Rattle.sheet.proofs.passed.Sheet.step_at.Goals as goal

pub returns : goal.returns
returns c =
    ap (λ xs. fetch xs c.args.at) (sym c.bytes-bytes.ensures) ∙ sym (fetch_rest c.bytes-bytes.result.now c.args.at) ∙ c.first_step.ensures
