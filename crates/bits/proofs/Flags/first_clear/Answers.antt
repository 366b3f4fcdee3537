use Rattle.std.proofs.Common.{◌∙◌, sym, arith}
use Rattle.bits.proofs.FirstClear.{found_clear, all_set}
use Rattle.bits.proofs.Flags.first_clear.Goals as goal

pub returns-in_err-at : goal.returns-in_err-at
returns-in_err-at c = rw c.from_residual.ensures (all_set c.args.self.now.words (sym c.first_with_a_clear_bit.ensures ∙ c.in_err-at.was))

pub returns : goal.returns
returns c =
    rw c.trailing_ones.ensures
    (found_clear c.args.self.now.words c.in_ok-at.at (sym c.first_with_a_clear_bit.ensures ∙ c.in_ok-at.was) (omega arith))
