use Rattle.bits.proofs.Rows.{flags_of_zeros}
use Rattle.bits.proofs.Flags.none.Goals as goal

pub returns : goal.returns
returns c = flags_of_zeros 32
