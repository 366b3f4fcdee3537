use Rattle.std.proofs.Common.{sym, subst}
use mir.Facts.{Fits-lt-pow}
use Rattle.records.specs.Sheets.{ReadInOneWay}
use Rattle.records.proofs.OneWay.{read_in_one_way}
use Rattle.records.proofs.rounds.first_round.Goals as goal

pub returns-clause-sheet : goal.returns-clause-sheet
returns-clause-sheet c =
    subst (ReadInOneWay c.args.bytes.now) (sym c.cut_all.ensures) (read_in_one_way c.args.bytes.now (λ i. Fits-lt-pow (c.type_inv.bytes i)))
