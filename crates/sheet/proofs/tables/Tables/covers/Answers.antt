use Rattle.std.proofs.Common.{sym, ◌∙◌, arith}
use Rattle.rules.proofs.Entries.{covers_enough}
use Rattle.sheet.specs.Held.{types_of}
use Rattle.sheet.proofs.tables.Tables.covers.Goals as goal

pub elements-preserved : goal.elements-preserved
elements-preserved c =
    sym (covers_enough (types_of c.args.self.now) c.args.self.now.lower c.elements.upper c.elements.lower _ _ c.type_record-a.ensures c.type_record-b.ensures
    (omega arith) (omega arith) (omega arith)) ∙ c.elements.invariant
