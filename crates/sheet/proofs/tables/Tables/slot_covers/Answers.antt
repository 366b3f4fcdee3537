use Rattle.std.proofs.Common.{sym, ap, ◌∙◌, arith}
use Rattle.rules.specs.Accounts.{slot_covers}
use Rattle.rules.proofs.Entries.{list_enough}
use Rattle.sheet.specs.Held.{types_of}
use Rattle.sheet.proofs.tables.Tables.slot_covers.Goals as goal

pub returns-then-own-wanted : goal.returns-then-own-wanted
returns-then-own-wanted c =
    c.covers.ensures
    ∙ sym (list_enough (types_of c.args.self.now) c.args.self.now.lower c.in-ListOf-2.s c.args.t _ _ c.type_record-own.ensures c.type_record-wanted.ensures (omega arith) (omega arith))
    ∙ ap (λ x. slot_covers (types_of c.args.self.now) x c.args.t) (sym c.in-ListOf-2.is)
