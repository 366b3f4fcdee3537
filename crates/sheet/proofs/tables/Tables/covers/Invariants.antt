-- The two types that the walk has come to cover as the first two do.
use Rattle.std.proofs.Common.{◌≡◌}
use Rattle.rules.specs.Types.{type_of}
use Rattle.rules.specs.Tests.{covers}
use Rattle.sheet.specs.Held.{types_of}
use Rattle.sheet.proofs.tables.Tables.covers.Given as goal

abbrev pub invariant-elements : goal.invariant-elements
invariant-elements l =
    covers (type_of (types_of l.self) l.upper) (type_of (types_of l.self) l.lower) ≡ covers (type_of (types_of l.self) l.s) (type_of (types_of l.self) l.t)

abbrev pub decreases-elements : goal.decreases-elements
decreases-elements l = l.upper
