-- The engine is in service and runs; a row leads here, one engine for each step made; and what is left of the advance from here is
-- what was left of it at the start.
use Rattle.std.proofs.Common.{◌≡◌}
use Rattle.inner.specs.declared.kept.State.TheVariants.{Running}
use Rattle.engine.specs.Service.{InService}
use Rattle.engine.proofs.Rows.{Passed}
use Rattle.engine.proofs.engine.Engine.advance.Given as goal

abbrev pub invariant-loop-made : goal.invariant-loop-made
invariant-loop-made g l =
    record {
      in_service : InService g.S.Meaning l.self;
      running : l.self.inner.state ≡ Running;
      passed : Passed g.S.Meaning l.n l.initial.self l.made-counter l.self;
    }
