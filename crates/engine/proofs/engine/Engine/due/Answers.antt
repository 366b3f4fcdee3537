use Rattle.inner.specs.declared.kept.State.TheVariants.{Running}
use Rattle.inner.proofs.Needed.{stands_due}
use Rattle.inner.proofs.States.{told_same}
use Rattle.engine.specs.Service.{cells_of, capacity_of}
use Rattle.engine.proofs.engine.Engine.due.Goals as goal

pub step_at-requires : goal.step_at-requires
step_at-requires g c =
    let e = c.args.self.now in
    let v = c.requires.in_service in
    record {
      stands =
          stands_due (capacity_of g.S.Meaning e) (cells_of g.S.Meaning e) e.inner c.sheet-sheet.result.now (g.S.Meaning.numbered e.store v.ok) v.serving
          (told_same e.inner.state Running _ c.ne.ensures c.if-ne.false) c.sheet-sheet.ensures;
    }

pub returns : goal.returns
returns g c =
    record {
      running = told_same c.args.self.now.inner.state Running _ c.ne.ensures c.if-ne.false;
      sheet = c.sheet-sheet.result.now;
      loaded = c.sheet-sheet.ensures;
      fetched = c.step_at.ensures;
    }
