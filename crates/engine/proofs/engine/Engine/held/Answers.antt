use Rattle.plain.specs.Calls.{ask_held}
use Rattle.inner.proofs.Opening.{held_does}
use Rattle.engine.specs.Service.{cells_of, capacity_of}
use Rattle.engine.proofs.Calls.{asked}
use Rattle.engine.proofs.engine.Engine.held.Goals as goal

pub returns : goal.returns
returns g c =
    let M = g.S.Meaning in
    let e = c.args.self.now in
    let v = c.requires.in_service in
    asked M e ask_held _ _ c.held.ensures v (held_does (capacity_of M e) (cells_of M e) e.inner v.serving.kept v.serving.fits)
