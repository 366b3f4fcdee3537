use Rattle.inner.proofs.Opening.{abandon_does}
use Rattle.engine.specs.Service.{cells_of, capacity_of}
use Rattle.engine.proofs.Calls.{call_made}
use Rattle.engine.proofs.engine.Engine.abandon.Goals as goal

pub returns : goal.returns
returns g c =
    let M = g.S.Meaning in
    let e = c.args.self.now in
    let v = c.requires.in_service in
    let cleared = c.clear.ensures.cleared in
    call_made M e _ _ _ v
    (record {
      ok = c.clear.ensures.ok;
      capacity = cleared.same_capacity;
      does = abandon_does (capacity_of M e) (cells_of M e) e.inner v.serving.kept v.serving.fits (M.cells c.clear.new.self) c.abandon.new.self c.abandon.ensures cleared.none_held;
    })
