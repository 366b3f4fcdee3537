use Rattle.std.proofs.Common.{refl}
use Rattle.inner.proofs.Opening.{state_does}
use Rattle.engine.specs.Service.{cells_of, capacity_of}
use Rattle.engine.proofs.Calls.{call_made, store_kept}
use Rattle.engine.proofs.engine.Engine.state.Goals as goal

pub returns : goal.returns
returns g c =
    let M = g.S.Meaning in
    let e = c.args.self.now in
    let v = c.requires.in_service in
    call_made M e e _ _ v (store_kept M e e _ _ v.ok refl (state_does (capacity_of M e) (cells_of M e) e.inner v.serving.kept v.serving.fits))
