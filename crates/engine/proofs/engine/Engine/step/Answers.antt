use Rattle.std.proofs.Common.{refl}
use Rattle.inner.proofs.Excluded.{step_excluded}
use Rattle.engine.specs.Service.{cells_of, capacity_of}
use Rattle.engine.proofs.Calls.{call_made, store_kept}
use Rattle.engine.proofs.engine.Engine.step.Goals as goal

pub returns-in-Some : goal.returns-in-Some
returns-in-Some g c =
    let e = c.args.self.now in
    let v = c.requires.in_service in
    call_made g.S.Meaning e _ _ _ v c.make.ensures

pub returns-in-None : goal.returns-in-None
returns-in-None g c =
    let M = g.S.Meaning in
    let e = c.args.self.now in
    let v = c.requires.in_service in
    call_made M e e _ _ v
    (store_kept M e e _ _ v.ok refl
    (step_excluded (capacity_of M e) (cells_of M e) e.inner v.serving.kept v.serving.fits (g.S.Meaning.numbered e.store v.ok) c.in-None.ensures))
