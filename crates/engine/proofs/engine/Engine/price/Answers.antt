use Rattle.plain.specs.Calls.{ask_price}
use Rattle.inner.proofs.Opening.{price_does}
use Rattle.engine.specs.Service.{cells_of, capacity_of}
use Rattle.engine.proofs.Calls.{asked}
use Rattle.engine.proofs.engine.Engine.price.Goals as goal

pub returns : goal.returns
returns g c =
    let M = g.S.Meaning in
    let e = c.args.self.now in
    let v = c.requires.in_service in
    asked M e ask_price _ _ c.price_now.ensures v (price_does (capacity_of M e) (cells_of M e) e.inner v.serving.kept v.serving.fits)
