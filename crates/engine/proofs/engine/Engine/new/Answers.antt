use Rattle.std.proofs.Common.{◌≡◌, ℕ, [], sym, ap, subst}
use Rattle.inner.specs.Meant.{Loaded}
use Rattle.inner.specs.Serving.{PriceFits}
use Rattle.inner.proofs.Keeping.{new_kept}
use Rattle.inner.proofs.Moments.{bare_moment}
use Rattle.standing.specs.Moments.{Stands, bare_stands, sound_bare}
use Rattle.plain.specs.States as plain
use Rattle.cells.specs.Cells.{Unheld}
use Rattle.engine.proofs.engine.Engine.new.Goals as goal

pub returns-clause-stands : goal.returns-clause-stands
returns-clause-stands g c =
    let m = g.S.Meaning.cells c.clear.new.self in
    let is_bare = bare_moment c.default.result c.default.ensures.0 in
    let unheld : (k : ℕ) → Unheld m k = λ k. ap (λ f. f k) c.clear.ensures.cleared.none_held in
    record { state = plain.bare; stands = subst (λ w. Stands m w plain.bare) (sym is_bare) (bare_stands unheld); sound = sound_bare }

pub returns-clause-in_service : goal.returns-clause-in_service
returns-clause-in_service g c =
    let i = c.default.result in
    let m = g.S.Meaning.cells c.clear.new.self in
    let is_bare = bare_moment i c.default.ensures.0 in
    let no_input : i.inputs.items ≡ [] = c.default.ensures.1.1.0 in
    let no_caller : i.callers.items ≡ [] = c.default.ensures.1.1.1.1.0 in
    let s = returns-clause-stands g c in
    record {
      ok = c.clear.ensures.ok;
      serving = record {
        kept = new_kept i no_input no_caller (subst (λ a. Loaded a i.sheet) (sym c.default.ensures.0) tt);
        fits = subst (λ w. PriceFits w m) (sym is_bare) tt;
        state = s.state;
        stands = s.stands;
        sound = s.sound;
      };
    }
