use Rattle.std.proofs.Common.{◌≡◌, Err, refl, sym, ap, ◌∙◌, subst}
use Rattle.std.proofs.lemmas.Result.{err_from_is_err_and}
use Rattle.plain.specs.Calls.{load as load_of}
use Rattle.inner.proofs.Opening.{loads_does, load_refused_does, load_excluded_does}
use Rattle.engine.specs.Answers.{acceptance}
use Rattle.engine.specs.declared.faults.EngineFault.TheVariants.{Unlawful}
use Rattle.engine.specs.Service.{cells_of, capacity_of, CallMade}
use Rattle.engine.proofs.Calls.{call_made, store_kept}
use Rattle.engine.proofs.engine.Engine.load.Goals as goal

pub returns-then-not-admits_load : goal.returns-then-not-admits_load
returns-then-not-admits_load g c =
    let M = g.S.Meaning in
    let e = c.args.self.now in
    let v = c.requires.in_service in
    call_made M e e _ _ v
    (store_kept M e e _ _ v.ok refl
    (load_excluded_does (capacity_of M e) (cells_of M e) e.inner v.serving.kept v.serving.fits c.args.bytes.now (cells_of M e) e.inner
    (record { not_admitted = sym c.admits_load.ensures ∙ c.if-not-admits_load.true; same = record { inner = refl; cells = refl } })))

pub returns-in_err-sheet : goal.returns-in_err-sheet
returns-in_err-sheet g c =
    let M = g.S.Meaning in
    let e = c.args.self.now in
    let v = c.requires.in_service in
    let f = c.in_err-sheet.field-0.0 in
    let p = err_from_is_err_and c.from_residual.result c.from_residual.ensures.1 in
    let told : c.from_residual.result ≡ Err (Unlawful f) = p.1 ∙ ap Err p.2 in
    subst (λ r. CallMade M e (load_of c.args.bytes.now) (acceptance r) e) (sym told)
    (call_made M e e _ _ v
    (store_kept M e e _ _ v.ok refl
    (load_refused_does (capacity_of M e) (cells_of M e) e.inner v.serving.kept v.serving.fits c.args.bytes.now f (cells_of M e) e.inner
    (record {
      admitted = sym c.admits_load.ensures ∙ c.if-not-admits_load.false;
      failed = sym c.in_err-sheet.ensures.verdict;
      same = record { inner = refl; cells = refl };
    }))))

pub returns : goal.returns
returns g c =
    let M = g.S.Meaning in
    let e = c.args.self.now in
    let v = c.requires.in_service in
    let cleared = c.clear.ensures.cleared in
    call_made M e _ _ _ v
    (record {
      ok = c.clear.ensures.ok;
      capacity = cleared.same_capacity;
      does =
          loads_does (capacity_of M e) (cells_of M e) e.inner v.serving.kept c.args.bytes.now (M.cells c.clear.new.self) c.open_with.new.self
          (record {
            admitted = sym c.admits_load.ensures ∙ c.if-not-admits_load.false;
            sheet = c.in_ok-sheet.sheet;
            passed = sym c.in_ok-sheet.ensures.verdict;
            copied = c.in_ok-sheet.ensures.copies;
            inner = c.open_with.ensures;
            cells = cleared.none_held;
          });
    })
