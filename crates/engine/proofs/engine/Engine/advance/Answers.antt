use Rattle.std.proofs.Common.{◌≡◌, Ok, Err, sym, ap, ◌∙◌, subst, arith, rules}
use Rattle.std.proofs.lemmas.Result.{err_from_is_err_and}
use Rattle.plain.specs.Calls.{one_step, advance, advanced, in_phase, is_running, refused_with}
use Rattle.inner.specs.declared.kept.State.TheVariants.{Running, Done}
use Rattle.inner.specs.Meant.{moment, phase_of}
use Rattle.inner.proofs.Advancing.{answers_by, still_running, refused_for_depth, run_is_on, state_behind_step}
use Rattle.inner.proofs.States.{told_same, told_other, told_equal, told_unequal}
use Rattle.engine.specs.Answers.{step_answer, advance_answer}
use Rattle.engine.specs.declared.faults.EngineFault.TheVariants.{TooDeepAfter}
use Rattle.engine.specs.Service.{cells_of, CallMade}
use Rattle.engine.specs.Rows.{Advanced}
use Rattle.engine.proofs.Mapped.{value_before, error_before}
use Rattle.engine.proofs.Rows.{none_passed, one_passed, excluded_advance, full_advance, ended_advance, refused_advance}
use Rattle.engine.proofs.engine.Engine.advance.Goals as goal

pub returns-then-ne : goal.returns-then-ne
returns-then-ne g c =
    let e = c.args.self.now in
    let both = excluded_advance g.S.Meaning c.args.n e c.requires.in_service (told_other e.inner.state Running _ c.ne.ensures c.if-ne.true) in
    record { made = both.0; row = both.1 }

pub loop-made-init : goal.loop-made-init
loop-made-init g c =
    record {
      in_service = c.requires.in_service;
      running = told_same c.args.self.now.inner.state Running _ c.ne.ensures c.if-ne.false;
      passed = none_passed g.S.Meaning c.args.n c.args.self.now;
    }

pub loop-made-preserved : goal.loop-made-preserved
loop-made-preserved g c =
    let M = g.S.Meaning in
    let inv = c.loop-made.invariant in
    let f = c.loop-made.self in
    let h = c.step.new.self in
    let a = c.in_ok-state.state in
    let was = value_before _ c.map_err.result c.step.result c.map_err.ensures.cases a c.in_ok-state.was in
    let step = subst (λ r. CallMade M f one_step (step_answer r) h) was c.step.ensures in
    let on = run_is_on f.inner inv.in_service.serving.kept inv.running in
    let is =
    still_running a (answers_by (cells_of M f) (phase_of a) (moment h.inner) (cells_of M h) on step.did) (told_unequal a Done _ c.eq.ensures c.if-eq.false) in
    let went = subst (λ b. CallMade M f one_step (in_phase (phase_of b)) h) is step in
    record {
      in_service = step.in_service;
      running = state_behind_step (cells_of M f) f.inner h.inner Running (cells_of M h) inv.in_service.serving.kept step.in_service.serving.kept inv.running went.did;
      passed =
          one_passed M c.args.n c.args.self.now f h c.loop-made.made-counter inv.in_service inv.running c.loop-made-test.true inv.passed went;
    }

pub returns-then-eq : goal.returns-then-eq
returns-then-eq g c =
    let M = g.S.Meaning in
    let e = c.args.self.now in
    let v = c.requires.in_service in
    let inv = c.loop-made.invariant in
    let f = c.loop-made.self in
    let h = c.step.new.self in
    let a = c.in_ok-state.state in
    let was = value_before _ c.map_err.result c.step.result c.map_err.ensures.cases a c.in_ok-state.was in
    let step = subst (λ r. CallMade M f one_step (step_answer r) h) was c.step.ensures in
    let over = subst (λ b. CallMade M f one_step (in_phase (phase_of b)) h) (told_equal a Done _ c.eq.ensures c.if-eq.true) step in
    let both =
    ended_advance M c.args.n e v
    f c.loop-made.made-counter inv.in_service inv.running inv.passed h c.loop-made-test.true over in
    record { made = both.0; row = both.1 }

pub returns-in_err-state : goal.returns-in_err-state
returns-in_err-state g c =
    let M = g.S.Meaning in
    let e = c.args.self.now in
    let v = c.requires.in_service in
    let inv = c.loop-made.invariant in
    let f = c.loop-made.self in
    let h = c.step.new.self in
    let was = error_before _ c.map_err.result c.step.result c.map_err.ensures.cases c.in_err-state.field-0.0 c.in_err-state.was in
    let step = subst (λ r. CallMade M f one_step (step_answer r) h) was.1 c.step.ensures in
    let deep =
    subst (λ x. CallMade M f one_step (refused_with x) h)
    (refused_for_depth (cells_of M f) _ (moment h.inner) (cells_of M h) (run_is_on f.inner inv.in_service.serving.kept inv.running) step.did) step in
    let both =
    refused_advance M c.args.n e v
    f c.loop-made.made-counter inv.in_service inv.running inv.passed h c.loop-made-test.true deep in
    let told : c.in_err-state.field-0.0 ≡ TooDeepAfter c.loop-made.made-counter = let w = was.2 in search rules in
    let p = err_from_is_err_and c.from_residual.result c.from_residual.ensures.1 in
    let same : p.0 ≡ TooDeepAfter c.loop-made.made-counter = p.2 ∙ told in
    let is : c.from_residual.result ≡ Err (TooDeepAfter c.loop-made.made-counter) = p.1 ∙ ap Err same in
    record {
      made = subst (λ r. CallMade M e (advance c.args.n) (advance_answer r) h) (sym is) both.0;
      row = subst (λ r. Advanced M e c.args.n r h) (sym is) both.1;
    }

pub returns : goal.returns
returns g c =
    let M = g.S.Meaning in
    let e = c.args.self.now in
    let v = c.requires.in_service in
    let inv = c.loop-made.invariant in
    let few = c.loop-made.auto.made-counter-end in
    let all : c.loop-made.made-counter ≡ c.args.n = omega (arith, few, c.loop-made-test.false) in
    let both =
    full_advance M c.args.n e v
    c.loop-made.self c.loop-made.made-counter inv.in_service inv.running inv.passed all in
    record {
      made = subst (λ k. CallMade M e (advance c.args.n) (advanced k is_running) c.loop-made.self) all both.0;
      row = subst (λ k. Advanced M e c.args.n (Ok (k, Running)) c.loop-made.self) all both.1;
    }
