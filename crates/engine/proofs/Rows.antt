-- One step more of an advance. Rests on the rows of an advance and on what it does on words.
use Rattle.std.proofs.Common.{◌≡◌, ℕ, suc, ◌+◌, ◌-◌, ◌<◌, List, [], ◌∷◌, ◌++◌, length, Ok, Err, sym, refl, ◌∙◌, subst, arith, length-append}
use Rattle.cells.specs.declared.store.Meaning.{Ghosts}
use Rattle.plain.specs.Calls.{Phase, is_running, is_done, one_step, advance, Answer, in_phase, advanced, refused_with, advance_excluded, too_deep, too_deep_after}
use Rattle.standing.specs.Serving.{Done as Outcome, done}
use Rattle.inner.specs.declared.kept.State.TheVariants.{Running, Done}
use Rattle.inner.specs.Meant.{moment}
use Rattle.inner.specs.Serving.{Unaltered}
use Rattle.inner.proofs.Stepping.{told_alters}
use Rattle.inner.proofs.Excluded.{advance_is_excluded}
use Rattle.inner.proofs.Advancing.{LeftOf, one_step_further, last_step, refused_further, no_more, not_begun, run_is_on, state_behind_step}
use Rattle.engine.specs.declared.engine.Engine.{Engine}
use Rattle.engine.specs.Service.{cells_of, capacity_of, InService, CallMade}
use Rattle.engine.specs.declared.faults.EngineFault.TheVariants.{AdvanceExcluded, TooDeepAfter}
use Rattle.engine.specs.Rows.{Row, no_step, a_step, Stopped, not_running, all_made, run_over, refused_next, Advanced}
use Rattle.engine.proofs.Calls.{store_kept, call_made}

module _ {S : Type 0} (M : Ghosts S) where
  -- from e, an advance of n steps has made some and has come to f
  pub record Passed (n : ℕ) (e : Engine S) (made : ℕ) (f : Engine S) : Type 0 where
    pub row : List (Engine S)
    pub steps : Row M e row f
    pub as_many : length row ≡ made
    pub capacity : capacity_of M f ≡ capacity_of M e
    pub left : (d : Outcome) → LeftOf (moment f.inner) (cells_of M f) (n - made) made d → LeftOf (moment e.inner) (cells_of M e) n 0 d

  -- one engine more at the end of a row
  pub row_more : {e f g : Engine S} {row : List (Engine S)} (p : Phase) → Row M e row f → CallMade M f one_step (in_phase p) g → Row M e (row ++ g ∷ []) g
  row_more p no_step made = a_step p made no_step
  row_more p (a_step q first rest) made = a_step q first (row_more p rest made)

  pub row_length : (row : List (Engine S)) (g : Engine S) (made : ℕ) → length row ≡ made → length (row ++ g ∷ []) ≡ made + 1
  row_length row g made e = length-append row (g ∷ []) ∙ omega (arith, e)

  pub none_passed : (n : ℕ) (e : Engine S) → Passed n e 0 e
  none_passed n e =
      record {
        row = [];
        steps = no_step;
        as_many = refl;
        capacity = refl;
        left = λ d x. subst (λ k. LeftOf (moment e.inner) (cells_of M e) k 0 d) (let z : n - 0 ≡ n = omega arith in z) x;
      }

  -- what is left behind a step is what was left before it
  left_further : (n : ℕ) (f g : Engine S) (made : ℕ) → InService M f → f.inner.state ≡ Running → made < n →
      CallMade M f one_step (in_phase is_running) g → (d : Outcome) →
      LeftOf (moment g.inner) (cells_of M g) (n - (made + 1)) (made + 1) d → LeftOf (moment f.inner) (cells_of M f) (n - made) made d
  left_further n f g made v on more step d x =
      subst (λ k. LeftOf (moment f.inner) (cells_of M f) k made d) (let z : suc (n - (made + 1)) ≡ n - made = omega arith in z)
      (one_step_further (cells_of M f) (n - (made + 1)) made (moment g.inner) (cells_of M g) d (run_is_on f.inner v.serving.kept on) step.did x)

  pub one_passed : (n : ℕ) (e f g : Engine S) (made : ℕ) → InService M f → f.inner.state ≡ Running → made < n → Passed n e made f →
      CallMade M f one_step (in_phase is_running) g → Passed n e (made + 1) g
  one_passed n e f g made v on more p step =
      record {
        row = p.row ++ g ∷ [];
        steps = row_more is_running p.steps step;
        as_many = row_length p.row g made p.as_many;
        capacity = step.capacity ∙ p.capacity;
        left = λ d x. p.left d (left_further n f g made v on more step d x);
      }

  module _ (n : ℕ) (e : Engine S) (v : InService M e) where
    -- a state that excludes an advance
    pub excluded_advance : (e.inner.state ≡ Running → ⊥) → CallMade M e (advance n) (refused_with advance_excluded) e × Advanced M e n (Err AdvanceExcluded) e
    excluded_advance off = (
      call_made M e e (advance n) (refused_with advance_excluded) v
          (store_kept M e e (advance n) _ v.ok refl (advance_is_excluded (capacity_of M e) (cells_of M e) e.inner v.serving.kept v.serving.fits n off)),
      record { row = []; last = e; steps = no_step; stopped = not_running off },
    )

    -- the whole advance, from what was left of it
    whole : (a : Answer) (f : Engine S) → InService M f → capacity_of M f ≡ capacity_of M e →
        LeftOf (moment e.inner) (cells_of M e) n 0 (done a (moment f.inner) (cells_of M f)) →
        Unaltered (cells_of M e) e.inner a (cells_of M f) f.inner → CallMade M e (advance n) a f
    whole a f w same x u =
        call_made M e f (advance n) a v
        (record {
          ok = w.ok;
          capacity = same;
          does =
              record { kept = w.serving.kept; fits = w.serving.fits; did = not_begun (moment e.inner) (cells_of M e) n _ x; unaltered = u };
        })

    module _ (f : Engine S) (made : ℕ) (w : InService M f) (on : f.inner.state ≡ Running) (p : Passed n e made f) where
      -- all steps are made
      pub full_advance : made ≡ n → CallMade M e (advance n) (advanced made is_running) f × Advanced M e n (Ok (made, Running)) f
      full_advance all = (
        whole (advanced made is_running) f w p.capacity
            (p.left _
            (subst (λ k. LeftOf (moment f.inner) (cells_of M f) k made (done (advanced made is_running) (moment f.inner) (cells_of M f)))
            (let z : 0 ≡ n - made = omega arith in z) (no_more (cells_of M f) made (run_is_on f.inner w.serving.kept on))))
            (told_alters (advanced made is_running) tt),
        record {
          row = p.row;
          last = f;
          steps = p.steps;
          stopped =
              subst (λ k. Stopped M n (Ok (made, Running)) k f f) (sym p.as_many)
              (subst (λ k. Stopped M n (Ok (k, Running)) k f f) (sym all) (all_made on));
        },
      )

      module _ (g : Engine S) (more : made < n) where
        left_here : (d : Outcome) → LeftOf (moment f.inner) (cells_of M f) (suc (n - (made + 1))) made d → LeftOf (moment e.inner) (cells_of M e) n 0 d
        left_here d x = p.left d (subst (λ k. LeftOf (moment f.inner) (cells_of M f) k made d) (let z : suc (n - (made + 1)) ≡ n - made = omega arith in z) x)

        -- the run ends with the next step
        pub ended_advance : CallMade M f one_step (in_phase is_done) g →
            CallMade M e (advance n) (advanced (made + 1) is_done) g × Advanced M e n (Ok (made + 1, Done)) g
        ended_advance step = (
          whole (advanced (made + 1) is_done) g step.in_service (step.capacity ∙ p.capacity)
              (left_here _
              (last_step (cells_of M f) (n - (made + 1)) made (moment g.inner) (cells_of M g) (run_is_on f.inner w.serving.kept on) step.did))
              (told_alters (advanced (made + 1) is_done) tt),
          record {
            row = p.row ++ g ∷ [];
            last = g;
            steps = row_more is_done p.steps step;
            stopped =
                subst (λ k. Stopped M n (Ok (made + 1, Done)) k g g) (sym (row_length p.row g made p.as_many))
                (run_over (omega arith)
                (state_behind_step (cells_of M f) f.inner g.inner Done (cells_of M g) w.serving.kept step.in_service.serving.kept on step.did));
          },
        )

        -- the next step is refused
        pub refused_advance : CallMade M f one_step (refused_with too_deep) g →
            CallMade M e (advance n) (refused_with (too_deep_after made)) g × Advanced M e n (Err (TooDeepAfter made)) g
        refused_advance step = (
          whole (refused_with (too_deep_after made)) g step.in_service (step.capacity ∙ p.capacity)
              (left_here _
              (refused_further (cells_of M f) (n - (made + 1)) made too_deep (moment g.inner) (cells_of M g) (run_is_on f.inner w.serving.kept on) step.did))
              (λ x q other. absurd (other made (let z : x ≡ too_deep_after made = cc in z))),
          record {
            row = p.row;
            last = f;
            steps = p.steps;
            stopped = subst (λ k. Stopped M n (Err (TooDeepAfter made)) k f g) (sym p.as_many) (refused_next more step);
          },
        )
