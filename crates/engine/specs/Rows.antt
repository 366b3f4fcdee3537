-- The engines that an advance passes through, one for each step made, and why it stops. Rests on the outcome of a step.
use Rattle.std.specs.Prelude.{◌≡◌, ℕ, ◌<◌, ◌≤◌, List, [], ◌∷◌, length, Ok, Err, Result, ◌≢◌}
use Rattle.cells.specs.declared.store.Meaning.{Ghosts}
use Rattle.plain.specs.Calls.{Phase, one_step, in_phase, refused_with, too_deep}
use Rattle.inner.specs.declared.kept.State.{State}
use Rattle.inner.specs.declared.kept.State.TheVariants.{Running, Done}
use Rattle.engine.specs.declared.engine.Engine.{Engine}
use Rattle.engine.specs.declared.faults.EngineFault.{EngineFault}
use Rattle.engine.specs.declared.faults.EngineFault.TheVariants.{AdvanceExcluded, TooDeepAfter}
use Rattle.engine.specs.Service.{CallMade}

module _ {S : Type 0} (M : Ghosts S) where
  -- Row e row f: from e to f, each engine of the row follows from the one before by the outcome of a step that was made.
  pub data Row : Engine S → List (Engine S) → Engine S → Type 0 where
    no_step : {e : Engine S} → Row e [] e
    a_step : {e f g : Engine S} {fs : List (Engine S)} (p : Phase) → CallMade M e one_step (in_phase p) f → Row f fs g → Row e (f ∷ fs) g

  -- Stopped n answer made e f: an advance of n steps made some, to the engine e; then it stopped, and left f.
  pub data Stopped (n : ℕ) : Result (ℕ × State) EngineFault → ℕ → Engine S → Engine S → Type 0 where
    -- the state excludes it
    not_running : {e : Engine S} → (e.inner.state ≢ Running) → Stopped n (Err AdvanceExcluded) 0 e e
    -- all steps are made
    all_made : {e : Engine S} → e.inner.state ≡ Running → Stopped n (Ok (n, Running)) n e e
    -- the run ended with the last of them
    run_over : {made : ℕ} {e : Engine S} → made ≤ n → e.inner.state ≡ Done → Stopped n (Ok (made, Done)) made e e
    -- the next step, which was still asked for, is refused
    refused_next : {made : ℕ} {e f : Engine S} → made < n → CallMade M e one_step (refused_with too_deep) f → Stopped n (Err (TooDeepAfter made)) made e f

  -- an advance of n steps from e, its answer, and the engine f that it leaves
  pub record Advanced (e : Engine S) (n : ℕ) (answer : Result (ℕ × State) EngineFault) (f : Engine S) : Type 0 where
    pub row : List (Engine S)
    pub last : Engine S
    pub steps : Row e row last
    pub stopped : Stopped n answer (length row) last f
