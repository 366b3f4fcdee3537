-- What a step does to all that an engine keeps, and that this is what a step does on words. Rests on the moments of each state.
use Rattle.std.proofs.Common.{◌≡◌, ℕ, ◌<◌, true, [], ◌∷◌, reverse, length, is_some, Some, Option, sym, refl, ap, ◌∙◌, subst, lit<, lit≤}
use Rattle.records.specs.declared.kinds.Step.{Step as Action}
use Rattle.cells.specs.Cells.{Map, Numbered}
use Rattle.plain.specs.Calls.{one_step, Answer, accepted, in_phase, advanced, pulled, at_end, counted, is_running, is_done, refused_with, too_deep}
use Rattle.plain.specs.States.{program_of}
use Rattle.standing.specs.declared.frames.Slot.{Slot}
use Rattle.standing.specs.declared.frames.Frame.{Frame}
use Rattle.standing.specs.Stepping.{Effect, goes_on, refused, effect, effect_at, handed_back}
use Rattle.standing.specs.Moments.{Moment}
use Rattle.standing.specs.Serving.{done, stepped, one_step_on_words}
use Rattle.standing.specs.Law.{Takeable}
use Rattle.standing.specs.Calls.{MayDo}
use Rattle.inner.specs.declared.kept.Inner.{Inner}
use Rattle.inner.specs.declared.kept.State.TheVariants.{Running}
use Rattle.inner.specs.Meant.{moment, sheet_of, suspended, frame_stack, no_frame, caller_limit, WellKept}
use Rattle.inner.specs.Changes.{with_frame, with_call, with_return, with_result}
use Rattle.inner.specs.Serving.{PriceFits, Unaltered, Does, ComesTo}
use Rattle.std.proofs.lemmas.List.{reverse-append}
use Rattle.inner.proofs.Stacks.{newest_top}
use Rattle.inner.proofs.Keeping.{frame_kept, call_kept, return_kept, result_kept}
use Rattle.inner.proofs.Moments.{running_moment, done_moment}

-- a number that no store holds: what is left open where no cell is taken
pub beyond_all : {m : Map} → Numbered m → Takeable m 65536
beyond_all numbered = record { from_one = lit≤ tt; unheld = numbered.not_above 65536 (lit< tt) }

-- an answer that is no refusal
abbrev pub Told : Answer → Type 0
Told accepted = Unit {0}
Told (in_phase x) = Unit {0}
Told (advanced n x) = Unit {0}
Told (pulled n) = Unit {0}
Told at_end = Unit {0}
Told (counted n) = Unit {0}
Told (refused_with x) = ⊥

pub told_alters : {m : Map} {i : Inner} {n : Map} {j : Inner} (a : Answer) → Told a → Unaltered m i a n j
told_alters a told x e other = absurd (subst Told e told)

-- what is the same is unaltered
pub same_unaltered : (m : Map) (i : Inner) (a : Answer) → Unaltered m i a m i
same_unaltered m i a x e other = (refl, refl)

-- a sheet is there
pub is_there : {X : Type 0} {o : Option X} {x : X} → o ≡ Some x → is_some o ≡ true
is_there e = ap is_some e

-- what the step does that is due
abbrev pub due_effect : (i : Inner) (a : Action) → ComesTo i a → Map → ℕ → Effect
due_effect i a due m k =
    effect (program_of (sheet_of due.sheet)) a i.frame.next i.frame.slots i.frame.awaiting (suspended i) m k

module _ (capacity : ℕ) (m n : Map) (i : Inner) (a : Action) (due : ComesTo i a) (k : ℕ) (takeable : Takeable m k) where
  step_did : (answer : Answer) (w : Moment) → stepped (sheet_of due.sheet) (frame_stack i) m (due_effect i a due m k) ≡ done answer w n →
      MayDo capacity (moment i) m one_step (done answer w n)
  step_did answer w e =
      record {
        number = k;
        takeable = takeable;
        is =
            sym (ap (λ x. one_step_on_words x m k) (running_moment i due.sheet due.running due.loaded) ∙
            (ap (λ o. stepped (sheet_of due.sheet) (frame_stack i) m (effect_at (program_of (sheet_of due.sheet)) o i.frame (suspended i) m k)) due.fetched ∙
            e));
      }

  goes_on_to : (j : Inner) → WellKept j → j.state ≡ Running → j.sheet ≡ Some due.sheet → due_effect i a due m k ≡ goes_on (frame_stack j) n →
      Does capacity m i one_step (in_phase is_running) n j
  goes_on_to j kept p q e =
      let moved = running_moment j due.sheet p q in
      record {
        kept = kept;
        fits = subst (λ w. PriceFits w n) (sym moved) tt;
        did =
            step_did (in_phase is_running) (moment j)
            (ap (stepped (sheet_of due.sheet) (frame_stack i) m) e ∙ ap (λ w. done (in_phase is_running) w n) (sym moved));
        unaltered = told_alters (in_phase is_running) tt;
      }

  -- the newest frame alone is another
  pub frame_step : (F : Frame) (j : Inner) → WellKept i → j ≡ with_frame i F → due_effect i a due m k ≡ goes_on (F ∷ suspended i) n →
      Does capacity m i one_step (in_phase is_running) n j
  frame_step F j kept e f =
      subst (λ x. Does capacity m i one_step (in_phase is_running) n x) (sym e)
      (goes_on_to (with_frame i F) (frame_kept i kept F) due.running due.loaded f)

  -- a function is called
  pub call_step : (callee caller : Frame) (j : Inner) → WellKept i → length i.callers.items < caller_limit → j ≡ with_call i callee caller →
      due_effect i a due m k ≡ goes_on (callee ∷ (caller ∷ suspended i)) n → Does capacity m i one_step (in_phase is_running) n j
  call_step callee caller j kept few e f =
      subst (λ x. Does capacity m i one_step (in_phase is_running) n x) (sym e)
      (goes_on_to (with_call i callee caller) (call_kept i kept callee caller few) due.running due.loaded
      (f ∙ ap (λ fs. goes_on (callee ∷ fs) n) (sym (reverse-append i.callers.items (caller ∷ [])))))

  -- a caller is resumed
  pub return_step : (x : Slot) (j : Inner) → WellKept i → 0 < length i.callers.items → j ≡ with_return i x →
      due_effect i a due m k ≡ handed_back (suspended i) i.frame.awaiting x n → Does capacity m i one_step (in_phase is_running) n j
  return_step x j kept some e f =
      subst (λ y. Does capacity m i one_step (in_phase is_running) n y) (sym e)
      (goes_on_to (with_return i x) (return_kept i kept x) due.running due.loaded
      (f ∙ ap (λ fs. handed_back fs i.frame.awaiting x n) (newest_top no_frame i.callers.items some)))

  -- the run ends
  pub end_step : (x : Slot) (j : Inner) → WellKept i → i.callers.items ≡ [] → j ≡ with_result i x →
      due_effect i a due m k ≡ handed_back (suspended i) i.frame.awaiting x n → Does capacity m i one_step (in_phase is_done) n j
  end_step x j kept none e f =
      let over = done_moment (with_result i x) due.sheet refl due.loaded in
      subst (λ y. Does capacity m i one_step (in_phase is_done) n y) (sym e)
      (record {
        kept = result_kept i kept (is_there due.loaded) x;
        fits = subst (λ w. PriceFits w n) (sym over) tt;
        did =
            step_did (in_phase is_done) (moment (with_result i x))
            (ap (stepped (sheet_of due.sheet) (frame_stack i) m)
            (f ∙ ap (λ fs. handed_back (reverse fs) i.frame.awaiting x n) none) ∙
            ap (λ w. done (in_phase is_done) w n) (sym over));
        unaltered = told_alters (in_phase is_done) tt;
      })

-- a step that is refused alters nothing
pub refused_step : (capacity : ℕ) (m : Map) (i : Inner) (a : Action) (due : ComesTo i a) → Numbered m → WellKept i → PriceFits (moment i) m →
    ((k : ℕ) → due_effect i a due m k ≡ refused) → Does capacity m i one_step (refused_with too_deep) m i
refused_step capacity m i a due numbered kept fits f =
    record {
      kept = kept;
      fits = fits;
      did =
          step_did capacity m m i a due 65536 (beyond_all numbered) (refused_with too_deep) (moment i)
          (ap (stepped (sheet_of due.sheet) (frame_stack i) m) (f 65536) ∙
          ap (λ w. done (refused_with too_deep) w m) (sym (running_moment i due.sheet due.running due.loaded)));
      unaltered = same_unaltered m i (refused_with too_deep);
    }
