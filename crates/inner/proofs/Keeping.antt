-- An engine stays well kept behind each change of a part. Rests on changes of what an engine keeps.
use Rattle.std.proofs.Common.{◌≡◌, ◌-◌, ◌<◌, true, [], ◌∷◌, length, is_some, refl, ap, arith}
use Rattle.std.proofs.lemmas.List.{length-append, length-take}
use Rattle.sheet.specs.declared.passed.Sheet.{Sheet as LoadedSheet}
use Rattle.standing.specs.declared.frames.Frame.{Frame}
use Rattle.standing.specs.declared.frames.Slot.{Slot}
use Rattle.inner.specs.declared.kept.Inner.{Inner}
use Rattle.inner.specs.Meant.{WellKept, Loaded, caller_limit}
use Rattle.inner.specs.Changes.{with_frame, with_call, with_return, with_result, opened, opened_with, started}

-- nothing is entered and no caller is suspended
pub new_kept : (i : Inner) → i.inputs.items ≡ [] → i.callers.items ≡ [] → Loaded i.state i.sheet → WellKept i
new_kept i no_input no_caller there =
    let inputs = ap length no_input in
    let callers = ap length no_caller in
    record { few_inputs = omega arith; few_callers = omega arith; loaded = there }

module _ (i : Inner) (kept : WellKept i) where
  pub frame_kept : (F : Frame) → WellKept (with_frame i F)
  frame_kept F = record { few_inputs = kept.few_inputs; few_callers = kept.few_callers; loaded = kept.loaded }

  -- one caller more, where there was room for it
  pub call_kept : (callee caller : Frame) → length i.callers.items < caller_limit → WellKept (with_call i callee caller)
  call_kept callee caller few =
      let more = length-append i.callers.items (caller ∷ []) in
      record { few_inputs = kept.few_inputs; few_callers = omega arith; loaded = kept.loaded }

  -- one caller less
  pub return_kept : (x : Slot) → WellKept (with_return i x)
  return_kept x =
      let few = kept.few_callers in
      let less = length-take (length i.callers.items - 1) i.callers.items in
      record { few_inputs = kept.few_inputs; few_callers = omega arith; loaded = kept.loaded }

  -- where a sheet is there, the state may be another
  module _ (there : is_some i.sheet ≡ true) where
    pub result_kept : (x : Slot) → WellKept (with_result i x)
    result_kept x = record { few_inputs = kept.few_inputs; few_callers = kept.few_callers; loaded = there }

    pub opened_kept : WellKept (opened i)
    opened_kept = record { few_inputs = omega arith; few_callers = kept.few_callers; loaded = there }

    pub started_kept : (F : Frame) → WellKept (started i F)
    started_kept F = record { few_inputs = kept.few_inputs; few_callers = omega arith; loaded = there }

  pub opened_with_kept : (s : LoadedSheet) → WellKept (opened_with i s)
  opened_with_kept s = record { few_inputs = omega arith; few_callers = kept.few_callers; loaded = refl }
