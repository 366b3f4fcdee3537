-- What a step that is due finds. Rests on what a step of a funded run finds on words.
use Rattle.std.proofs.Common.{◌≡◌, ℕ, ◌<◌, ◌≤◌, List, ◌∷◌, length, Some, ◌∙◌, subst, arith}
use Rattle.std.proofs.lemmas.List.{length-reverse}
use Rattle.records.specs.declared.kinds.Step.{Step as Action}
use Rattle.records.specs.declared.kinds.Step.TheVariants.{Call, Match}
use Rattle.cells.specs.Cells.{Map, Numbered, free}
use Rattle.rules.specs.Limits.{byte_limit, slot_count, parameter_limit}
use Rattle.rules.specs.Programs.{signature_of}
use Rattle.rules.specs.Branches.{Fields}
use Rattle.rules.specs.Reach.{StepStands}
use Rattle.plain.specs.Charges.{charge}
use Rattle.plain.specs.States.{Sheet, program_of, State}
use Rattle.sheet.specs.declared.passed.Sheet.{Sheet as LoadedSheet}
use Rattle.standing.specs.declared.frames.Frame.{Frame}
use Rattle.standing.specs.Moments.{running_with, Stands, run_stands, Sound, sound_running}
use Rattle.sheet.specs.Sheets.{bytes_of, sheet_tables}
use Rattle.sheet.proofs.Standing.{stands_inside}
use Rattle.sheet.proofs.Known.{sheet_lawful}
use Rattle.standing.specs.Stepping.{slot_in, slot_word}
use Rattle.standing.specs.Ready.{Ready, TakenApart}
use Rattle.standing.proofs.Needed.{a_step_finds_what_it_needs}
use Rattle.inner.specs.declared.kept.Inner.{Inner}
use Rattle.inner.specs.declared.kept.State.TheVariants.{Running}
use Rattle.inner.specs.Meant.{sheet_of, suspended}
use Rattle.inner.specs.Serving.{Serving, ComesTo}
use Rattle.inner.proofs.Moments.{running_moment}

from_run : {capacity : ℕ} {m : Map} {s : Sheet} {f : Frame} {fs : List Frame} {p : State} → Numbered m → Stands m (running_with s (f ∷ fs)) p → Sound capacity p → Ready s capacity m f fs
from_run {capacity} {m} {s} {f} {fs} numbered (run_stands {values = values} x) (sound_running spare lawful funded) =
    a_step_finds_what_it_needs s spare capacity m f fs values lawful numbered funded x

pub ready : (capacity : ℕ) (m : Map) (i : Inner) (s : LoadedSheet) → Numbered m → Serving capacity m i → i.state ≡ Running → i.sheet ≡ Some s →
    Ready (sheet_of s) capacity m i.frame (suspended i)
ready capacity m i s numbered v p q = from_run numbered (subst (λ w. Stands m w v.state) (running_moment i s p q) v.stands) v.sound

-- a step stands where the newest frame has come to
pub stands_due : (capacity : ℕ) (m : Map) (i : Inner) (s : LoadedSheet) → Numbered m → Serving capacity m i → i.state ≡ Running → i.sheet ≡ Some s →
    StepStands (bytes_of s) i.frame.next
stands_due capacity m i s numbered v p q = (ready capacity m i s numbered v p q).stands

-- all that the step a finds, in the words of the engine
pub record Finds (capacity : ℕ) (m : Map) (i : Inner) (s : LoadedSheet) (a : Action) : Type 0 where
  pub fields : Fields (program_of (sheet_of s)) a
  pub room : charge a ≤ free capacity m
  pub place : i.frame.next ≤ byte_limit
  pub awaited : 0 < length i.callers.items → i.frame.awaiting < slot_count
  pub node : (x h l second : ℕ) → a ≡ Match x h l second → (slot_word (slot_in i.frame.slots x) ≡ 0 → ⊥) →
      TakenApart (sheet_of s) m (slot_in i.frame.slots x)
  pub parameters : (d f : ℕ) (slots : List ℕ) → a ≡ Call d f slots → (signature_of (sheet_tables s).functions f).count ≤ parameter_limit

pub finds : (capacity : ℕ) (m : Map) (i : Inner) (a : Action) → Numbered m → Serving capacity m i → (due : ComesTo i a) → Finds capacity m i due.sheet a
finds capacity m i a numbered v due =
    let s = due.sheet in
    let r = ready capacity m i s numbered v due.running due.loaded in
    let same : r.action ≡ a = let p = r.fetched in let q = due.fetched in cc in
    let fields = subst (Fields (program_of (sheet_of s))) same r.fields in
    let inside = stands_inside (bytes_of s) i.frame.next r.stands in
    let short = (sheet_lawful s).form.short in
    let deep = length-reverse i.callers.items in
    record {
      fields = fields;
      room = subst (λ x. charge x ≤ free capacity m) same r.room;
      place = omega arith;
      awaited = λ h. r.awaited (omega arith);
      node = λ x h l second e. r.a_node x h l second (same ∙ e);
      parameters = λ d f slots e. ((sheet_lawful s).form.signed f (subst (Fields (program_of (sheet_of s))) e fields).1).few;
    }
