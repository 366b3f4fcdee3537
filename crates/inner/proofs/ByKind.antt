-- What each kind of step does to what an engine keeps is what it does on words: a lemma for each kind. Rests on what a step does to
-- all that an engine keeps.
use Rattle.std.proofs.Common.{◌≡◌, ℕ, ◌+◌, ◌<◌, ◌≤◌, Bool, true, false, cond, eqb, leb, List, [], ◌∷◌, length, take, set, Some, sym, refl, ap, ◌∙◌, subst, arith, eqb-true, leb-false, leb-true}
use Rattle.std.proofs.lemmas.List.{length-reverse}
use borrow.Author.Tests.{eqb-false}
use Rattle.records.specs.declared.kinds.Step.{Step as Action}
use Rattle.records.specs.declared.kinds.Step.TheVariants.{Const, Arith, Empty, Cons, Call, Return, Match, If}
use Rattle.records.specs.Writing.{step_size}
use Rattle.cells.specs.Cells.{Map, Numbered, without}
use Rattle.plain.specs.Calls.{one_step, in_phase, is_running, refused_with, too_deep}
use Rattle.plain.specs.Reading.{unless_zero}
use Rattle.plain.specs.States.{program_of}
use Rattle.standing.specs.declared.frames.Slot.{Slot}
use Rattle.standing.specs.declared.frames.Slot.TheVariants.{Number, ListOf}
use Rattle.standing.specs.declared.frames.Frame.{Frame}
use Rattle.standing.specs.Stepping.{goes_on, refused, effect, slot_in, slot_word, slot_type, used_words, words_in, word_frame, left_behind}
use Rattle.inner.specs.declared.kept.Inner.{Inner}
use Rattle.inner.specs.Meant.{moment, sheet_of, suspended, WellKept, phase_of}
use Rattle.inner.specs.Changes.{with_frame, with_return, with_result}
use Rattle.inner.specs.Kinds.{onward, const_frame, arith_frame, empty_frame, if_frame, cons_frame, Consed, element_in, function_in, node_frame, matched_cells, matched_frame, callee_frame, caller_frame, called, handed_back}
use Rattle.inner.specs.Serving.{PriceFits, Does, ComesTo}
use Rattle.inner.proofs.Stepping.{beyond_all, due_effect, frame_step, call_step, return_step, end_step, refused_step}

none_there : {X : Type 0} (xs : List X) → length xs ≡ 0 → xs ≡ []
none_there [] e = refl
none_there (x ∷ xs) e = absurd (omega arith)

-- a choice under a step that goes on
chosen : (b : Bool) (A B : Frame) (fs : List Frame) (m n : Map) → cond b (goes_on (A ∷ fs) m) (goes_on (B ∷ fs) n) ≡ goes_on (cond b A B ∷ fs) (cond b m n)
chosen true A B fs m n = refl
chosen false A B fs m n = refl

module _ (capacity : ℕ) (m : Map) (i : Inner) (a : Action) (due : ComesTo i a) (numbered : Numbered m) (kept : WellKept i) where
  -- the step by its kind
  as_kind : (x : Action) (k : ℕ) → a ≡ x →
      due_effect i a due m k ≡
      effect (program_of (sheet_of due.sheet)) x i.frame.next i.frame.slots i.frame.awaiting (suspended i) m k
  as_kind x k is = ap (λ y. effect (program_of (sheet_of due.sheet)) y i.frame.next i.frame.slots i.frame.awaiting (suspended i) m k) is

  -- nothing but the newest frame is altered, and no cell
  frame_alone : (F : Frame) (j : Inner) → j ≡ with_frame i F → due_effect i a due m 65536 ≡ goes_on (F ∷ suspended i) m →
      Does capacity m i one_step (in_phase is_running) m j
  frame_alone F j e f = frame_step capacity m m i a due 65536 (beyond_all numbered) F j kept e f

  module _ (next : ℕ) (behind : next ≡ i.frame.next + step_size a) where
    -- a frame that goes on behind the step
    goes_behind : (x : Action) (S : List Slot) (n : Map) → a ≡ x →
        goes_on (word_frame (i.frame.next + step_size x) S i.frame.awaiting ∷ suspended i) n ≡ goes_on (onward i.frame next S ∷ suspended i) n
    goes_behind x S n is =
        ap (λ o. goes_on (word_frame o S i.frame.awaiting ∷ suspended i) n) (sym (behind ∙ ap (λ y. i.frame.next + step_size y) is))

    pub const_does : (d n : ℕ) (j : Inner) → a ≡ Const d n → j ≡ with_frame i (const_frame i.frame d n next) →
        Does capacity m i one_step (in_phase is_running) m j
    const_does d n j is e =
        frame_alone (const_frame i.frame d n next) j e
        (as_kind (Const d n) 65536 is ∙ goes_behind (Const d n) (set i.frame.slots d (Number n)) m is)

    pub arith_does : (d op x y : ℕ) (j : Inner) → a ≡ Arith d op x y → j ≡ with_frame i (arith_frame i.frame d op x y next) →
        Does capacity m i one_step (in_phase is_running) m j
    arith_does d op x y j is e =
        frame_alone (arith_frame i.frame d op x y next) j e
        (as_kind (Arith d op x y) 65536 is ∙ goes_behind (Arith d op x y) (arith_frame i.frame d op x y next).slots m is)

    pub empty_does : (d t : ℕ) (j : Inner) → a ≡ Empty d t → j ≡ with_frame i (empty_frame i.frame d t next) →
        Does capacity m i one_step (in_phase is_running) m j
    empty_does d t j is e =
        frame_alone (empty_frame i.frame d t next) j e
        (as_kind (Empty d t) 65536 is ∙ goes_behind (Empty d t) (set i.frame.slots d (ListOf 0 t)) m is)

    pub cons_does : (d t h l : ℕ) (n : Map) (j : Inner) → a ≡ Cons d t h l → Consed m i d t h l next n j →
        Does capacity m i one_step (in_phase is_running) n j
    cons_does d t h l n j is c =
        let F = cons_frame i.frame d t h l c.number next in
        frame_step capacity m n i a due c.number c.takeable F j kept c.inner
        (as_kind (Cons d t h l) c.number is ∙
        (goes_behind (Cons d t h l) F.slots _ is ∙ ap (λ x. goes_on (F ∷ suspended i) x) (sym c.cells)))

    pub call_does : (d f : ℕ) (slots : List ℕ) (j : Inner) → a ≡ Call d f slots → length i.callers.items < 63 → j ≡ called i (function_in i.sheet f) slots d next →
        Does capacity m i one_step (in_phase is_running) m j
    call_does d f slots j is few e =
        let g = function_in i.sheet f in
        let fs = suspended i in
        let deep = length-reverse i.callers.items in
        let room : leb 64 (length fs + 1) ≡ false = not_reached (length fs + 1) (omega arith) in
        let here = ap (λ o. function_in o f) due.loaded in
        call_step capacity m m i a due 65536 (beyond_all numbered) (callee_frame i.frame g slots d) (caller_frame i.frame g slots next) j kept few e
        (as_kind (Call d f slots) 65536 is ∙
        (ap (λ b.
        cond b refused
        (goes_on
        (callee_frame i.frame (function_in (Some due.sheet) f) slots d ∷
        (word_frame (i.frame.next + 7) (left_behind i.frame.slots (take (function_in (Some due.sheet) f).signature.count slots)) i.frame.awaiting ∷ fs)) m)) room ∙
        (ap (λ x. goes_on (callee_frame i.frame x slots d ∷ (word_frame (i.frame.next + 7) (left_behind i.frame.slots (take x.signature.count slots)) i.frame.awaiting ∷ fs)) m) (sym here) ∙
        ap (λ o. goes_on (callee_frame i.frame g slots d ∷ (word_frame o (left_behind i.frame.slots (take g.signature.count slots)) i.frame.awaiting ∷ fs)) m)
        (sym (behind ∙ ap (λ y. i.frame.next + step_size y) is)))))
      where
        not_reached : (n : ℕ) → n < 64 → leb 64 n ≡ false
        not_reached n h = elim_bool (leb 64 n) refl
          where
            elim_bool : (b : Bool) → leb 64 n ≡ b → leb 64 n ≡ false
            elim_bool true q = absurd (let r = leb-true 64 n q in omega arith)
            elim_bool false q = q

    pub match_does : (x h l second : ℕ) (n : Map) (j : Inner) → a ≡ Match x h l second → n ≡ matched_cells m i.frame x →
        j ≡ with_frame i (matched_frame m i.sheet i.frame x h l next second) → Does capacity m i one_step (in_phase is_running) n j
    match_does x h l second n j is cells e =
        let f = i.frame in
        let fs = suspended i in
        let word = slot_word (slot_in f.slots x) in
        let there = without m word in
        let A = onward f next (used_words f.slots x) in
        let B = node_frame f x h l second (element_in i.sheet (slot_type (slot_in f.slots x))) (words_in (m word)) in
        frame_step capacity m n i a due 65536 (beyond_all numbered) (matched_frame m i.sheet f x h l next second) j kept e
        (as_kind (Match x h l second) 65536 is ∙
        (ap (λ o.
        cond (eqb word 0) (goes_on (word_frame (f.next + 6) (used_words f.slots x) f.awaiting ∷ fs) m)
        (goes_on (node_frame f x h l second (element_in o (slot_type (slot_in f.slots x))) (words_in (m word)) ∷ fs) there)) (sym due.loaded) ∙
        (ap (λ E. cond (eqb word 0) E (goes_on (B ∷ fs) there)) (goes_behind (Match x h l second) (used_words f.slots x) m is) ∙
        (chosen (eqb word 0) A B fs m there ∙ ap (λ c. goes_on (matched_frame m i.sheet f x h l next second ∷ fs) c) (sym cells)))))

    pub if_does : (x second : ℕ) (j : Inner) → a ≡ If x second → j ≡ with_frame i (if_frame i.frame x next second) →
        Does capacity m i one_step (in_phase is_running) m j
    if_does x second j is e =
        let S = i.frame.slots in
        frame_alone (if_frame i.frame x next second) j e
        (as_kind (If x second) 65536 is ∙
        ap (λ o. goes_on (word_frame (unless_zero (slot_word (slot_in S x)) o second) (used_words S x) i.frame.awaiting ∷ suspended i) m)
        (sym (behind ∙ ap (λ y. i.frame.next + step_size y) is)))

  -- a Call with 64 frames
  pub deep_does : (d f : ℕ) (slots : List ℕ) → a ≡ Call d f slots → 63 ≤ length i.callers.items → PriceFits (moment i) m →
      Does capacity m i one_step (refused_with too_deep) m i
  deep_does d f slots is full fits =
      refused_step capacity m i a due numbered kept fits
      (λ k. as_kind (Call d f slots) k is ∙
      ap (λ b.
      cond b refused
      (goes_on
      (callee_frame i.frame (function_in (Some due.sheet) f) slots d ∷
      (word_frame (i.frame.next + 7) (left_behind i.frame.slots (take (function_in (Some due.sheet) f).signature.count slots)) i.frame.awaiting ∷ suspended i)) m))
      reached)
    where
      reached : leb 64 (length (suspended i) + 1) ≡ true
      reached = at_least (leb 64 (length (suspended i) + 1)) refl
        where
          at_least : (b : Bool) → leb 64 (length (suspended i) + 1) ≡ b → leb 64 (length (suspended i) + 1) ≡ true
          at_least true q = q
          at_least false q =
              absurd (let r = leb-false 64 (length (suspended i) + 1) q in let deep = length-reverse i.callers.items in omega arith)

  -- a Return to a caller, or from the last frame
  pub return_does : (x : ℕ) (j : Inner) → a ≡ Return x → j ≡ handed_back i (slot_in i.frame.slots x) →
      Does capacity m i one_step (in_phase (phase_of j.state)) m j
  return_does x j is e = by_depth (eqb (length i.callers.items) 0) refl
    where
      by_depth : (b : Bool) → eqb (length i.callers.items) 0 ≡ b → Does capacity m i one_step (in_phase (phase_of j.state)) m j
      by_depth true q =
          let over = e ∙ ap (λ b. cond b (with_result i (slot_in i.frame.slots x)) (with_return i (slot_in i.frame.slots x))) q in
          subst (λ s. Does capacity m i one_step (in_phase (phase_of s)) m j) (sym (ap (λ k. k.state) over))
          (end_step capacity m m i a due 65536 (beyond_all numbered) (slot_in i.frame.slots x) j kept (none_there i.callers.items (eqb-true (length i.callers.items) 0 q)) over (as_kind (Return x) 65536 is))
      by_depth false q =
          let back = e ∙ ap (λ b. cond b (with_result i (slot_in i.frame.slots x)) (with_return i (slot_in i.frame.slots x))) q in
          let some = eqb-false (length i.callers.items) 0 q in
          subst (λ s. Does capacity m i one_step (in_phase (phase_of s)) m j) (sym (ap (λ k. k.state) back ∙ due.running))
          (return_step capacity m m i a due 65536 (beyond_all numbered) (slot_in i.frame.slots x) j kept (omega arith) back (as_kind (Return x) 65536 is))
