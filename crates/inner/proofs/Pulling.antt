-- That a pull does what it does on words, and finds its node. Rests on the moment of a result.
use Rattle.std.proofs.Common.{◌≡◌, ℕ, Bool, true, false, cond, eqb, [], is_some, Some, sym, refl, ap, ◌∙◌, subst, arith, eq-eqb, ne_eqb}
use Rattle.cells.specs.Cells.{Map}
use Rattle.plain.specs.Values.{Value}
use Rattle.plain.specs.Calls.{pull, pulled, at_end, excluded, refused_with}
use Rattle.plain.specs.States.{Sheet, State}
use Rattle.plain.specs.Funded.{Numbers, no_numbers, one_number}
use Rattle.sheet.specs.declared.passed.Sheet.{Sheet as LoadedSheet}
use Rattle.standing.specs.declared.frames.Slot.{Slot}
use Rattle.standing.specs.declared.frames.Slot.TheVariants.{ListOf}
use Rattle.standing.specs.Stepping.{slot_word, slot_type, words_in}
use Rattle.standing.specs.Located.{Located, value, word, Stored, stored_number, stored_none, stored_node}
use Rattle.standing.specs.Rows.{slot_words}
use Rattle.standing.specs.Moments.{done_with, open_with, Stands, done_stands, Sound, sound_done}
use Rattle.standing.specs.Serving.{done, pulled_node, pull_on_words}
use Rattle.standing.proofs.ForkSteps.{listed}
use Rattle.standing.proofs.Pulls.{numbers_typed}
use Rattle.inner.specs.declared.kept.Inner.{Inner}
use Rattle.inner.specs.declared.kept.State.{State as EngineState}
use Rattle.inner.specs.declared.kept.State.TheVariants.{Bare, Done}
use Rattle.inner.specs.Meant.{moment, sheet_of, WellKept}
use Rattle.inner.specs.Changes.{opened, with_result}
use Rattle.inner.proofs.Outcomes.{Pulls, PullEnds, ExcludedFrom}
use Rattle.inner.specs.Serving.{PriceFits, Serving, Does}
use Rattle.inner.proofs.Keeping.{result_kept, opened_kept}
use Rattle.inner.proofs.Moments.{open_moment, done_moment}
use Rattle.inner.proofs.Stepping.{told_alters, is_there}
use Rattle.inner.proofs.Excluded.{pull_excluded, loaded_sheet}
use Rattle.inner.proofs.Opening.{open_fits, same_does}

-- a list of Numbers whose word is not 0 has a node, which is stored and so held
held_of : {m : Map} {x : Located} {v : Value} → Stored m x → Numbers v → value x ≡ v → (word x ≡ 0 → ⊥) → is_some (m (word x)) ≡ true
held_of stored_number no_numbers e h = absurd (let z : ◌≡◌ {A = ℕ} 0 1 = cc in omega arith)
held_of stored_number (one_number ns) e h = absurd (let z : ◌≡◌ {A = ℕ} 0 1 = cc in omega arith)
held_of stored_none ns e h = absurd (h refl)
held_of (stored_node least at x y) ns e h = ap is_some at

held_result : {capacity : ℕ} {m : Map} {s : Sheet} {x : Slot} {p : State} → Stands m (done_with s x) p → Sound capacity p → (slot_word x ≡ 0 → ⊥) →
    is_some (m (slot_word x)) ≡ true
held_result {m = m} {x = x} (done_stands {v = v} r) (sound_done lawful numbers) h =
    let it = listed v r.kept r.as_value (numbers_typed numbers) in
    let its : slot_word x ≡ word it.located = ap slot_word (sym r.as_words) ∙ ap (λ y. slot_word (slot_words y)) it.is in
    ap (λ k. is_some (m k)) its ∙ held_of it.stored numbers it.is_value (λ q. h (its ∙ q))

not_bare : (a : EngineState) → a ≡ Done → a ≡ Bare → ⊥
not_bare a p q = let z : ◌≡◌ {A = ℕ} 0 1 = cc in omega arith

pub result_held : (capacity : ℕ) (m : Map) (i : Inner) → Serving capacity m i → i.state ≡ Done → (slot_word i.result ≡ 0 → ⊥) →
    is_some (m (slot_word i.result)) ≡ true
result_held capacity m i v p h =
    let l = loaded_sheet i v.kept (not_bare i.state p) in
    held_result (subst (λ w. Stands m w v.state) (done_moment i l.0 p l.1) v.stands) v.sound h

module _ (capacity : ℕ) (m : Map) (i : Inner) (kept : WellKept i) where
  -- a pull from a result, by whether its word is 0
  pull_at : (s : LoadedSheet) (b : Bool) → i.state ≡ Done → i.sheet ≡ Some s → eqb (slot_word i.result) 0 ≡ b →
      pull_on_words (moment i) m ≡
      cond b (done at_end (open_with (sheet_of s) []) m) (pulled_node (sheet_of s) i.result m (words_in (m (slot_word i.result))))
  pull_at s b p q e =
      ap (λ w. pull_on_words w m) (done_moment i s p q) ∙
      ap (λ c. cond c (done at_end (open_with (sheet_of s) []) m) (pulled_node (sheet_of s) i.result m (words_in (m (slot_word i.result))))) e

  pub pulls_does : (x : ℕ) (n : Map) (j : Inner) → Pulls m i x n j → Does capacity m i pull (pulled x) n j
  pulls_does x n j r =
      let l = loaded_sheet i kept (not_bare i.state r.is_done) in
      let s = l.0 in
      let w = words_in (m (slot_word i.result)) in
      let k = with_result i (ListOf w.tail (slot_type i.result)) in
      let over = done_moment k s refl l.1 in
      subst (λ y. Does capacity m i pull (pulled x) n y) (sym r.inner)
      (record {
        kept = result_kept i kept (is_there l.1) k.result;
        fits = subst (λ y. PriceFits y n) (sym over) tt;
        did =
            ap (λ y. done (pulled y) (moment k) n) r.number ∙
            (ap (λ y. done (pulled w.element) y n) over ∙
            (ap (λ c. done (pulled w.element) (done_with (sheet_of s) k.result) c) r.cells ∙
            sym (pull_at s false r.is_done l.1 (ne_eqb (slot_word i.result) 0 r.some_word))));
        unaltered = told_alters (pulled x) tt;
      })

  pub pull_ends_does : (n : Map) (j : Inner) → PullEnds m i n j → Does capacity m i pull at_end n j
  pull_ends_does n j r =
      let l = loaded_sheet i kept (not_bare i.state r.is_done) in
      let s = l.0 in
      subst (λ y. Does capacity m i pull at_end n y) (sym r.inner)
      (record {
        kept = opened_kept i kept (is_there l.1);
        fits = open_fits (opened i) s n refl l.1 refl;
        did =
            ap (λ y. done at_end y n) (open_moment (opened i) s refl l.1) ∙
            (ap (λ c. done at_end (open_with (sheet_of s) []) c) r.cells ∙
            sym (pull_at s true r.is_done l.1 (eq-eqb (slot_word i.result) 0 r.no_word)));
        unaltered = told_alters at_end tt;
      })

  pub pull_excluded_does : (n : Map) (j : Inner) → PriceFits (moment i) m → ExcludedFrom Done m i n j → Does capacity m i pull (refused_with excluded) n j
  pull_excluded_does n j fits x = same_does capacity m i kept fits pull (refused_with excluded) x.same (pull_excluded capacity m i kept fits x.other_state)
