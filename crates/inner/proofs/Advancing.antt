-- The steps of an advance, one after the other: what is left of it from here is what was left of it before a step. Rests on what an
-- advance does on words.
use Rattle.std.proofs.Common.{◌≡◌, ℕ, suc, ◌+◌, List, sym, refl, ap, ◌∙◌, subst, arith}
use Rattle.cells.specs.Cells.{Map}
use Rattle.plain.specs.Calls.{in_phase, is_running, is_done, is_bare, is_open, Phase, advanced, refused_with, Refusal, too_deep as is_too_deep, too_deep_after}
use Rattle.plain.specs.States.{Sheet, program_of}
use Rattle.standing.specs.declared.frames.Frame.{Frame}
use Rattle.standing.specs.Stepping.{Effect, goes_on, ends, refused, step_on_words}
use Rattle.standing.specs.Moments.{Moment, bare, open_with, running_with, done_with, phase}
use Rattle.standing.specs.Serving.{Done, done, stepped, one_step_on_words}
use Rattle.standing.specs.Law.{Takeable}
use Rattle.inner.specs.declared.kept.Inner.{Inner}
use Rattle.inner.specs.declared.kept.State.{State}
use Rattle.inner.specs.declared.kept.State.TheVariants.{Bare, Open, Running, Done as IsDone}
use Rattle.inner.specs.Meant.{moment, phase_of, WellKept}
use Rattle.inner.proofs.Moments.{running_moment}
use Rattle.inner.proofs.Excluded.{loaded_sheet, phase_kept, same_state}
use Rattle.standing.specs.Calls.{Advances, asked_for, one_further, run_ends, too_deep, AdvancesFrom, ForSomeNumber}

-- what is left of an advance at a moment: at most n steps more, with so many made
abbrev pub LeftOf : Moment → Map → ℕ → ℕ → Done → Type 0
LeftOf bare m n made d = ⊥
LeftOf (open_with s es) m n made d = ⊥
LeftOf (running_with s fs) m n made d = Advances s n made fs m d
LeftOf (done_with s x) m n made d = ⊥

-- a step that was made at a moment
abbrev pub StepsTo : Moment → Map → Done → Type 0
StepsTo w m d = ForSomeNumber m (λ k. one_step_on_words w m k) d

-- an advance that has not begun
pub not_begun : (w : Moment) (m : Map) (n : ℕ) (d : Done) → LeftOf w m n 0 d → AdvancesFrom w m n d
not_begun bare m n d x = absurd x
not_begun (open_with s es) m n d x = absurd x
not_begun (running_with s fs) m n d x = x
not_begun (done_with s y) m n d x = absurd x

-- by what a step did: the step that goes on, that ends the run, and that is refused
module _ {s : Sheet} {fs : List Frame} {m : Map} {k : ℕ} (takeable : Takeable m k) (n made : ℕ) where
  by_going : (e : Effect) (w : Moment) (c : Map) (d : Done) → step_on_words (program_of s) fs m k ≡ e → done (in_phase is_running) w c ≡ stepped s fs m e →
      LeftOf w c n (made + 1) d → Advances s (suc n) made fs m d
  by_going (goes_on gs after) w c d p q x =
      let to : w ≡ running_with s gs = ap (λ y. y.after) q in
      let with_cells : c ≡ after = ap (λ y. y.cells) q in
      one_further takeable p (subst (λ y. Advances s n (made + 1) gs y d) with_cells (subst (λ y. LeftOf y c n (made + 1) d) to x))
  by_going (ends y after) w c d p q x = let r = ap (λ z. z.answer) q in absurd (let z : ◌≡◌ {A = ℕ} 0 1 = cc in omega arith)
  by_going refused w c d p q x = let r = ap (λ z. z.answer) q in absurd (let z : ◌≡◌ {A = ℕ} 0 1 = cc in omega arith)

  by_ending : (e : Effect) (w : Moment) (c : Map) → step_on_words (program_of s) fs m k ≡ e → done (in_phase is_done) w c ≡ stepped s fs m e →
      Advances s (suc n) made fs m (done (advanced (made + 1) is_done) w c)
  by_ending (goes_on gs after) w c p q = let r = ap (λ z. z.answer) q in absurd (let z : ◌≡◌ {A = ℕ} 0 1 = cc in omega arith)
  by_ending (ends y after) w c p q =
      subst (λ z. Advances s (suc n) made fs m (done (advanced (made + 1) is_done) z.after z.cells)) (sym q) (run_ends takeable p)
  by_ending refused w c p q = let r = ap (λ z. z.answer) q in absurd (let z : ◌≡◌ {A = ℕ} 0 1 = cc in omega arith)

  by_refusal : (e : Effect) (f : Refusal) (w : Moment) (c : Map) → step_on_words (program_of s) fs m k ≡ e → done (refused_with f) w c ≡ stepped s fs m e →
      Advances s (suc n) made fs m (done (refused_with (too_deep_after made)) w c)
  by_refusal (goes_on gs after) f w c p q = let r = ap (λ z. z.answer) q in absurd (let z : ◌≡◌ {A = ℕ} 0 1 = cc in omega arith)
  by_refusal (ends y after) f w c p q = let r = ap (λ z. z.answer) q in absurd (let z : ◌≡◌ {A = ℕ} 0 1 = cc in omega arith)
  by_refusal refused f w c p q =
      subst (λ z. Advances s (suc n) made fs m (done (refused_with (too_deep_after made)) z.after z.cells)) (sym q) (too_deep takeable p)

-- the run is on at this moment
pub data IsOn : Moment → Type 0 where
  is_on : {s : Sheet} {fs : List Frame} → IsOn (running_with s fs)

pub one_step_further : {w : Moment} (m : Map) (n made : ℕ) (v : Moment) (c : Map) (d : Done) → IsOn w → StepsTo w m (done (in_phase is_running) v c) →
    LeftOf v c n (made + 1) d → LeftOf w m (suc n) made d
one_step_further m n made v c d (is_on {s} {fs}) x left = by_going {s = s} {fs = fs} {m = m} {k = x.number} x.takeable n made _ v c d refl x.is left

pub last_step : {w : Moment} (m : Map) (n made : ℕ) (v : Moment) (c : Map) → IsOn w → StepsTo w m (done (in_phase is_done) v c) →
    LeftOf w m (suc n) made (done (advanced (made + 1) is_done) v c)
last_step m n made v c (is_on {s} {fs}) x = by_ending {s = s} {fs = fs} {m = m} {k = x.number} x.takeable n made _ v c refl x.is

pub refused_further : {w : Moment} (m : Map) (n made : ℕ) (f : Refusal) (v : Moment) (c : Map) → IsOn w → StepsTo w m (done (refused_with f) v c) →
    LeftOf w m (suc n) made (done (refused_with (too_deep_after made)) v c)
refused_further m n made f v c (is_on {s} {fs}) x = by_refusal {s = s} {fs = fs} {m = m} {k = x.number} x.takeable n made _ f v c refl x.is

-- as many steps as were asked for
pub no_more : {w : Moment} (m : Map) (made : ℕ) → IsOn w → LeftOf w m 0 made (done (advanced made is_running) w m)
no_more m made is_on = asked_for

-- a step while a run is on answers that it is still on or done
pub answers_by : {w : Moment} (m : Map) (p : Phase) (v : Moment) (c : Map) → IsOn w → StepsTo w m (done (in_phase p) v c) → (p ≡ is_bare → ⊥) × (p ≡ is_open → ⊥)
answers_by m p v c (is_on {s} {fs}) x = by (step_on_words (program_of s) fs m x.number) x.is
  where
    by : (e : Effect) → done (in_phase p) v c ≡ stepped s fs m e → (p ≡ is_bare → ⊥) × (p ≡ is_open → ⊥)
    by (goes_on gs after) q =
        let r = ap (λ z. z.answer) q in
        (λ t. let z : ◌≡◌ {A = ℕ} 0 1 = cc in omega arith, λ t. let z : ◌≡◌ {A = ℕ} 0 1 = cc in omega arith)
    by (ends y after) q =
        let r = ap (λ z. z.answer) q in
        (λ t. let z : ◌≡◌ {A = ℕ} 0 1 = cc in omega arith, λ t. let z : ◌≡◌ {A = ℕ} 0 1 = cc in omega arith)
    by refused q =
        let r = ap (λ z. z.answer) q in
        (λ t. let z : ◌≡◌ {A = ℕ} 0 1 = cc in omega arith, λ t. let z : ◌≡◌ {A = ℕ} 0 1 = cc in omega arith)

-- so its state, if it is not done, is that it is on
pub still_running : (a : State) → (phase_of a ≡ is_bare → ⊥) × (phase_of a ≡ is_open → ⊥) → (a ≡ IsDone → ⊥) → a ≡ Running
still_running Bare h over = absurd (h.0 refl)
still_running Open h over = absurd (h.1 refl)
still_running Running h over = refl
still_running IsDone h over = absurd (over refl)

-- and is refused for depth alone
pub refused_for_depth : {w : Moment} (m : Map) (x : Refusal) (v : Moment) (c : Map) → IsOn w → StepsTo w m (done (refused_with x) v c) → x ≡ is_too_deep
refused_for_depth m x v c (is_on {s} {fs}) y = by (step_on_words (program_of s) fs m y.number) y.is
  where
    by : (e : Effect) → done (refused_with x) v c ≡ stepped s fs m e → x ≡ is_too_deep
    by (goes_on gs after) q = let r = ap (λ z. z.answer) q in absurd (let z : ◌≡◌ {A = ℕ} 0 1 = cc in omega arith)
    by (ends z after) q = let r = ap (λ u. u.answer) q in absurd (let t : ◌≡◌ {A = ℕ} 0 1 = cc in omega arith)
    by refused q = let r = ap (λ z. z.answer) q in cc

running_not_bare : (a : State) → a ≡ Running → a ≡ Bare → ⊥
running_not_bare a p q = let z : ◌≡◌ {A = ℕ} 0 1 = cc in omega arith

pub run_is_on : (i : Inner) → WellKept i → i.state ≡ Running → IsOn (moment i)
run_is_on i kept p =
    let l = loaded_sheet i kept (running_not_bare i.state p) in
    subst IsOn (sym (running_moment i l.0 p l.1)) is_on

-- the phase behind a step is what it answers
pub phase_behind : {w : Moment} (m : Map) (p : Phase) (v : Moment) (c : Map) → IsOn w → StepsTo w m (done (in_phase p) v c) → phase v ≡ p
phase_behind m p v c (is_on {s} {fs}) x = by (step_on_words (program_of s) fs m x.number) x.is
  where
    by : (e : Effect) → done (in_phase p) v c ≡ stepped s fs m e → phase v ≡ p
    by (goes_on gs after) q = let r = ap (λ z. z.answer) q in let t = ap (λ z. phase z.after) q in cc
    by (ends z after) q = let r = ap (λ u. u.answer) q in let t = ap (λ u. phase u.after) q in cc
    by refused q = let r = ap (λ z. z.answer) q in absurd (let t : ◌≡◌ {A = ℕ} 0 1 = cc in omega arith)

-- so the state behind a step is what it answers
pub state_behind_step : (m : Map) (i j : Inner) (a : State) (c : Map) → WellKept i → WellKept j → i.state ≡ Running →
    StepsTo (moment i) m (done (in_phase (phase_of a)) (moment j) c) → j.state ≡ a
state_behind_step m i j a c before after on x =
    same_state j.state a (sym (phase_kept j after) ∙ phase_behind m (phase_of a) (moment j) c (run_is_on i before on) x)
