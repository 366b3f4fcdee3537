-- Step and advance on a funded run, by the law of amounts.
use Rattle.std.proofs.Common.{◌≡◌, ℕ, zero, suc, ◌+◌, ◌<◌, List, [], ◌∷◌, length, Some, refl, subst, arith}
use Rattle.records.specs.declared.kinds.Step.{Step as Action}
use Rattle.records.specs.declared.kinds.Record.TheVariants.{Step}
use Rattle.rules.specs.Lawful.{Lawful}
use Rattle.plain.specs.Values.{Value}
use Rattle.plain.specs.Reading.{Frame, Outcome, goes_on, ends, step}
use Rattle.plain.specs.Calls.{is_running, is_done, too_deep_after, advanced, refused_with}
use Rattle.plain.specs.States.{Sheet, program_of, running_with, done_with, Served, served}
use Rattle.plain.specs.Running.{stepped, advance_stepped, advance_by}
use Rattle.plain.specs.Funded.{TooDeep, Makes, makes_none, makes_one, Funded, Ended}
use Rattle.plain.specs.Law.{Follows, stays_funded, has_ended, is_refused}
use Rattle.plain.specs.Advancing.{StopsAt, stops_at, Steps, steps_on, steps_to_end, step_refused, Advances, makes_all, ends_after, stops_after, OnlyDepthStopsARun}
use Rattle.plain.proofs.Runs.{steps_keep_what_is_paid}

not_stopping : {s : Sheet} {a : Action} {f : Frame} {fs : List Frame} → (program_of s).fetched f.next ≡ Some (Step a) → (TooDeep a (length (f ∷ fs)) → ⊥) →
    StopsAt s (f ∷ fs) → ⊥
not_stopping {a = a} {fs = fs} at shallow (stops_at {a = b} here deep) =
    let same : b ≡ a = cc in shallow (subst (λ x. TooDeep x (suc (length fs))) same deep)

module _ (s : Sheet) (spare capacity : ℕ) (lawful : Lawful s.bytes s.tables) where
  by_step : {a : Action} {f : Frame} {fs : List Frame} (o : Outcome) → step (program_of s) (f ∷ fs) ≡ o → (program_of s).fetched f.next ≡ Some (Step a) →
      Follows s spare capacity a f fs o → Steps s spare capacity (f ∷ fs) (stepped s (f ∷ fs) o)
  by_step o e at (stays_funded shallow pays same funded) = steps_on (not_stopping at shallow) e funded
  by_step o e at (has_ended shallow ended) = steps_to_end (not_stopping at shallow) e ended
  by_step o e at (is_refused deep) = step_refused (stops_at at deep)

  pub steps : (fs : List Frame) → Funded s spare capacity fs → Steps s spare capacity fs (stepped s fs (step (program_of s) fs))
  steps [] funded = elim funded.pays [ ]
  steps (f ∷ fs) funded =
      let x = steps_keep_what_is_paid s spare capacity f fs lawful funded in by_step (step (program_of s) (f ∷ fs)) refl x.stands x.follows

  -- an advance that has made some steps, by how many it has then made in all
  data Further (made n : ℕ) (fs : List Frame) : Served → Type 0 where
    further_all : {m : ℕ} {gs : List Frame} → Makes (program_of s) n fs gs → Funded s spare capacity gs → made + n ≡ m →
        Further made n fs (served (advanced m is_running) (running_with s gs))
    further_end : {k m : ℕ} {gs : List Frame} {v : Value} → k < n → Makes (program_of s) k fs gs → step (program_of s) gs ≡ ends v →
        Ended s spare capacity v → made + k + 1 ≡ m → Further made n fs (served (advanced m is_done) (done_with s v))
    further_stop : {k m : ℕ} {gs : List Frame} → k < n → Makes (program_of s) k fs gs → Funded s spare capacity gs → StopsAt s gs → made + k ≡ m →
        Further made n fs (served (refused_with (too_deep_after m)) (running_with s gs))

  one_further : {made n : ℕ} {fs gs : List Frame} {x : Served} → step (program_of s) fs ≡ goes_on gs → Further (made + 1) n gs x → Further made (suc n) fs x
  one_further e (further_all run funded count) = further_all (makes_one e run) funded (omega arith)
  one_further e (further_end less run end ended count) = further_end (omega arith) (makes_one e run) end ended (omega arith)
  one_further e (further_stop less run funded stop count) = further_stop (omega arith) (makes_one e run) funded stop (omega arith)

  advance_on : {a : Action} {f : Frame} {fs : List Frame} (made n : ℕ) (onward : List Frame → Served) (o : Outcome) → step (program_of s) (f ∷ fs) ≡ o →
      (program_of s).fetched f.next ≡ Some (Step a) → Funded s spare capacity (f ∷ fs) → Follows s spare capacity a f fs o →
      ((gs : List Frame) → Funded s spare capacity gs → Further (made + 1) n gs (onward gs)) →
      Further made (suc n) (f ∷ fs) (advance_stepped s made (f ∷ fs) o onward)
  advance_on made n onward o e at before (stays_funded {gs = gs} shallow pays same funded) then = one_further e (then gs funded)
  advance_on made n onward o e at before (has_ended shallow ended) then = further_end {k = 0} (omega arith) makes_none e ended (omega arith)
  advance_on made n onward o e at before (is_refused deep) then = further_stop {k = 0} (omega arith) makes_none before (stops_at at deep) (omega arith)

  advances_from : (n made : ℕ) (fs : List Frame) → Funded s spare capacity fs → Further made n fs (advance_by s n made fs)
  advances_from zero made fs funded = further_all makes_none funded (omega arith)
  advances_from (suc n) made [] funded = elim funded.pays [ ]
  advances_from (suc n) made (f ∷ fs) funded =
      let x = steps_keep_what_is_paid s spare capacity f fs lawful funded in
      advance_on made n (λ gs. advance_by s n (made + 1) gs) (step (program_of s) (f ∷ fs)) refl x.stands funded x.follows
      (λ gs next. advances_from n (made + 1) gs next)

  from_none : {n : ℕ} {fs : List Frame} {x : Served} → Further 0 n fs x → Advances s spare capacity n fs x
  from_none {n} {fs} (further_all {m = m} {gs = gs} run funded count) =
      let same : n ≡ m = omega arith in
      subst (λ k. Advances s spare capacity n fs (served (advanced k is_running) (running_with s gs))) same (makes_all run funded)
  from_none {n} {fs} (further_end {k = k} {m = m} {v = v} less run end ended count) =
      let same : k + 1 ≡ m = omega arith in
      subst (λ i. Advances s spare capacity n fs (served (advanced i is_done) (done_with s v))) same (ends_after less run end ended)
  from_none {n} {fs} (further_stop {k = k} {m = m} {gs = gs} less run funded stop count) =
      let same : k ≡ m = omega arith in
      subst (λ i. Advances s spare capacity n fs (served (refused_with (too_deep_after i)) (running_with s gs))) same (stops_after less run funded stop)

  pub advances : (n : ℕ) (fs : List Frame) → Funded s spare capacity fs → Advances s spare capacity n fs (advance_by s n 0 fs)
  advances n fs funded = from_none (advances_from n 0 fs funded)

pub only_depth_stops_a_run : OnlyDepthStopsARun
only_depth_stops_a_run s spare capacity fs lawful funded = (steps s spare capacity lawful fs funded, λ n. advances s spare capacity lawful n fs funded)
