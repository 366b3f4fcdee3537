-- Step and advance on words. Rests on the steps of a funded run.
use Rattle.std.proofs.Common.{◌≡◌, ℕ, ◌+◌, List, [], ◌∷◌, sym, refl, subst}
use Rattle.records.specs.declared.kinds.Step.{Step as Action}
use Rattle.cells.specs.Cells.{Map}
use Rattle.rules.specs.Lawful.{Lawful}
use Rattle.rules.proofs.Truth.{impossible}
use Rattle.plain.specs.Reading as reading
use Rattle.plain.specs.Values.{Value}
use Rattle.plain.specs.States as plain
use Rattle.plain.specs.Running as running
use Rattle.plain.specs.Funded.{Funded, Numbers}
use Rattle.plain.specs.Law.{Follows, stays_funded, has_ended, is_refused}
use Rattle.plain.proofs.Runs.{steps_keep_what_is_paid}
use Rattle.standing.specs.declared.frames.Slot.{Slot}
use Rattle.standing.specs.declared.frames.Frame.{Frame}
use Rattle.standing.specs.Stepping.{Effect, goes_on, ends, refused, step_on_words}
use Rattle.standing.specs.Standing.{RunStands, ResultStands, StandsFor, stands_on, stands_end, stands_refused}
use Rattle.standing.specs.Moments.{running_with, run_stands, done_stands, sound_running, sound_done}
use Rattle.standing.specs.Serving.{Done, stepped, one_step_on_words}
use Rattle.standing.specs.Law.{Takeable}
use Rattle.standing.specs.Calls.{Serves, Advances, asked_for, one_further, run_ends, too_deep}
use Rattle.standing.proofs.Steps.{steps_keep_standing}

module _ (capacity : ℕ) (s : plain.Sheet) (lawful : Lawful s.bytes s.tables) (spare : ℕ) where
  -- what a step of a funded run comes to: it stands, and it is sound
  data Comes (m : Map) (words : List Frame) (values : List reading.Frame) : Effect → reading.Outcome → Type 0 where
    comes_on : {after : Map} {ws : List Frame} {vs : List reading.Frame} → RunStands s.tables.types after ws vs → Funded s spare capacity vs →
        Comes m words values (goes_on ws after) (reading.goes_on vs)
    comes_to_end : {after : Map} {x : Slot} {v : Value} → ResultStands s.tables.types after x v → Numbers v → Comes m words values (ends x after) (reading.ends v)
    comes_to_refusal : Comes m words values refused reading.refused

  both_follow : {m : Map} {words : List Frame} {values : List reading.Frame} {a : Action} {f : reading.Frame} {fs : List reading.Frame} {x : Effect} {o : reading.Outcome} →
      StandsFor s.tables.types x o → Follows s spare capacity a f fs o → Comes m words values x o
  both_follow (stands_on r) (stays_funded deep pays same funded) = comes_on r funded
  both_follow (stands_end r) (has_ended deep e) = comes_to_end r e.numbers
  both_follow stands_refused (is_refused deep) = comes_to_refusal

  comes : (m : Map) (words : List Frame) (values : List reading.Frame) (k : ℕ) → Funded s spare capacity values → RunStands s.tables.types m words values → Takeable m k →
      Comes m words values (step_on_words (plain.program_of s) words m k) (reading.step (plain.program_of s) values)
  comes m words [] k funded stands takes = elim funded.pays [ ]
  comes m words (f ∷ fs) k funded stands takes =
      both_follow (steps_keep_standing s spare capacity m words (f ∷ fs) k lawful funded stands takes) (steps_keep_what_is_paid s spare capacity f fs lawful funded).follows

  stepped_serves : {m : Map} {words : List Frame} {values : List reading.Frame} {x : Effect} {o : reading.Outcome} → Funded s spare capacity values →
      RunStands s.tables.types m words values → Comes m words values x o → Serves capacity (stepped s words m x) (running.stepped s values o)
  stepped_serves funded stands (comes_on r next) = record { answers = refl; stands = run_stands r; sound = sound_running spare lawful next }
  stepped_serves funded stands (comes_to_end r numbers) = record { answers = refl; stands = done_stands r; sound = sound_done lawful numbers }
  stepped_serves funded stands comes_to_refusal = record { answers = refl; stands = run_stands stands; sound = sound_running spare lawful funded }

  pub step_serves : (m : Map) (words : List Frame) (values : List reading.Frame) (k : ℕ) → Funded s spare capacity values → RunStands s.tables.types m words values → Takeable m k →
      Serves capacity (one_step_on_words (running_with s words) m k) (running.step_from (plain.running_with s values))
  step_serves m words values k funded stands takes = stepped_serves funded stands (comes m words values k funded stands takes)

  -- the step that an advance makes, known by what it came to
  went_on : {m : Map} {words ws : List Frame} {values : List reading.Frame} {after : Map} {x : Effect} {o : reading.Outcome} → Comes m words values x o → x ≡ goes_on ws after →
      (vs : List reading.Frame) × (o ≡ reading.goes_on vs) × RunStands s.tables.types after ws vs × Funded s spare capacity vs
  went_on {ws = ws} {after = after} (comes_on {after = n} {ws = us} {vs = vs} r next) e =
      let a : us ≡ ws = cc in
      let b : n ≡ after = cc in
      (vs, refl, subst (λ y. RunStands s.tables.types y ws vs) b (subst (λ y. RunStands s.tables.types n y vs) a r), next)
  went_on (comes_to_end r listed) e = impossible (cc)
  went_on comes_to_refusal e = impossible (cc)

  ended : {m : Map} {words : List Frame} {values : List reading.Frame} {after : Map} {y : Slot} {x : Effect} {o : reading.Outcome} → Comes m words values x o → x ≡ ends y after →
      (v : Value) × (o ≡ reading.ends v) × ResultStands s.tables.types after y v × Numbers v
  ended (comes_on r next) e = impossible (cc)
  ended {after = after} {y = y} (comes_to_end {after = n} {x = z} {v = v} r numbers) e =
      let a : z ≡ y = cc in
      let b : n ≡ after = cc in
      (v, refl, subst (λ q. ResultStands s.tables.types q y v) b (subst (λ q. ResultStands s.tables.types n q v) a r), numbers)
  ended comes_to_refusal e = impossible (cc)

  was_refused : {m : Map} {words : List Frame} {values : List reading.Frame} {x : Effect} {o : reading.Outcome} → Comes m words values x o → x ≡ refused → o ≡ reading.refused
  was_refused (comes_on r next) e = impossible (cc)
  was_refused (comes_to_end r listed) e = impossible (cc)
  was_refused comes_to_refusal e = refl

  pub advance_serves : {n made : ℕ} {words : List Frame} {m : Map} {d : Done} (values : List reading.Frame) → Advances s n made words m d → Funded s spare capacity values →
      RunStands s.tables.types m words values → Serves capacity d (running.advance_by s n made values)
  advance_serves values asked_for funded stands = record { answers = refl; stands = run_stands stands; sound = sound_running spare lawful funded }
  advance_serves {made = made} {words = words} {m = m} {d = d} values (one_further {n} {k = k} takes e more) funded stands =
      let x = went_on (comes m words values k funded stands takes) e in
      subst (λ o. Serves capacity d (running.advance_stepped s made values o (λ gs. running.advance_by s n (made + 1) gs))) (sym x.1) (advance_serves x.0 more x.3 x.2)
  advance_serves {made = made} {words = words} {m = m} {d = d} values (run_ends {n} {k = k} {after = after} {x = y} takes e) funded stands =
      let x = ended (comes m words values k funded stands takes) e in
      subst (λ o. Serves capacity d (running.advance_stepped s made values o (λ gs. running.advance_by s n (made + 1) gs))) (sym x.1)
      (record { answers = refl; stands = done_stands x.2; sound = sound_done lawful x.3 })
  advance_serves {made = made} {words = words} {m = m} {d = d} values (too_deep {n} {k = k} takes e) funded stands =
      let x = was_refused (comes m words values k funded stands takes) e in
      subst (λ o. Serves capacity d (running.advance_stepped s made values o (λ gs. running.advance_by s n (made + 1) gs))) (sym x)
      (record { answers = refl; stands = run_stands stands; sound = sound_running spare lawful funded })
