-- Where a body has a value and its calls have frames, a run finds it: one case for each kind of step.
use Rattle.std.proofs.Common.{ℕ, suc, ◌+◌, ◌≤◌, cond, leb, List, [], ◌∷◌, length, Option, refl, arith}
use borrow.Author.Tests.{lt-leb}
use Rattle.records.specs.declared.kinds.Record.{Record}
use Rattle.rules.specs.Programs.{Program}
use Rattle.plain.specs.Values.{Value}
use Rattle.plain.specs.Slots.{Slots}
use Rattle.plain.specs.Reading.{Frame, frame, frame_limit, Outcome, refused, handed_back, entered, act_at}
use Rattle.plain.specs.States.{program_of, main_function}
use Rattle.plain.specs.Bodies.{Body, Stands, const_stands, arith_stands, empty_stands, cons_stands, call_stands, return_stands, match_stands, if_stands, Bodies}
use Rattle.plain.specs.Evaluation.{Evaluates, by_const, by_arith, by_empty, by_cons, by_call, by_return, by_match_empty, by_match_node, by_if_zero, by_if_other}
use Rattle.plain.specs.Functional.{AValueIsFoundByARun}
use Rattle.plain.proofs.Bodies.{body_stands}
use Rattle.plain.proofs.Leading.{Leads, leads_end, leads_on, led_run, on_number, on_value, on_empty, on_node, on_values}

module _ (p : Program) where
  -- some number of steps leads to the end
  abbrev ComesTo : Outcome → Value → Type 0
  ComesTo o v = (n : ℕ) × Leads p n o v

  -- with a frame to spare, a Call is allowed
  on_allowed : {n : ℕ} {v : Value} (depth : ℕ) (fs : List Frame) (o : Outcome) → suc depth + suc (length fs) ≤ frame_limit → Leads p n o v →
      Leads p n (cond (leb frame_limit (length fs + 1)) refused o) v
  on_allowed {n} {v} depth fs o few l = rw (lt-leb frame_limit (length fs + 1) (omega arith)) l

  module _ {bodies : List Body} (stand : Bodies p p.functions bodies) {end : Value} where
    -- where handing back the value of a body leads to an end, the body's own frame leads there
    found : {depth o : ℕ} {x : Body} {S : Slots} {u : Value} {r : Option Record} (w : ℕ) (fs : List Frame) → Evaluates bodies depth x S u → Stands p o r x →
        depth + suc (length fs) ≤ frame_limit → ComesTo (handed_back fs w u) end → ComesTo (act_at p r (frame o S w) fs) end
    found w fs (by_const r) (const_stands x) few l = let k = found w fs r x few l in (suc k.0, leads_on k.1)
    found w fs (by_arith a b r) (arith_stands x) few l =
        let k = found w fs r x few l in (suc k.0, on_number p _ a (on_number p _ b (leads_on k.1)))
    found w fs (by_empty r) (empty_stands x) few l = let k = found w fs r x few l in (suc k.0, leads_on k.1)
    found w fs (by_cons a b r) (cons_stands x) few l =
        let k = found w fs r x few l in (suc k.0, on_value p _ a (on_value p _ b (leads_on k.1)))
    found w fs (by_call {depth = depth} {d = d} {f = f} {T = T} taken inner r) (call_stands {o = o} known x) few l =
        let rest = found w fs r x few l in
        let k = found d (frame (o + 7) T w ∷ fs) inner (body_stands p stand f known) (omega arith) (suc rest.0, leads_on rest.1) in
        (suc k.0, on_allowed depth fs _ few (on_values p _ taken (leads_on k.1)))
    found w fs (by_return a) return_stands few l = (l.0, on_value p _ a l.1)
    found w fs (by_match_empty a r) (match_stands x y) few l =
        let k = found w fs r x few l in (suc k.0, on_empty p _ _ a (leads_on k.1))
    found w fs (by_match_node a r) (match_stands x y) few l =
        let k = found w fs r y few l in (suc k.0, on_node p _ _ a (leads_on k.1))
    found w fs (by_if_zero a r) (if_stands x y) few l = let k = found w fs r y few l in (suc k.0, on_number p _ a (leads_on k.1))
    found w fs (by_if_other a r) (if_stands x y) few l = let k = found w fs r x few l in (suc k.0, on_number p _ a (leads_on k.1))

pub a_value_is_found_by_a_run : AValueIsFoundByARun
a_value_is_found_by_a_run s arguments v lawful x =
    let p = program_of s in
    let stands = body_stands p x.stand 0 lawful.form.some_function in
    let k = found p x.stand 0 [] x.answers stands (omega arith) (0, leads_end) in
    let run = led_run p k.1 (entered (main_function s) arguments 0 ∷ []) refl in
    record { steps = k.0; frames = run.0; makes = run.1; last = run.2 }
