-- Funded runs: each step keeps them funded, and so does any number of steps.
use Rattle.std.proofs.Common.{◌≡◌, ℕ, suc, ◌-◌, ◌≤◌, List, [], ◌∷◌, length, subst, arith}
use Rattle.records.specs.declared.kinds.Step.{Step as Action}
use Rattle.rules.specs.Types.{number, list}
use Rattle.rules.specs.Lawful.{Lawful}
use Rattle.rules.proofs.Truth.{impossible}
use Rattle.plain.specs.Values.{Value, HasType, is_num, is_empty, is_node}
use Rattle.plain.specs.Reading.{Frame, frames_nodes, Outcome, goes_on, step}
use Rattle.plain.specs.States.{Sheet, program_of}
use Rattle.plain.specs.Charges.{purse_after}
use Rattle.plain.specs.Paid.{Paid}
use Rattle.plain.specs.Funded.{Numbers, no_numbers, one_number, Makes, makes_none, makes_one, result_type, result_remainder, Funded}
use Rattle.plain.specs.Law.{Follows, stays_funded, has_ended, is_refused, StepsKeepWhatIsPaid}
use Rattle.plain.proofs.Outcomes.{Good, good_on, good_end, good_refused}
use Rattle.plain.proofs.Steps.{paid_goes}
use Rattle.plain.proofs.Callable.{all_callable}

pub are_numbers : {a : ℕ} {v : Value} → HasType (list number a) v → Numbers v
are_numbers is_empty = no_numbers
are_numbers (is_node is_num l) = one_number (are_numbers l)

-- what is free is the purse
follow : (s : Sheet) (spare capacity amount : ℕ) (f : Frame) (fs : List Frame) {a : Action} {o : Outcome} → result_type s ≡ list number amount →
    frames_nodes (f ∷ fs) ≤ capacity →
    Good (program_of s) (result_type s) (result_remainder s) spare (capacity - frames_nodes (f ∷ fs)) a f.slots (suc (length fs)) (frames_nodes (f ∷ fs)) o →
    Follows s spare capacity a f fs o
follow s spare capacity amount f fs {a} is within (good_on {gs} deep pays next same) =
    let left : purse_after a f.slots (capacity - frames_nodes (f ∷ fs)) ≡ capacity - frames_nodes gs = omega arith in
    stays_funded deep pays same
    (record {
      within = omega arith;
      pays = subst (λ x. Paid (program_of s) (result_type s) (result_remainder s) spare x gs) left next;
    })
follow s spare capacity amount f fs is within (good_end {v} deep h pays enough same) =
    has_ended deep
    (record { numbers = are_numbers (subst (λ t. HasType t v) is h); typed = h; within = omega arith; leaves = omega arith })
follow s spare capacity amount f fs is within (good_refused deep) = is_refused deep

pub steps_keep_what_is_paid : StepsKeepWhatIsPaid
steps_keep_what_is_paid s spare capacity f fs lawful funded =
    let x = paid_goes (program_of s) (result_type s) (result_remainder s) spare (capacity - frames_nodes (f ∷ fs)) (all_callable lawful) funded.pays in
    record {
      action = x.action;
      stands = x.stands;
      fields = x.fields;
      follows = follow s spare capacity lawful.form.amount f fs lawful.form.result funded.within x.well;
    }

follows_on : {s : Sheet} {spare capacity : ℕ} {a : Action} {f : Frame} {fs gs : List Frame} {o : Outcome} → Follows s spare capacity a f fs o → o ≡ goes_on gs →
    Funded s spare capacity gs
follows_on {s} {spare} {capacity} {gs = gs} (stays_funded {gs = hs} deep pays same next) e =
    let k : hs ≡ gs = cc in subst (λ x. Funded s spare capacity x) k next
follows_on (has_ended deep end) e = impossible (cc)
follows_on (is_refused deep) e = impossible (cc)

-- a funded run has frames, and one step more is funded too
pub step_funded : {s : Sheet} {spare capacity : ℕ} {gs : List Frame} (fs : List Frame) → Lawful s.bytes s.tables → Funded s spare capacity fs →
    step (program_of s) fs ≡ goes_on gs → Funded s spare capacity gs
step_funded [] lawful funded e = impossible (cc)
step_funded {s} {spare} {capacity} (f ∷ fs) lawful funded e = follows_on (steps_keep_what_is_paid s spare capacity f fs lawful funded).follows e

pub makes_funded : {s : Sheet} {spare capacity n : ℕ} {fs gs : List Frame} → Lawful s.bytes s.tables → Makes (program_of s) n fs gs →
    Funded s spare capacity fs → Funded s spare capacity gs
makes_funded lawful makes_none funded = funded
makes_funded lawful (makes_one {fs = fs} e run) funded = makes_funded lawful run (step_funded fs lawful funded e)
