-- The plain reading of a run: a stack of frames on values, and what one step does to it. It knows no types and no amounts.
-- Rests on slots, and on what stands at an offset of a sheet.
use Rattle.std.specs.Prelude.{ℕ, zero, suc, ◌+◌, ◌-◌, ◌*◌, ◌%◌, ◌^◌, cond, List, [], ◌∷◌, length, take, Some, None, Option, ◌==◌, nat_le, nat_lt, slice_index_or}
use Rattle.records.specs.declared.kinds.Step.{Step as Action}
use Rattle.records.specs.declared.kinds.Step.TheVariants.{Const, Arith, Empty, Cons, Call, Return, Match, If}
use Rattle.records.specs.declared.kinds.Record.{Record}
use Rattle.records.specs.declared.kinds.Record.TheVariants.{ListType, Function, Step}
use Rattle.records.specs.Writing.{step_size}
use Rattle.rules.specs.declared.functions.FunctionEntry.{FunctionEntry}
use Rattle.rules.specs.Programs.{Program, no_function}
use Rattle.plain.specs.Values.{Value, num, empty, node}
use Rattle.plain.specs.Slots.{Slots, value_in, after_use, put, starting_slots, slots_nodes}

-- A function that is under way: the offset of its next step, its slots, and the slot of its caller that awaits its result.
pub record Frame : Type 0 where
  pub next : ℕ
  pub slots : Slots
  pub awaiting : ℕ

abbrev pub frame : ℕ → Slots → ℕ → Frame
frame o S w = record { next = o; slots = S; awaiting = w }

-- the frames that a run has at most
abbrev pub frame_limit : ℕ
frame_limit = 64

-- the frames of all functions under way, the newest first: their nodes together
abbrev pub frames_nodes : List Frame → ℕ
frames_nodes [] = 0
frames_nodes (f ∷ fs) = slots_nodes f.slots + frames_nodes fs

-- What a step does: the run goes on with other frames, it ends with a value, or the step is refused. A step that lacks what it
-- needs is stuck; no step of a sheet that the check accepts is.
pub data Outcome : Type 0 where
  goes_on : List Frame → Outcome
  ends : Value → Outcome
  refused : Outcome
  stuck : Outcome

-- sum, difference and product modulo 2^32; 1 or 0 for less and for equal
abbrev pub computed : ℕ → ℕ → ℕ → ℕ
computed op a b =
    cond (op == 0) ((a + b) % 2 ^ 32)
    (cond (op == 1) ((a + 2 ^ 32 - b) % 2 ^ 32)
    (cond (op == 2) ((a * b) % 2 ^ 32)
    (cond (op == 3) (cond (nat_lt a b) 1 0) (cond (a == b) 1 0))))

-- how a step goes on with the number, the value or the list that it finds in a slot
abbrev pub with_number : Option Value → (ℕ → Outcome) → Outcome
with_number None k = stuck
with_number (Some (num n)) k = k n
with_number (Some empty) k = stuck
with_number (Some (node h l)) k = stuck

abbrev pub with_value : Option Value → (Value → Outcome) → Outcome
with_value None k = stuck
with_value (Some v) k = k v

abbrev pub with_list : Option Value → Outcome → (Value → Value → Outcome) → Outcome
with_list None z k = stuck
with_list (Some (num n)) z k = stuck
with_list (Some empty) z k = z
with_list (Some (node h l)) z k = k h l

-- the values of these slots, used one after the other, and the slots behind them
abbrev pub with_values : Slots → List ℕ → (List Value → Slots → Outcome) → Outcome
with_values S [] k = k [] S
with_values S (i ∷ is) k = with_value (value_in S i) (λ v. with_values (after_use S i) is (λ vs T. k (v ∷ vs) T))

-- a result goes into the slot that awaits it, or ends the run
abbrev pub handed_back : List Frame → ℕ → Value → Outcome
handed_back [] w v = ends v
handed_back (f ∷ fs) w v = goes_on (frame f.next (put f.slots w v) f.awaiting ∷ fs)

-- the first of two offsets unless the number is 0
abbrev pub unless_zero : ℕ → ℕ → ℕ → ℕ
unless_zero zero first second = second
unless_zero (suc n) first second = first

-- a function that starts on these arguments, its result awaited in slot d
abbrev pub entered : FunctionEntry → List Value → ℕ → Frame
entered g vs d = frame g.body (starting_slots vs) d

-- What the step s does that stands at the offset o, with the slots S of the newest frame, whose result is awaited in slot w, and
-- the frames fs beneath it.
abbrev pub act : Program → Action → ℕ → Slots → ℕ → List Frame → Outcome
act p (Const d n) o S w fs = goes_on (frame (o + step_size (Const d n)) (put S d (num n)) w ∷ fs)
act p (Arith d op a b) o S w fs =
    with_number (value_in S a)
    (λ x. with_number (value_in (after_use S a) b)
    (λ y. goes_on (frame (o + step_size (Arith d op a b)) (put (after_use (after_use S a) b) d (num (computed op x y))) w ∷ fs)))
act p (Empty d t) o S w fs = goes_on (frame (o + step_size (Empty d t)) (put S d empty) w ∷ fs)
act p (Cons d t h l) o S w fs =
    with_value (value_in S h)
    (λ x. with_value (value_in (after_use S h) l)
    (λ y. goes_on (frame (o + step_size (Cons d t h l)) (put (after_use (after_use S h) l) d (node x y)) w ∷ fs)))
act p (Call d f slots) o S w fs =
    cond (nat_le frame_limit (length fs + 1)) refused
    (with_values S (take (slice_index_or p.functions f no_function).signature.count slots)
    (λ vs T. goes_on (entered (slice_index_or p.functions f no_function) vs d ∷ frame (o + step_size (Call d f slots)) T w ∷ fs)))
act p (Return a) o S w fs = with_value (value_in S a) (λ v. handed_back fs w v)
act p (Match a h l second) o S w fs =
    with_list (value_in S a)
    (goes_on (frame (o + step_size (Match a h l second)) (after_use S a) w ∷ fs))
    (λ x y. goes_on (frame second (put (put (after_use S a) h x) l y) w ∷ fs))
act p (If a second) o S w fs =
    with_number (value_in S a) (λ n. goes_on (frame (unless_zero n (o + step_size (If a second)) second) (after_use S a) w ∷ fs))

-- what the record does that the newest frame has come to
abbrev pub act_at : Program → Option Record → Frame → List Frame → Outcome
act_at p None f fs = stuck
act_at p (Some (ListType x)) f fs = stuck
act_at p (Some (Function g)) f fs = stuck
act_at p (Some (Step s)) f fs = act p s f.next f.slots f.awaiting fs

-- One step of a run with these frames, the newest first.
abbrev pub step : Program → List Frame → Outcome
step p [] = stuck
step p (f ∷ fs) = act_at p (p.fetched f.next) f fs
