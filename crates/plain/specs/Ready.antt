-- What a step needs of the frames, by its kind, with no amounts; and that a step of a funded run has it. Rests on funded runs.
use Rattle.std.specs.Prelude.{◌≡◌, ℕ, ◌+◌, ◌-◌, ◌<◌, ◌≤◌, List, [], ◌∷◌, length, take, Some, None, Option, ◌≢◌}
use Rattle.records.specs.declared.kinds.Step.{Step as Action}
use Rattle.records.specs.declared.kinds.Step.TheVariants.{Const, Arith, Empty, Cons, Call, Return, Match, If}
use Rattle.records.specs.declared.kinds.Record.TheVariants.{Step}
use Rattle.rules.specs.Types.{Ty, type_of}
use Rattle.rules.specs.Programs.{Program, signature_of}
use Rattle.rules.specs.Branches.{Fields}
use Rattle.rules.specs.Rules.{parameters}
use Rattle.plain.specs.Values.{Value, num, empty, node, HasType}
use Rattle.plain.specs.Slots.{Slots, value_in, after_use, slots_nodes}
use Rattle.plain.specs.Reading.{Frame, frames_nodes}
use Rattle.plain.specs.States.{Sheet, program_of}
use Rattle.plain.specs.Charges.{charge}
use Rattle.plain.specs.Funded.{Funded}

-- nothing, or a number: what may be overwritten
pub data NotAList : Option Value → Type 0 where
  is_vacant : NotAList None
  is_number : {n : ℕ} → NotAList (Some (num n))

-- one of the slots, which may be bound
pub record Takes (S : Slots) (d : ℕ) : Type 0 where
  pub inside : d < length S
  pub clear : NotAList (value_in S d)

pub data IsList : Value → Type 0 where
  empty_list : IsList empty
  node_list : {h l : Value} → IsList (node h l)

-- these slots, used one after the other, have values of these types
pub data Operands : Slots → List ℕ → List Ty → Type 0 where
  no_operands : {S : Slots} → Operands S [] []
  one_operand : {S : Slots} {i : ℕ} {is : List ℕ} {t : Ty} {ts : List Ty} {v : Value} → value_in S i ≡ Some v → HasType t v →
      Operands (after_use S i) is ts → Operands S (i ∷ is) (t ∷ ts)

-- the frame beneath, if there is one, may take a result into slot w
pub data Awaited (w : ℕ) : List Frame → Type 0 where
  by_none : Awaited w []
  by_caller : {f : Frame} {fs : List Frame} → Takes f.slots w → Awaited w (f ∷ fs)

-- the step has what it needs in the slots S of the newest frame, whose result is awaited in slot w of the frames fs beneath
pub data Ready (p : Program) (S : Slots) (w : ℕ) (fs : List Frame) : Action → Type 0 where
  const_ready : {d n : ℕ} → Takes S d → Ready p S w fs (Const d n)
  arith_ready : {d op a b x y : ℕ} → value_in S a ≡ Some (num x) → value_in (after_use S a) b ≡ Some (num y) → Takes (after_use (after_use S a) b) d →
      Ready p S w fs (Arith d op a b)
  empty_ready : {d t : ℕ} → HasType (type_of p.types t) empty → Takes S d → Ready p S w fs (Empty d t)
  cons_ready : {d t h l : ℕ} {x y : Value} → value_in S h ≡ Some x → value_in (after_use S h) l ≡ Some y → HasType (type_of p.types t) (node x y) →
      Takes (after_use (after_use S h) l) d → Ready p S w fs (Cons d t h l)
  call_ready : {d f : ℕ} {slots : List ℕ} →
      Operands S (take (signature_of p.functions f).count slots) (parameters p.types (signature_of p.functions f)) → Ready p S w fs (Call d f slots)
  return_ready : {a : ℕ} {v : Value} → value_in S a ≡ Some v → slots_nodes (after_use S a) ≡ 0 → Awaited w fs → Ready p S w fs (Return a)
  match_ready : {a h l second : ℕ} {v : Value} → value_in S a ≡ Some v → IsList v → (h ≢ l) → Takes (after_use S a) h → Takes (after_use S a) l →
      Ready p S w fs (Match a h l second)
  if_ready : {a second n : ℕ} → value_in S a ≡ Some (num n) → Ready p S w fs (If a second)

-- the step that the newest frame has come to, what it needs, and the cells that it takes beside the spare ones
pub record Provided (s : Sheet) (spare capacity : ℕ) (f : Frame) (fs : List Frame) : Type 0 where
  pub action : Action
  pub stands : (program_of s).fetched f.next ≡ Some (Step action)
  pub fields : Fields (program_of s) action
  pub ready : Ready (program_of s) f.slots f.awaiting fs action
  pub room : spare + charge action ≤ capacity - frames_nodes (f ∷ fs)

abbrev pub EveryStepHasWhatItNeeds : Type 0
EveryStepHasWhatItNeeds =
    (s : Sheet) (spare capacity : ℕ) (f : Frame) (fs : List Frame) → Funded s spare capacity (f ∷ fs) → Provided s spare capacity f fs
