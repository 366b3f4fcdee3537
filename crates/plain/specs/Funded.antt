-- Runs that are paid for by the free cells, and what they leave when they end. Rests on what is paid, and on the states.
use Rattle.std.specs.Prelude.{◌≡◌, ℕ, zero, suc, ◌+◌, ◌-◌, ◌≤◌, List, [], ◌∷◌}
use Rattle.records.specs.declared.kinds.NodeType.{NodeType}
use Rattle.records.specs.declared.kinds.Step.{Step as Action}
use Rattle.records.specs.declared.kinds.Step.TheVariants.{Call}
use Rattle.rules.specs.Types.{Ty, type_of}
use Rattle.rules.specs.Programs.{Program}
use Rattle.plain.specs.Values.{Value, num, empty, node, nodes, potential, HasType}
use Rattle.plain.specs.Reading.{Frame, frame_limit, frames_nodes, goes_on, step}
use Rattle.plain.specs.States.{Sheet, program_of, main_function, Entry}
use Rattle.plain.specs.Paid.{Paid}

-- a list of Numbers
pub data Numbers : Value → Type 0 where
  no_numbers : Numbers empty
  one_number : {n : ℕ} {l : Value} → Numbers l → Numbers (node (num n) l)

-- every entry has the type with its number
pub data EntriesTyped (ts : List NodeType) : List Entry → Type 0 where
  no_entries : EntriesTyped ts []
  one_entry : {e : Entry} {es : List Entry} → HasType (type_of ts e.type_number) e.value → EntriesTyped ts es → EntriesTyped ts (e ∷ es)

pub data IsCall : Action → Type 0 where
  is_call : {d f : ℕ} {slots : List ℕ} → IsCall (Call d f slots)

-- a Call with 64 frames
pub record TooDeep (a : Action) (depth : ℕ) : Type 0 where
  pub call : IsCall a
  pub full : depth ≡ frame_limit

-- so many steps lead from these frames to those
pub data Makes (p : Program) : ℕ → List Frame → List Frame → Type 0 where
  makes_none : {fs : List Frame} → Makes p zero fs fs
  makes_one : {n : ℕ} {fs gs hs : List Frame} → step p fs ≡ goes_on gs → Makes p n gs hs → Makes p (suc n) fs hs

-- the type that function 0 answers, and its remainder
abbrev pub result_type : Sheet → Ty
result_type s = type_of s.tables.types (main_function s).signature.result

abbrev pub result_remainder : Sheet → ℕ
result_remainder s = (main_function s).signature.remainder

-- With so many cells spare, the frames fit the capacity, and the cells that are free pay for the run.
pub record Funded (s : Sheet) (spare capacity : ℕ) (fs : List Frame) : Type 0 where
  pub within : frames_nodes fs ≤ capacity
  pub pays : Paid (program_of s) (result_type s) (result_remainder s) spare (capacity - frames_nodes fs) fs

-- What the end of a run leaves: a list of Numbers, and beside the spare cells those that it brings along and the remainder free.
pub record Ended (s : Sheet) (spare capacity : ℕ) (v : Value) : Type 0 where
  pub numbers : Numbers v
  pub typed : HasType (result_type s) v
  pub within : nodes v ≤ capacity
  pub leaves : spare + potential (result_type s) v + result_remainder s ≤ capacity - nodes v
