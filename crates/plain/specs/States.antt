-- The states of the plain service, the nodes of its live values, and what is free. Rests on frames.
use Rattle.std.specs.Prelude.{ℕ, ◌+◌, ◌-◌, List, [], ◌∷◌, slice_index_or}
use Rattle.records.specs.declared.kinds.NodeType.{NodeType}
use Rattle.rules.specs.declared.functions.FunctionEntry.{FunctionEntry}
use Rattle.rules.specs.Types.{type_of}
use Rattle.rules.specs.Programs.{Tables, Program, program, no_function}
use Rattle.plain.specs.Values.{Value, nodes, potential}
use Rattle.plain.specs.Reading.{Frame, frames_nodes}
use Rattle.plain.specs.Calls.{Phase, is_bare, is_open, is_running, is_done, Answer, refused_with, Refusal}

-- a sheet that was accepted: its bytes, and the tables that the verdict gave
pub record Sheet : Type 0 where
  pub bytes : List ℕ
  pub tables : Tables

abbrev pub program_of : Sheet → Program
program_of s = program s.bytes s.tables

-- the function with which every run begins
abbrev pub main_function : Sheet → FunctionEntry
main_function s = slice_index_or s.tables.functions 0 no_function

-- an entry of the input stack: a value with its type number
pub record Entry : Type 0 where
  pub value : Value
  pub type_number : ℕ

abbrev pub entry : Value → ℕ → Entry
entry v t = record { value = v; type_number = t }

-- Bare; Open with an input stack, the top first; Running with frames, the newest first; Done with a result.
pub data State : Type 0 where
  bare : State
  open_with : Sheet → List Entry → State
  running_with : Sheet → List Frame → State
  done_with : Sheet → Value → State

abbrev pub phase : State → Phase
phase bare = is_bare
phase (open_with s es) = is_open
phase (running_with s fs) = is_running
phase (done_with s v) = is_done

abbrev pub entries_nodes : List Entry → ℕ
entries_nodes [] = 0
entries_nodes (e ∷ es) = nodes e.value + entries_nodes es

-- the nodes of all live values, those of input stack, frames and result
abbrev pub live_nodes : State → ℕ
live_nodes bare = 0
live_nodes (open_with s es) = entries_nodes es
live_nodes (running_with s fs) = frames_nodes fs
live_nodes (done_with s v) = nodes v

-- free is the capacity less these nodes
abbrev pub free : ℕ → State → ℕ
free capacity s = capacity - live_nodes s

-- what entries bring along, each at the type with its number
abbrev pub entries_potential : List NodeType → List Entry → ℕ
entries_potential ts [] = 0
entries_potential ts (e ∷ es) = potential (type_of ts e.type_number) e.value + entries_potential ts es

-- the price of a run: the entry amount of function 0, and what the entries bring along
abbrev pub price_of : Sheet → List Entry → ℕ
price_of s es = (main_function s).signature.entry + entries_potential s.tables.types es

-- no other state has a price
abbrev pub price : State → ℕ
price bare = 0
price (open_with s es) = price_of s es
price (running_with s fs) = 0
price (done_with s v) = 0

-- what a call answers, and the state that follows
pub record Served : Type 0 where
  pub answer : Answer
  pub after : State

abbrev pub served : Answer → State → Served
served a s = record { answer = a; after = s }

-- a refused call alters nothing
abbrev pub refuse : Refusal → State → Served
refuse r s = served (refused_with r) s
