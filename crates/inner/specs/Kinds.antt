-- The newest frame after each kind of step, and what the kinds leave that take or give a cell, call or hand back. Rests on what a
-- step does on words, and on changes of what an engine keeps.
use Rattle.std.specs.Prelude.{◌≡◌, ℕ, ◌<◌, true, cond, List, length, take, is_some, Some, None, Option, ◌==◌, slice_index_or, slice_set}
use Rattle.rules.specs.Branches.{ListType}
use Rattle.rules.specs.Programs.{no_function}
use Rattle.rules.specs.Types.{type_record}
use Rattle.rules.specs.declared.functions.FunctionEntry.{FunctionEntry}
use Rattle.plain.specs.Reading.{computed, unless_zero}
use Rattle.sheet.specs.declared.passed.Sheet.{Sheet as LoadedSheet}
use Rattle.sheet.specs.Sheets.{sheet_tables}
use Rattle.cells.specs.declared.words.Words.{Words}
use Rattle.cells.specs.Cells.{Map, put, without}
use Rattle.standing.specs.declared.frames.Slot.{Slot}
use Rattle.standing.specs.declared.frames.Slot.TheVariants.{Number, ListOf}
use Rattle.standing.specs.declared.frames.Frame.{Frame}
use Rattle.standing.specs.Located.{node_words}
use Rattle.standing.specs.Law.{Takeable}
use Rattle.standing.specs.Stepping.{slot_in, slot_word, slot_type, as_slot, used_words, left_behind, moved_out, starting_words, word_frame, words_in}
use Rattle.inner.specs.declared.kept.Inner.{Inner}
use Rattle.inner.specs.Changes.{with_frame, with_call, with_return, with_result}

-- the frame goes on at an offset with these slots
abbrev pub onward : Frame → ℕ → List Slot → Frame
onward f next S = word_frame next S f.awaiting

abbrev pub const_frame : Frame → ℕ → ℕ → ℕ → Frame
const_frame f d n next = onward f next (slice_set f.slots d (Number n))

abbrev pub arith_frame : Frame → ℕ → ℕ → ℕ → ℕ → ℕ → Frame
arith_frame f d op a b next =
    onward f next
    (slice_set (used_words (used_words f.slots a) b) d (Number (computed op (slot_word (slot_in f.slots a)) (slot_word (slot_in (used_words f.slots a) b)))))

abbrev pub empty_frame : Frame → ℕ → ℕ → ℕ → Frame
empty_frame f d t next = onward f next (slice_set f.slots d (ListOf 0 t))

abbrev pub if_frame : Frame → ℕ → ℕ → ℕ → Frame
if_frame f a first second = onward f (unless_zero (slot_word (slot_in f.slots a)) first second) (used_words f.slots a)

-- a list whose first node is in the cell k
abbrev pub cons_frame : Frame → ℕ → ℕ → ℕ → ℕ → ℕ → ℕ → Frame
cons_frame f d t h l k next = onward f next (slice_set (used_words (used_words f.slots h) l) d (ListOf k t))

-- a Cons takes a cell for its node, with the words of element and tail
pub record Consed (m : Map) (i : Inner) (d t h l next : ℕ) (n : Map) (j : Inner) : Type 0 where
  pub number : ℕ
  pub takeable : Takeable m number
  pub cells : n ≡ put m number (node_words (slot_word (slot_in i.frame.slots h)) (slot_word (slot_in (used_words i.frame.slots h) l)))
  pub inner : j ≡ with_frame i (cons_frame i.frame d t h l number next)

-- the type number t is that of a list type of the sheet
abbrev pub KnownType : Option LoadedSheet → ℕ → Type 0
KnownType None t = ⊥
KnownType (Some s) t = ListType (sheet_tables s).types t

-- the element type of the type with number t
abbrev pub element_in : Option LoadedSheet → ℕ → ℕ
element_in None t = 0
element_in (Some s) t = (type_record (sheet_tables s).types t).element

-- the function with number f, and that the sheet has it
abbrev pub KnownFunction : Option LoadedSheet → ℕ → Type 0
KnownFunction None f = ⊥
KnownFunction (Some s) f = f < length (sheet_tables s).functions

abbrev pub function_in : Option LoadedSheet → ℕ → FunctionEntry
function_in None f = no_function
function_in (Some s) f = slice_index_or (sheet_tables s).functions f no_function

-- what a Match finds in slot a, and the frame with the node's parts
abbrev pub node_frame : Frame → ℕ → ℕ → ℕ → ℕ → ℕ → Words → Frame
node_frame f a h l second element w =
    onward f second
    (slice_set (slice_set (used_words f.slots a) h (as_slot element w.element)) l (ListOf w.tail (slot_type (slot_in f.slots a))))

-- a Match on an empty list goes to the first branch; on a node it gives the cell back and goes to the second
abbrev pub matched_cells : Map → Frame → ℕ → Map
matched_cells m f a = cond (slot_word (slot_in f.slots a) == 0) m (without m (slot_word (slot_in f.slots a)))

abbrev pub matched_frame : Map → Option LoadedSheet → Frame → ℕ → ℕ → ℕ → ℕ → ℕ → Frame
matched_frame m o f a h l first second =
    cond (slot_word (slot_in f.slots a) == 0) (onward f first (used_words f.slots a))
    (node_frame f a h l second (element_in o (slot_type (slot_in f.slots a))) (words_in (m (slot_word (slot_in f.slots a)))))

-- if slot a has a node, its type is known and its cell is held
pub record Apart (m : Map) (o : Option LoadedSheet) (x : Slot) : Type 0 where
  pub known : KnownType o (slot_type x)
  pub held : is_some (m (slot_word x)) ≡ true

-- the frames of a callee and of its caller behind a Call with these slots
abbrev pub callee_frame : Frame → FunctionEntry → List ℕ → ℕ → Frame
callee_frame f g slots d = word_frame g.body (starting_words (moved_out f.slots (take g.signature.count slots))) d

abbrev pub caller_frame : Frame → FunctionEntry → List ℕ → ℕ → Frame
caller_frame f g slots next = onward f next (left_behind f.slots (take g.signature.count slots))

abbrev pub called : Inner → FunctionEntry → List ℕ → ℕ → ℕ → Inner
called i g slots d next = with_call i (callee_frame i.frame g slots d) (caller_frame i.frame g slots next)

-- a Return goes to the caller, or ends the run
abbrev pub handed_back : Inner → Slot → Inner
handed_back i x = cond (length i.callers.items == 0) (with_result i x) (with_return i x)
