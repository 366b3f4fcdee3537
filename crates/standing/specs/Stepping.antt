-- What a step does on words: to the frames of an engine and to the map of its store. Rests on slots and frames as an engine keeps
-- them, and on the meaning of a store.
use Rattle.std.specs.Prelude.{ℕ, ◌+◌, cond, List, [], ◌∷◌, length, take, replicate, Some, None, Option, ◌==◌, nat_le, slice_index_or, slice_set}
use Rattle.records.specs.declared.kinds.NodeType.{NodeType}
use Rattle.records.specs.declared.kinds.Step.{Step as Action}
use Rattle.records.specs.declared.kinds.Step.TheVariants.{Const, Arith, Empty, Cons, Call, Return, Match, If}
use Rattle.records.specs.declared.kinds.Record.{Record}
use Rattle.records.specs.declared.kinds.Record.TheVariants.{ListType, Function, Step}
use Rattle.records.specs.Writing.{step_size}
use Rattle.cells.specs.declared.words.Words.{Words}
use Rattle.cells.specs.Cells.{Map, put, without}
use Rattle.rules.specs.Limits.{slot_count}
use Rattle.rules.specs.Types.{type_record}
use Rattle.rules.specs.Programs.{Program, no_function}
use Rattle.plain.specs.Reading.{computed, unless_zero, frame_limit}
use Rattle.standing.specs.declared.frames.Slot.{Slot}
use Rattle.standing.specs.declared.frames.Slot.TheVariants.{Vacant, Number, ListOf}
use Rattle.standing.specs.declared.frames.Frame.{Frame}
use Rattle.standing.specs.Located.{node_words}

-- what slot i has
abbrev pub slot_in : List Slot → ℕ → Slot
slot_in S i = slice_index_or S i Vacant

-- the word in a slot
abbrev pub slot_word : Slot → ℕ
slot_word Vacant = 0
slot_word (Number n) = n
slot_word (ListOf w t) = w

-- the type number in a slot
abbrev pub slot_type : Slot → ℕ
slot_type Vacant = 0
slot_type (Number n) = 0
slot_type (ListOf w t) = t

-- a word as a slot of the type with number t
abbrev pub as_slot : ℕ → ℕ → Slot
as_slot t w = cond (t == 0) (Number w) (ListOf w t)

-- what a use leaves in a slot: a list goes, a number stays
abbrev pub left_slot : Slot → Slot
left_slot Vacant = Vacant
left_slot (Number n) = Number n
left_slot (ListOf w t) = Vacant

-- the slots after a use of slot i
abbrev pub used_words : List Slot → ℕ → List Slot
used_words S i = slice_set S i (left_slot (slot_in S i))

-- what these slots have, used one after the other, and the slots behind them
abbrev pub moved_out : List Slot → List ℕ → List Slot
moved_out S [] = []
moved_out S (i ∷ is) = slot_in S i ∷ moved_out (used_words S i) is

abbrev pub left_behind : List Slot → List ℕ → List Slot
left_behind S [] = S
left_behind S (i ∷ is) = left_behind (used_words S i) is

-- a row with these in its places from i upward
abbrev pub moved_in : {X : Type 0} → ℕ → List X → List X → List X
moved_in i [] S = S
moved_in i (x ∷ xs) S = moved_in (i + 1) xs (slice_set S i x)

-- the slots with which a function starts on these
abbrev pub starting_words : List Slot → List Slot
starting_words xs = moved_in 0 xs (replicate slot_count Vacant)

abbrev pub word_frame : ℕ → List Slot → ℕ → Frame
word_frame o S w = record { next = o; slots = S; awaiting = w }

-- the words that are read from a held cell
abbrev pub words_in : Option Words → Words
words_in None = node_words 0 0
words_in (Some w) = w

-- What a step does: the run goes on with other frames and cells, it ends with what a slot has, or the step is refused and nothing
-- changes.
pub data Effect : Type 0 where
  goes_on : List Frame → Map → Effect
  ends : Slot → Map → Effect
  refused : Effect

-- what a Return hands back goes into the slot that awaits it, or ends the run
abbrev pub handed_back : List Frame → ℕ → Slot → Map → Effect
handed_back [] w x m = ends x m
handed_back (f ∷ fs) w x m = goes_on (word_frame f.next (slice_set f.slots w x) f.awaiting ∷ fs) m

-- what a Match takes apart: the slots with the node's element and tail, which are of the element type of t and of t
abbrev pub taken_apart : List NodeType → List Slot → ℕ → ℕ → ℕ → Words → List Slot
taken_apart ts S h l t w = slice_set (slice_set S h (as_slot (type_record ts t).element w.element)) l (ListOf w.tail t)

-- What the step s does that stands at the offset o, with the slots S of the newest frame, whose result is awaited in slot w, the
-- frames fs beneath it and the cells m. A Cons takes the cell with the number k.
abbrev pub effect : Program → Action → ℕ → List Slot → ℕ → List Frame → Map → ℕ → Effect
effect p (Const d n) o S w fs m k = goes_on (word_frame (o + step_size (Const d n)) (slice_set S d (Number n)) w ∷ fs) m
effect p (Arith d op a b) o S w fs m k =
    goes_on (word_frame (o + step_size (Arith d op a b))
    (slice_set (used_words (used_words S a) b) d (Number (computed op (slot_word (slot_in S a)) (slot_word (slot_in (used_words S a) b))))) w ∷ fs) m
effect p (Empty d t) o S w fs m k = goes_on (word_frame (o + step_size (Empty d t)) (slice_set S d (ListOf 0 t)) w ∷ fs) m
effect p (Cons d t h l) o S w fs m k =
    goes_on (word_frame (o + step_size (Cons d t h l)) (slice_set (used_words (used_words S h) l) d (ListOf k t)) w ∷ fs)
    (put m k (node_words (slot_word (slot_in S h)) (slot_word (slot_in (used_words S h) l))))
effect p (Call d f slots) o S w fs m k =
    cond (nat_le frame_limit (length fs + 1)) refused
    (goes_on (word_frame (slice_index_or p.functions f no_function).body
    (starting_words (moved_out S (take (slice_index_or p.functions f no_function).signature.count slots))) d ∷
    (word_frame (o + step_size (Call d f slots)) (left_behind S (take (slice_index_or p.functions f no_function).signature.count slots)) w ∷ fs)) m)
effect p (Return a) o S w fs m k = handed_back fs w (slot_in S a) m
effect p (Match a h l second) o S w fs m k =
    cond (slot_word (slot_in S a) == 0)
    (goes_on (word_frame (o + step_size (Match a h l second)) (used_words S a) w ∷ fs) m)
    (goes_on (word_frame second (taken_apart p.types (used_words S a) h l (slot_type (slot_in S a)) (words_in (m (slot_word (slot_in S a))))) w ∷ fs)
    (without m (slot_word (slot_in S a))))
effect p (If a second) o S w fs m k =
    goes_on (word_frame (unless_zero (slot_word (slot_in S a)) (o + step_size (If a second)) second) (used_words S a) w ∷ fs) m

-- what the record does that the newest frame has come to; where no step stands, nothing changes
abbrev pub effect_at : Program → Option Record → Frame → List Frame → Map → ℕ → Effect
effect_at p None f fs m k = refused
effect_at p (Some (ListType x)) f fs m k = refused
effect_at p (Some (Function g)) f fs m k = refused
effect_at p (Some (Step s)) f fs m k = effect p s f.next f.slots f.awaiting fs m k

-- One step of a run with these frames, the newest first.
abbrev pub step_on_words : Program → List Frame → Map → ℕ → Effect
step_on_words p [] m k = refused
step_on_words p (f ∷ fs) m k = effect_at p (p.fetched f.next) f fs m k
