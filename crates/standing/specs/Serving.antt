-- What each call does on words: its answer, the moment after it, and the cells then. Rests on moments and on what a step does.
use Rattle.std.specs.Prelude.{ℕ, ◌+◌, Bool, cond, List, [], ◌∷◌, map, reverse, length, take, Some, None, Ok, Err, Option, Result, ◌==◌, nat_le, nat_lt}
use Rattle.records.specs.declared.faults.Fault.{Fault}
use Rattle.records.specs.declared.kinds.NodeType.{NodeType}
use Rattle.cells.specs.declared.words.Words.{Words}
use Rattle.cells.specs.Cells.{Map, empty, put, without, free}
use Rattle.rules.specs.Types.{type_record}
use Rattle.rules.specs.Programs.{Tables}
use Rattle.rules.specs.Tests.{both, is_list_type}
use Rattle.rules.specs.Verdict.{verdict}
use Rattle.plain.specs.Calls.{Refusal, excluded, bad_sheet, bad_record, bad_type, too_few_entries, other_type, too_many_entries, other_parameters, too_dear, too_deep, no_free_cell}
use Rattle.plain.specs.Calls.{Answer, accepted, in_phase, pulled, at_end, refused_with, is_running, is_done}
use Rattle.plain.specs.States.{Sheet, program_of, main_function}
use Rattle.plain.specs.Feeding.{Fed, a_number, an_empty, a_node, fed, entry_limit, same_numbers}
use Rattle.standing.specs.declared.frames.Slot.{Slot}
use Rattle.standing.specs.declared.frames.Slot.TheVariants.{ListOf}
use Rattle.standing.specs.declared.frames.Frame.{Frame}
use Rattle.standing.specs.declared.frames.Input.{Input}
use Rattle.standing.specs.Located.{node_words}
use Rattle.standing.specs.Stepping.{slot_word, slot_type, as_slot, words_in, starting_words, word_frame, Effect, goes_on, ends, refused, step_on_words}
use Rattle.standing.specs.Inputs.{input}
use Rattle.standing.specs.Moments.{Moment, bare, open_with, running_with, done_with}

pub record Done : Type 0 where
  pub answer : Answer
  pub after : Moment
  pub cells : Map

abbrev pub done : Answer → Moment → Map → Done
done a w m = record { answer = a; after = w; cells = m }

-- a refused call alters nothing
abbrev pub refuse : Refusal → Moment → Map → Done
refuse r w m = done (refused_with r) w m

abbrev pub unless_refused : Bool → Refusal → Moment → Map → Done → Done
unless_refused test r w m rest = cond test rest (refuse r w m)

-- a sheet is opened with no cell held, if the verdict accepts it
abbrev pub loaded : List ℕ → Result Tables Fault → Moment → Map → Done
loaded bytes (Ok t) w m = done accepted (open_with (record { bytes = bytes; tables = t }) []) empty
loaded bytes (Err f) w m = refuse (bad_sheet f) w m

abbrev pub load_on_words : Moment → Map → List ℕ → Done
load_on_words bare m bytes = loaded bytes (verdict bytes) bare m
load_on_words (open_with s es) m bytes = loaded bytes (verdict bytes) (open_with s es) m
load_on_words (running_with s fs) m bytes = refuse excluded (running_with s fs) m
load_on_words (done_with s x) m bytes = refuse excluded (done_with s x) m

-- a new entry on top
abbrev pub pushed : Sheet → List Input → Map → Input → Done
pushed s es m x = unless_refused (nat_lt (length es) entry_limit) too_many_entries (open_with s es) m (done accepted (open_with s (x ∷ es)) m)

-- the list of type t that is made of two entries, in the cell k: it brings along what they do, and the amount of its type
abbrev pub joined_entry : List NodeType → ℕ → ℕ → Input → Input → Input
joined_entry ts t k h l = input k t ((type_record ts t).amount + h.potential + l.potential)

-- the top two entries, head on top and tail beneath, replaced by a list of type t, for which a cell is taken
abbrev pub joined : ℕ → Sheet → ℕ → List Input → Map → ℕ → Done
joined capacity s t [] m k = refuse too_few_entries (open_with s []) m
joined capacity s t (h ∷ []) m k = refuse too_few_entries (open_with s (h ∷ [])) m
joined capacity s t (h ∷ (l ∷ es)) m k =
    unless_refused (both (h.of == (type_record s.tables.types t).element) (l.of == t)) other_type (open_with s (h ∷ (l ∷ es))) m
    (unless_refused (nat_lt 0 (free capacity m)) no_free_cell (open_with s (h ∷ (l ∷ es))) m
    (done accepted (open_with s (joined_entry s.tables.types t k h l ∷ es)) (put m k (node_words h.word l.word))))

abbrev pub fed_on_words : ℕ → Sheet → List Input → Map → ℕ → Option Fed → Done
fed_on_words capacity s es m k None = refuse bad_record (open_with s es) m
fed_on_words capacity s es m k (Some (a_number n)) = pushed s es m (input n 0 0)
fed_on_words capacity s es m k (Some (an_empty t)) =
    unless_refused (is_list_type s.tables.types t) bad_type (open_with s es) m (pushed s es m (input 0 t 0))
fed_on_words capacity s es m k (Some (a_node t)) =
    unless_refused (is_list_type s.tables.types t) bad_type (open_with s es) m (joined capacity s t es m k)

abbrev pub feed_on_words : ℕ → Moment → Map → ℕ → List ℕ → Done
feed_on_words capacity bare m k record_bytes = refuse excluded bare m
feed_on_words capacity (open_with s es) m k record_bytes = fed_on_words capacity s es m k (fed record_bytes)
feed_on_words capacity (running_with s fs) m k record_bytes = refuse excluded (running_with s fs) m
feed_on_words capacity (done_with s x) m k record_bytes = refuse excluded (done_with s x) m

-- the price, from what is kept with the entries
abbrev pub brought : List Input → ℕ
brought [] = 0
brought (x ∷ xs) = x.potential + brought xs

abbrev pub price_on_words : Sheet → List Input → ℕ
price_on_words s es = (main_function s).signature.entry + brought es

-- whether the entries, first pushed first, are the parameters of function 0
abbrev pub are_parameters : Sheet → List Input → Bool
are_parameters s es = same_numbers (map (λ x. x.of) (reverse es)) (take (main_function s).signature.count (main_function s).signature.params)

-- the frame in which function 0 starts on the entries, first pushed first
abbrev pub first_frame : Sheet → List Input → Frame
first_frame s es = word_frame (main_function s).body (starting_words (map (λ x. as_slot x.of x.word) (reverse es))) 0

abbrev pub fund_on_words : ℕ → Moment → Map → Done
fund_on_words capacity bare m = refuse excluded bare m
fund_on_words capacity (open_with s es) m =
    unless_refused (are_parameters s es) other_parameters (open_with s es) m
    (unless_refused (nat_le (price_on_words s es) (free capacity m)) (too_dear (price_on_words s es)) (open_with s es) m
    (done accepted (running_with s (first_frame s es ∷ [])) m))
fund_on_words capacity (running_with s fs) m = refuse excluded (running_with s fs) m
fund_on_words capacity (done_with s x) m = refuse excluded (done_with s x) m

-- a step goes on, ends the run, or is refused and alters nothing
abbrev pub stepped : Sheet → List Frame → Map → Effect → Done
stepped s fs m (goes_on gs n) = done (in_phase is_running) (running_with s gs) n
stepped s fs m (ends x n) = done (in_phase is_done) (done_with s x) n
stepped s fs m refused = refuse too_deep (running_with s fs) m

abbrev pub one_step_on_words : Moment → Map → ℕ → Done
one_step_on_words bare m k = refuse excluded bare m
one_step_on_words (open_with s es) m k = refuse excluded (open_with s es) m
one_step_on_words (running_with s fs) m k = stepped s fs m (step_on_words (program_of s) fs m k)
one_step_on_words (done_with s x) m k = refuse excluded (done_with s x) m

-- the first number of the result, whose cell is given back, or the end
abbrev pub pulled_node : Sheet → Slot → Map → Words → Done
pulled_node s x m w = done (pulled w.element) (done_with s (ListOf w.tail (slot_type x))) (without m (slot_word x))

abbrev pub pull_on_words : Moment → Map → Done
pull_on_words bare m = refuse excluded bare m
pull_on_words (open_with s es) m = refuse excluded (open_with s es) m
pull_on_words (running_with s fs) m = refuse excluded (running_with s fs) m
pull_on_words (done_with s x) m = cond (slot_word x == 0) (done at_end (open_with s []) m) (pulled_node s x m (words_in (m (slot_word x))))

-- no cell is held; the sheet stays
abbrev pub abandon_on_words : Moment → Done
abandon_on_words bare = done accepted bare empty
abandon_on_words (open_with s es) = done accepted (open_with s []) empty
abandon_on_words (running_with s fs) = done accepted (open_with s []) empty
abandon_on_words (done_with s x) = done accepted (open_with s []) empty

-- no other moment has a price
abbrev pub price : Moment → ℕ
price bare = 0
price (open_with s es) = price_on_words s es
price (running_with s fs) = 0
price (done_with s x) = 0
