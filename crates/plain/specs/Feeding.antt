-- The calls that prepare a run: load, feed and fund. Rests on the verdict and on the states.
use Rattle.std.specs.Prelude.{ℕ, Bool, true, false, cond, List, [], ◌∷◌, map, reverse, length, take, Some, None, Ok, Err, Option, Result, ◌==◌, nat_le, nat_lt}
use Rattle.records.specs.declared.faults.Fault.{Fault}
use Rattle.records.specs.Cutting.{four_at, byte}
use Rattle.rules.specs.Types.{type_record}
use Rattle.rules.specs.Programs.{Tables}
use Rattle.rules.specs.Tests.{both, is_list_type}
use Rattle.rules.specs.Verdict.{verdict}
use Rattle.plain.specs.Values.{num, empty, node}
use Rattle.plain.specs.Reading.{Frame, entered}
use Rattle.plain.specs.Calls.{Refusal, excluded, bad_sheet, bad_record, bad_type, too_few_entries, other_type, too_many_entries, other_parameters, too_dear, no_free_cell, accepted}
use Rattle.plain.specs.States.{Sheet, main_function, Entry, entry, State, bare, open_with, running_with, done_with, free, price_of, Served, served, refuse}

-- a sheet is opened with an empty input stack, if the verdict accepts it
abbrev pub loaded : List ℕ → Result Tables Fault → State → Served
loaded bytes (Ok t) s = served accepted (open_with (record { bytes = bytes; tables = t }) [])
loaded bytes (Err f) s = refuse (bad_sheet f) s

abbrev pub load_from : State → List ℕ → Served
load_from bare bytes = loaded bytes (verdict bytes) bare
load_from (open_with s es) bytes = loaded bytes (verdict bytes) (open_with s es)
load_from (running_with s fs) bytes = refuse excluded (running_with s fs)
load_from (done_with s v) bytes = refuse excluded (done_with s v)

-- a feed record: a Number, an empty list of the type t, or the joining of the top two entries to a list of the type t
pub data Fed : Type 0 where
  a_number : ℕ → Fed
  an_empty : ℕ → Fed
  a_node : ℕ → Fed

-- kind 50 with a number of four bytes, 51 and 52 with a type number of one; `body` is what stands behind the kind byte
abbrev pub fed_kind : ℕ → List ℕ → Option Fed
fed_kind kind body =
    cond (kind == 0x50) (cond (length body == 4) (Some (a_number (four_at body 0))) None)
    (cond (kind == 0x51) (cond (length body == 1) (Some (an_empty (byte body 0))) None)
    (cond (kind == 0x52) (cond (length body == 1) (Some (a_node (byte body 0))) None)
    None))

abbrev pub fed : List ℕ → Option Fed
fed [] = None
fed (kind ∷ body) = fed_kind kind body

-- the entries that the input stack has at most
abbrev pub entry_limit : ℕ
entry_limit = 16

-- one test of a call: its refusal where it fails, and what follows where it does not
abbrev pub unless_refused : Bool → Refusal → State → Served → Served
unless_refused test r s rest = cond test rest (refuse r s)

-- a new entry on top
abbrev pub pushed : Sheet → List Entry → Entry → Served
pushed s es e = unless_refused (nat_lt (length es) entry_limit) too_many_entries (open_with s es) (served accepted (open_with s (e ∷ es)))

-- the top two entries, head on top and tail beneath, replaced by a list of type t: their type numbers are its element type and t
abbrev pub joined : ℕ → Sheet → ℕ → List Entry → Served
joined capacity s t [] = refuse too_few_entries (open_with s [])
joined capacity s t (h ∷ []) = refuse too_few_entries (open_with s (h ∷ []))
joined capacity s t (h ∷ (l ∷ es)) =
    unless_refused (both (h.type_number == (type_record s.tables.types t).element) (l.type_number == t)) other_type (open_with s (h ∷ (l ∷ es)))
    (unless_refused (nat_lt 0 (free capacity (open_with s (h ∷ (l ∷ es))))) no_free_cell (open_with s (h ∷ (l ∷ es)))
    (served accepted (open_with s (entry (node h.value l.value) t ∷ es))))

abbrev pub fed_with : ℕ → Sheet → List Entry → Option Fed → Served
fed_with capacity s es None = refuse bad_record (open_with s es)
fed_with capacity s es (Some (a_number n)) = pushed s es (entry (num n) 0)
fed_with capacity s es (Some (an_empty t)) =
    unless_refused (is_list_type s.tables.types t) bad_type (open_with s es) (pushed s es (entry empty t))
fed_with capacity s es (Some (a_node t)) =
    unless_refused (is_list_type s.tables.types t) bad_type (open_with s es) (joined capacity s t es)

abbrev pub feed_from : ℕ → State → List ℕ → Served
feed_from capacity bare record_bytes = refuse excluded bare
feed_from capacity (open_with s es) record_bytes = fed_with capacity s es (fed record_bytes)
feed_from capacity (running_with s fs) record_bytes = refuse excluded (running_with s fs)
feed_from capacity (done_with s v) record_bytes = refuse excluded (done_with s v)

abbrev pub same_numbers : List ℕ → List ℕ → Bool
same_numbers [] [] = true
same_numbers [] (y ∷ ys) = false
same_numbers (x ∷ xs) [] = false
same_numbers (x ∷ xs) (y ∷ ys) = both (x == y) (same_numbers xs ys)

-- whether the entries, first pushed first, are the parameters of function 0 by their type numbers
abbrev pub are_parameters : Sheet → List Entry → Bool
are_parameters s es =
    same_numbers (map (λ e. e.type_number) (reverse es)) (take (main_function s).signature.count (main_function s).signature.params)

-- the frame in which function 0 starts on the entries, first pushed first
abbrev pub first_frame : Sheet → List Entry → Frame
first_frame s es = entered (main_function s) (map (λ e. e.value) (reverse es)) 0

-- the run begins, if the entries are the parameters and the price is at most free
abbrev pub fund_from : ℕ → State → Served
fund_from capacity bare = refuse excluded bare
fund_from capacity (open_with s es) =
    unless_refused (are_parameters s es) other_parameters (open_with s es)
    (unless_refused (nat_le (price_of s es) (free capacity (open_with s es))) (too_dear (price_of s es)) (open_with s es)
    (served accepted (running_with s (first_frame s es ∷ []))))
fund_from capacity (running_with s fs) = refuse excluded (running_with s fs)
fund_from capacity (done_with s v) = refuse excluded (done_with s v)
