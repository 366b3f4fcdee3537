-- The calls of the service, and what they answer: each case with its number and its values. Assumes nothing but the faults of a
-- sheet.
use Rattle.std.specs.Prelude.{ℕ, List, [], ◌∷◌}
use Rattle.records.specs.declared.faults.Fault.{Fault}
use Rattle.records.specs.Numbers.{number_of}

-- the calls, and the four questions
pub data Request : Type 0 where
  load : List ℕ → Request
  feed : List ℕ → Request
  fund : Request
  one_step : Request
  advance : ℕ → Request
  pull : Request
  abandon : Request
  ask_price : Request
  ask_free : Request
  ask_held : Request
  ask_state : Request

pub data Phase : Type 0 where
  is_bare : Phase
  is_open : Phase
  is_running : Phase
  is_done : Phase

-- why a call is refused
pub data Refusal : Type 0 where
  -- the state excludes the call, or the advance
  excluded : Refusal
  advance_excluded : Refusal
  -- the sheet breaks a rule
  bad_sheet : Fault → Refusal
  -- the feed record is empty, of unknown kind or of the wrong length
  bad_record : Refusal
  -- the feed's type is unknown or no list
  bad_type : Refusal
  too_few_entries : Refusal
  -- an entry has another type number
  other_type : Refusal
  too_many_entries : Refusal
  -- the entries are not the parameters of function 0
  other_parameters : Refusal
  -- fewer cells are free than this price
  too_dear : ℕ → Refusal
  -- a Call with 64 frames, in a step, and in an advance after so many steps
  too_deep : Refusal
  too_deep_after : ℕ → Refusal
  -- no cell is free for a feed
  no_free_cell : Refusal

abbrev pub refusal_number : Refusal → ℕ
refusal_number excluded = 50
refusal_number advance_excluded = 50
refusal_number (bad_sheet f) = number_of f.cause
refusal_number bad_record = 60
refusal_number bad_type = 61
refusal_number too_few_entries = 62
refusal_number other_type = 63
refusal_number too_many_entries = 64
refusal_number other_parameters = 65
refusal_number (too_dear price) = 66
refusal_number too_deep = 67
refusal_number (too_deep_after made) = 67
refusal_number no_free_cell = 70

-- what a refusal adds to its number: the place, the price, or the steps made
abbrev pub refusal_values : Refusal → List ℕ
refusal_values excluded = []
refusal_values advance_excluded = 0 ∷ []
refusal_values (bad_sheet f) = f.place ∷ []
refusal_values bad_record = []
refusal_values bad_type = []
refusal_values too_few_entries = []
refusal_values other_type = []
refusal_values too_many_entries = []
refusal_values other_parameters = []
refusal_values (too_dear price) = price ∷ []
refusal_values too_deep = []
refusal_values (too_deep_after made) = made ∷ []
refusal_values no_free_cell = []

pub data Answer : Type 0 where
  -- to load, feed, fund and abandon
  accepted : Answer
  -- to a step and to the question of the state
  in_phase : Phase → Answer
  -- to an advance: the steps made, and the state
  advanced : ℕ → Phase → Answer
  -- to a pull: a number of the result, or its end
  pulled : ℕ → Answer
  at_end : Answer
  -- to the questions of price, free and held
  counted : ℕ → Answer
  refused_with : Refusal → Answer
