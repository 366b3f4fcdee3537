-- When frames on words and the map of a store stand for frames of the plain reading. Rests on rows and on what a step does.
use Rattle.std.specs.Prelude.{◌≡◌, ℕ, ◌+◌, List, [], ◌∷◌, map, length, Some}
use Rattle.records.specs.declared.kinds.NodeType.{NodeType}
use Rattle.cells.specs.Cells.{Map, one_if}
use Rattle.rules.specs.Limits.{slot_count}
use Rattle.plain.specs.Values.{Value}
use Rattle.plain.specs.Reading as plain
use Rattle.standing.specs.declared.frames.Slot.{Slot}
use Rattle.standing.specs.declared.frames.Frame.{Frame}
use Rattle.standing.specs.Rows.{Row, row_words, row_values, row_occurrences, Kept, KeptRow, LocatedSlot, slot_words, slot_value, slot_occurrences}
use Rattle.standing.specs.Stepping.{word_frame, Effect, goes_on, ends, refused}

-- a frame whose slots have the numbers of their cells
pub record LocatedFrame : Type 0 where
  pub next : ℕ
  pub row : Row
  pub awaiting : ℕ

abbrev pub located_frame : ℕ → Row → ℕ → LocatedFrame
located_frame o R w = record { next = o; row = R; awaiting = w }

-- as an engine has it, and as the plain reading has it
abbrev pub frame_words : LocatedFrame → Frame
frame_words f = word_frame f.next (row_words f.row) f.awaiting

abbrev pub frame_values : LocatedFrame → plain.Frame
frame_values f = plain.frame f.next (row_values f.row) f.awaiting

-- how many nodes of all frames are in the cell c
abbrev pub frames_occurrences : ℕ → List LocatedFrame → ℕ
frames_occurrences c [] = 0
frames_occurrences c (f ∷ fs) = row_occurrences c f.row + frames_occurrences c fs

-- every frame has its slots, and these are kept
pub data KeptFrames (ts : List NodeType) (m : Map) : List LocatedFrame → Type 0 where
  no_frames : KeptFrames ts m []
  one_frame : {f : LocatedFrame} {fs : List LocatedFrame} → length f.row ≡ slot_count → KeptRow ts m f.row → KeptFrames ts m fs →
      KeptFrames ts m (f ∷ fs)

-- The frames on words and the cells stand for the plain frames: the lists of both are those of located frames, each node is in its
-- cell with its words, and a cell is held exactly when one node is in it.
pub record RunStands (ts : List NodeType) (m : Map) (words : List Frame) (values : List plain.Frame) : Type 0 where
  pub located : List LocatedFrame
  pub as_words : map frame_words located ≡ words
  pub as_values : map frame_values located ≡ values
  pub kept : KeptFrames ts m located
  pub owned : (c : ℕ) → frames_occurrences c located ≡ one_if (m c)

-- what a slot has stands for a value, and its cells are all that are held
pub record ResultStands (ts : List NodeType) (m : Map) (words : Slot) (v : Value) : Type 0 where
  pub located : LocatedSlot
  pub as_words : slot_words located ≡ words
  pub as_value : slot_value located ≡ Some v
  pub kept : Kept ts m located
  pub owned : (c : ℕ) → slot_occurrences c located ≡ one_if (m c)

-- what a step did on words stands for what the plain step did
pub data StandsFor (ts : List NodeType) : Effect → plain.Outcome → Type 0 where
  stands_on : {m : Map} {words : List Frame} {values : List plain.Frame} → RunStands ts m words values → StandsFor ts (goes_on words m) (plain.goes_on values)
  stands_end : {m : Map} {x : Slot} {v : Value} → ResultStands ts m x v → StandsFor ts (ends x m) (plain.ends v)
  stands_refused : StandsFor ts refused plain.refused
