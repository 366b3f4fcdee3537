-- Frames that stand: a cell that they do not have may change, and a run that goes on with another newest frame. Rests on rows.
use Rattle.std.proofs.Common.{◌≡◌, ℕ, ◌+◌, List, ◌∷◌, map, length, Some, Option, sym, ap, subst, arith}
use Rattle.records.specs.declared.kinds.NodeType.{NodeType}
use Rattle.cells.specs.declared.words.Words.{Words}
use Rattle.cells.specs.Cells.{Map, update, one_if}
use Rattle.rules.specs.Limits.{slot_count}
use Rattle.plain.specs.Values.{Value, num}
use Rattle.plain.specs.Slots.{Slots}
use Rattle.plain.specs.Reading as plain
use Rattle.standing.specs.declared.frames.Slot.{Slot}
use Rattle.standing.specs.Rows.{Row, row_words, row_values, row_occurrences, KeptRow}
use Rattle.standing.specs.Stepping.{word_frame, Effect, goes_on}
use Rattle.standing.specs.Standing.{LocatedFrame, located_frame, frame_words, frame_values, frames_occurrences, KeptFrames, no_frames, one_frame, StandsFor, stands_on}
use Rattle.standing.proofs.Rows.{row_beside}

pub frames_beside : {ts : List NodeType} {m : Map} {Ls : List LocatedFrame} (k : ℕ) (entry : Option Words) → KeptFrames ts m Ls →
    frames_occurrences k Ls ≡ 0 → KeptFrames ts (update m k entry) Ls
frames_beside k entry no_frames q = no_frames
frames_beside k entry (one_frame l x r) q = one_frame l (row_beside k entry x (omega arith)) (frames_beside k entry r (omega arith))

-- the newest frame and those beneath it
pub record Newest (ts : List NodeType) (m : Map) (L : LocatedFrame) (Ls : List LocatedFrame) : Type 0 where
  pub width : length L.row ≡ slot_count
  pub row : KeptRow ts m L.row
  pub beneath : KeptFrames ts m Ls

pub newest : {ts : List NodeType} {m : Map} {L : LocatedFrame} {Ls : List LocatedFrame} → KeptFrames ts m (L ∷ Ls) → Newest ts m L Ls
newest (one_frame l x r) = record { width = l; row = x; beneath = r }

-- a run goes on with the row R in its newest frame
pub goes_on_with : {ts : List NodeType} {m : Map} (o : ℕ) (R : Row) (w : ℕ) (Ls : List LocatedFrame) {W : List Slot} {S : Slots} →
    row_words R ≡ W → row_values R ≡ S → length R ≡ slot_count → KeptRow ts m R → KeptFrames ts m Ls →
    ((c : ℕ) → row_occurrences c R + frames_occurrences c Ls ≡ one_if (m c)) →
    StandsFor ts (goes_on (word_frame o W w ∷ map frame_words Ls) m) (plain.goes_on (plain.frame o S w ∷ map frame_values Ls))
goes_on_with o R w Ls as_words as_values width kept beneath owned =
    stands_on (record {
      located = located_frame o R w ∷ Ls;
      as_words = ap (λ W. word_frame o W w ∷ map frame_words Ls) as_words;
      as_values = ap (λ S. plain.frame o S w ∷ map frame_values Ls) as_values;
      kept = one_frame width kept beneath;
      owned = owned;
    })

-- what is found in a slot decides how the plain step goes on
module _ {ts : List NodeType} {x : Effect} where
  pub by_value : {y : Option Value} {v : Value} (k : Value → plain.Outcome) → y ≡ Some v → StandsFor ts x (k v) → StandsFor ts x (plain.with_value y k)
  by_value k e t = subst (λ z. StandsFor ts x (plain.with_value z k)) (sym e) t

  pub by_number : {y : Option Value} {n : ℕ} (k : ℕ → plain.Outcome) → y ≡ Some (num n) → StandsFor ts x (k n) → StandsFor ts x (plain.with_number y k)
  by_number k e t = subst (λ z. StandsFor ts x (plain.with_number z k)) (sym e) t

  pub by_list : {y : Option Value} {v : Value} (z : plain.Outcome) (k : Value → Value → plain.Outcome) → y ≡ Some v → StandsFor ts x (plain.with_list (Some v) z k) →
      StandsFor ts x (plain.with_list y z k)
  by_list z k e t = subst (λ u. StandsFor ts x (plain.with_list u z k)) (sym e) t
