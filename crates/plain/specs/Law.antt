-- The law of amounts: what was paid at funding suffices for the whole run. Rests on funded runs and on the plain service.
use Rattle.std.specs.Prelude.{◌≡◌, ℕ, ◌+◌, ◌-◌, ◌≤◌, List, [], ◌∷◌, length, Some}
use Rattle.records.specs.declared.kinds.Step.{Step as Action}
use Rattle.records.specs.declared.kinds.Record.TheVariants.{Step}
use Rattle.rules.specs.Branches.{Fields}
use Rattle.rules.specs.Lawful.{Lawful}
use Rattle.plain.specs.Values.{Value}
use Rattle.plain.specs.Reading.{Frame, frames_nodes, Outcome, goes_on, ends, refused, step}
use Rattle.plain.specs.Calls.{fund, accepted}
use Rattle.plain.specs.States.{Sheet, program_of, Entry, open_with, entries_nodes, free, price_of}
use Rattle.plain.specs.Feeding.{first_frame}
use Rattle.plain.specs.Service.{answer_to}
use Rattle.plain.specs.Charges.{charge, given_back}
use Rattle.plain.specs.Funded.{EntriesTyped, TooDeep, Makes, Funded, Ended}

-- What may follow from the step a on a funded run with the frames f ∷ fs. There is no case for a step that is stuck. A step that
-- makes a node finds a free cell beside the spare ones, and the nodes change by what it charges and gives back.
pub data Follows (s : Sheet) (spare capacity : ℕ) (a : Action) (f : Frame) (fs : List Frame) : Outcome → Type 0 where
  stays_funded : {gs : List Frame} → (TooDeep a (length (f ∷ fs)) → ⊥) →
      spare + charge a ≤ capacity - frames_nodes (f ∷ fs) →
      frames_nodes gs + given_back a f.slots ≡ frames_nodes (f ∷ fs) + charge a →
      Funded s spare capacity gs →
      Follows s spare capacity a f fs (goes_on gs)
  has_ended : {v : Value} → (TooDeep a (length (f ∷ fs)) → ⊥) → Ended s spare capacity v → Follows s spare capacity a f fs (ends v)
  is_refused : TooDeep a (length (f ∷ fs)) → Follows s spare capacity a f fs refused

-- The step that stands where the newest frame has come to, with its fields in their ranges, and what it does.
pub record StepFollows (s : Sheet) (spare capacity : ℕ) (f : Frame) (fs : List Frame) : Type 0 where
  pub action : Action
  pub stands : (program_of s).fetched f.next ≡ Some (Step action)
  pub fields : Fields (program_of s) action
  pub follows : Follows s spare capacity action f fs (step (program_of s) (f ∷ fs))

-- the cells that stay spare during a run: those free at its funding, less the price
abbrev pub spare_at : ℕ → Sheet → List Entry → ℕ
spare_at capacity s es = free capacity (open_with s es) - price_of s es

-- An accepted fund makes a funded run.
abbrev pub FundingPays : Type 0
FundingPays =
    (s : Sheet) (es : List Entry) (capacity : ℕ) → Lawful s.bytes s.tables → EntriesTyped s.tables.types es →
    entries_nodes es ≤ capacity → answer_to capacity (open_with s es) fund ≡ accepted →
    Funded s (spare_at capacity s es) capacity (first_frame s es ∷ [])

-- Every step of a funded run keeps it funded, with the same cells spare.
abbrev pub StepsKeepWhatIsPaid : Type 0
StepsKeepWhatIsPaid =
    (s : Sheet) (spare capacity : ℕ) (f : Frame) (fs : List Frame) → Lawful s.bytes s.tables →
    Funded s spare capacity (f ∷ fs) → StepFollows s spare capacity f fs

-- From an accepted fund, through any number of steps, the run stays funded, and its next step finds what it needs.
abbrev pub AFundedRunNeverLacksACell : Type 0
AFundedRunNeverLacksACell =
    (s : Sheet) (es : List Entry) (capacity n : ℕ) (f : Frame) (fs : List Frame) → Lawful s.bytes s.tables →
    EntriesTyped s.tables.types es → entries_nodes es ≤ capacity → answer_to capacity (open_with s es) fund ≡ accepted →
    Makes (program_of s) n (first_frame s es ∷ []) (f ∷ fs) →
    Funded s (spare_at capacity s es) capacity (f ∷ fs) × StepFollows s (spare_at capacity s es) capacity f fs
