-- What the words stand for goes on standing through a run. Rests on the law of amounts.
use Rattle.std.specs.Prelude.{◌≡◌, ℕ, ◌≤◌, List, ◌∷◌, Some}
use Rattle.records.specs.declared.kinds.NodeType.{NodeType}
use Rattle.records.specs.declared.kinds.Step.{Step as Action}
use Rattle.records.specs.declared.kinds.Record.TheVariants.{Step}
use Rattle.cells.specs.Cells.{Map, Unheld, Numbered, count, free}
use Rattle.rules.specs.Lawful.{Lawful}
use Rattle.plain.specs.Values.{Value, nodes}
use Rattle.plain.specs.Charges.{charge}
use Rattle.plain.specs.Reading as plain
use Rattle.plain.specs.States.{Sheet, program_of}
use Rattle.plain.specs.Funded.{Funded}
use Rattle.standing.specs.declared.frames.Slot.{Slot}
use Rattle.standing.specs.declared.frames.Frame.{Frame}
use Rattle.standing.specs.Stepping.{step_on_words}
use Rattle.standing.specs.Standing.{RunStands, ResultStands, StandsFor}

-- a number that a take may answer
pub record Takeable (m : Map) (k : ℕ) : Type 0 where
  pub from_one : 1 ≤ k
  pub unheld : Unheld m k

-- In a funded run, what a step does on words stands for what the plain step does, whichever unheld number a take answers.
abbrev pub StepsKeepStanding : Type 0
StepsKeepStanding =
    (s : Sheet) (spare capacity : ℕ) (m : Map) (words : List Frame) (values : List plain.Frame) (k : ℕ) → Lawful s.bytes s.tables →
    Funded s spare capacity values → RunStands s.tables.types m words values → Takeable m k →
    StandsFor s.tables.types (step_on_words (program_of s) words m k) (plain.step (program_of s) values)

-- The held cells are as many as the nodes of what they stand for.
abbrev pub HeldAreTheNodesOfARun : Type 0
HeldAreTheNodesOfARun =
    (ts : List NodeType) (m : Map) (words : List Frame) (values : List plain.Frame) → Numbered m → RunStands ts m words values → count m ≡ plain.frames_nodes values

abbrev pub HeldAreTheNodesOfAResult : Type 0
HeldAreTheNodesOfAResult =
    (ts : List NodeType) (m : Map) (words : Slot) (v : Value) → Numbered m → ResultStands ts m words v → count m ≡ nodes v

-- Where a step of a funded run makes a node, a cell is free.
abbrev pub ACellIsFreeWhereANodeIsMade : Type 0
ACellIsFreeWhereANodeIsMade =
    (s : Sheet) (spare capacity : ℕ) (m : Map) (words : List Frame) (f : plain.Frame) (fs : List plain.Frame) (a : Action) → Lawful s.bytes s.tables →
    Funded s spare capacity (f ∷ fs) → Numbered m → RunStands s.tables.types m words (f ∷ fs) →
    (program_of s).fetched f.next ≡ Some (Step a) → charge a ≤ free capacity m
