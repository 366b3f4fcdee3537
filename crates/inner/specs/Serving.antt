-- When what an engine keeps, with the cells of its store, is in service, and what a call does to it. Rests on the moment that it
-- means.
use Rattle.std.specs.Prelude.{◌≡◌, ℕ, ◌*◌, ◌≤◌, Some, None, Option, ◌≢◌}
use Rattle.records.specs.declared.kinds.Step.{Step as Action}
use Rattle.records.specs.declared.kinds.Record.TheVariants.{Step}
use Rattle.cells.specs.Cells.{Map, count}
use Rattle.rules.specs.Programs.{fetch}
use Rattle.plain.specs.Calls.{Request, Answer, Refusal, refused_with, too_deep_after}
use Rattle.plain.specs.States.{State}
use Rattle.sheet.specs.declared.passed.Sheet.{Sheet as LoadedSheet}
use Rattle.sheet.specs.Sheets.{bytes_of}
use Rattle.standing.specs.Moments.{Moment, bare, open_with, running_with, done_with, Stands, Sound}
use Rattle.standing.specs.Serving.{brought, done}
use Rattle.standing.specs.Calls.{MayDo}
use Rattle.inner.specs.declared.kept.Inner.{Inner}
use Rattle.inner.specs.declared.kept.State.TheVariants.{Running}
use Rattle.inner.specs.Meant.{WellKept, moment}

-- the greatest amount of a type
abbrev pub greatest_amount : ℕ
greatest_amount = 65535

-- for each of 65,535 cells; with an entry amount, it fits 32 bits
abbrev pub greatest_price : ℕ
greatest_price = greatest_amount * 65535

-- Each node brings at most the greatest amount, so what the entries bring along is at most that for each held cell. Hence a price
-- never passes the greatest.
abbrev pub PriceFits : Moment → Map → Type 0
PriceFits bare m = Unit {0}
PriceFits (open_with s es) m = brought es ≤ greatest_amount * count m
PriceFits (running_with s fs) m = Unit {0}
PriceFits (done_with s x) m = Unit {0}

-- a sound state of the plain service that moment and cells stand for
pub record StoodFor (capacity : ℕ) (m : Map) (w : Moment) : Type 0 where
  pub state : State
  pub stands : Stands m w state
  pub sound : Sound capacity state

-- it is well kept, and stands for a sound state of the plain service
pub record Serving (capacity : ℕ) (m : Map) (i : Inner) : Type 0 where
  pub kept : WellKept i
  pub fits : PriceFits (moment i) m
  pub state : State
  pub stands : Stands m (moment i) state
  pub sound : Sound capacity state

-- A refused call alters nothing at all, unless it is an advance that has made steps before its refusal.
abbrev pub Unaltered : Map → Inner → Answer → Map → Inner → Type 0
Unaltered m i a n j = (x : Refusal) → a ≡ refused_with x → ((made : ℕ) → x ≢ too_deep_after made) → (j ≡ i) × (n ≡ m)

-- What a call does on words and cells, where i and m are before it and j and n behind it, and what it keeps.
pub record Does (capacity : ℕ) (m : Map) (i : Inner) (r : Request) (a : Answer) (n : Map) (j : Inner) : Type 0 where
  pub kept : WellKept j
  pub fits : PriceFits (moment j) n
  pub did : MayDo capacity (moment i) m r (done a (moment j) n)
  pub unaltered : Unaltered m i a n j

-- a run has come to this step
pub record ComesTo (i : Inner) (a : Action) : Type 0 where
  pub running : i.state ≡ Running
  pub sheet : LoadedSheet
  pub loaded : i.sheet ≡ Some sheet
  pub fetched : fetch (bytes_of sheet) i.frame.next ≡ Some (Step a)

-- the step that is due, which there is while a run is on
abbrev pub Due : Inner → Option Action → Type 0
Due i None = i.state ≡ Running → ⊥
Due i (Some a) = ComesTo i a
