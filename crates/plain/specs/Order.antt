-- What holds in every state to which a service comes, whatever calls are made in whatever order. Rests on funded runs.
use Rattle.std.specs.Prelude.{ℕ, ◌≤◌, List, [], length}
use Rattle.rules.specs.Lawful.{Lawful}
use Rattle.plain.specs.Values.{Value, nodes}
use Rattle.plain.specs.Reading.{Frame}
use Rattle.plain.specs.Calls.{Request}
use Rattle.plain.specs.States.{Sheet, Entry, State, bare, open_with, running_with, done_with, entries_nodes, live_nodes}
use Rattle.plain.specs.Feeding.{entry_limit}
use Rattle.plain.specs.Service.{state_after, state_behind}
use Rattle.plain.specs.Funded.{Numbers, EntriesTyped, Funded, Ended}

-- The sheet is lawful; the entries have their types; a run is funded; a result is a list of Numbers.
pub data InOrder (capacity : ℕ) : State → Type 0 where
  bare_in_order : InOrder capacity bare
  open_in_order : {s : Sheet} {es : List Entry} → Lawful s.bytes s.tables → EntriesTyped s.tables.types es → length es ≤ entry_limit →
      entries_nodes es ≤ capacity → InOrder capacity (open_with s es)
  running_in_order : {s : Sheet} {fs : List Frame} (spare : ℕ) → Lawful s.bytes s.tables → Funded s spare capacity fs →
      InOrder capacity (running_with s fs)
  done_in_order : {s : Sheet} {v : Value} → Lawful s.bytes s.tables → Numbers v → nodes v ≤ capacity → InOrder capacity (done_with s v)

-- Every call keeps the service in order; so it is behind any row of calls; and then all live nodes fit the capacity.
abbrev pub AServiceStaysInOrder : Type 0
AServiceStaysInOrder =
    ((capacity : ℕ) (s : State) (r : Request) → InOrder capacity s → InOrder capacity (state_after capacity s r)) ×
    ((capacity : ℕ) (rs : List Request) → InOrder capacity (state_behind capacity bare rs)) ×
    ((capacity : ℕ) (s : State) → InOrder capacity s → live_nodes s ≤ capacity)

-- what a call makes of a run: it is funded still, it has ended and leaves what was promised, or it was given up
pub data RunsOn (s : Sheet) (spare capacity : ℕ) : State → Type 0 where
  still_funded : {fs : List Frame} → Funded s spare capacity fs → RunsOn s spare capacity (running_with s fs)
  ended_funded : {v : Value} → Ended s spare capacity v → RunsOn s spare capacity (done_with s v)
  given_up : RunsOn s spare capacity (open_with s [])

-- Every call in a run keeps the same cells spare.
abbrev pub CallsKeepWhatIsPaid : Type 0
CallsKeepWhatIsPaid =
    (s : Sheet) (spare capacity : ℕ) (fs : List Frame) (r : Request) → Lawful s.bytes s.tables → Funded s spare capacity fs →
    RunsOn s spare capacity (state_after capacity (running_with s fs) r)
