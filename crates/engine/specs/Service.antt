-- When an engine is in service, and the complete outcome of a call. Rests on what each call does on words and on the plain service.
use Rattle.std.specs.Prelude.{◌≡◌, ℕ}
use Rattle.cells.specs.declared.store.Meaning.{Ghosts}
use Rattle.cells.specs.Cells.{Map}
use Rattle.plain.specs.Calls.{Request, Answer}
use Rattle.plain.specs.States.{State}
use Rattle.plain.specs.Service.{serve}
use Rattle.standing.specs.Moments.{Stands, Sound}
use Rattle.standing.specs.Serving.{Done, done}
use Rattle.standing.specs.Calls.{MayDo, Serves}
use Rattle.inner.specs.Meant.{moment}
use Rattle.inner.specs.Serving.{Serving, StoodFor, Unaltered, Does}
use Rattle.engine.specs.declared.engine.Engine.{Engine}

module _ {S : Type 0} (M : Ghosts S) where
  -- the cells that an engine's store holds, and how many it can hold
  abbrev pub cells_of : Engine S → Map
  cells_of e = M.cells e.store

  abbrev pub capacity_of : Engine S → ℕ
  capacity_of e = M.capacity e.store

  -- The store shows its meaning, and what is kept is in service with its cells: the engine stands for a sound state of the plain
  -- service.
  pub record InService (e : Engine S) : Type 0 where
    pub ok : M.ok e.store
    pub serving : Serving (capacity_of e) (cells_of e) e.inner

  -- a sound state of the plain service that it stands for
  abbrev pub StandsFor : Engine S → Type 0
  StandsFor e = StoodFor (capacity_of e) (cells_of e) (moment e.inner)

  -- What a call does on words and cells: its answer, the moment behind it and the cells then.
  pub record CallDoes (before : Engine S) (r : Request) (a : Answer) (after : Engine S) : Type 0 where
    pub ok : M.ok after.store
    pub capacity : capacity_of after ≡ capacity_of before
    pub does : Does (capacity_of before) (cells_of before) before.inner r a (cells_of after) after.inner

  -- what an engine answers, the moment behind the call, and the cells then
  abbrev pub done_by : Answer → Engine S → Done
  done_by a after = done a (moment after.inner) (cells_of after)

  -- The complete outcome of a call. What it answers and leaves is what it may do on words and cells, where the number of a cell that
  -- is taken is open. The engine is in service again; for every sound state of the plain service that it stood for, the answer is
  -- the plain service's, and it stands for the state that follows. So where such a state is given before the call, one is given
  -- behind it. A refusal alters nothing, but for the steps that an advance made before it.
  pub record CallMade (before : Engine S) (r : Request) (a : Answer) (after : Engine S) : Type 0 where
    pub did : MayDo (capacity_of before) (moment before.inner) (cells_of before) r (done_by a after)
    pub capacity : capacity_of after ≡ capacity_of before
    pub in_service : InService after
    pub plain : (s : State) → Stands (cells_of before) (moment before.inner) s → Sound (capacity_of before) s →
        Serves (capacity_of before) (done_by a after) (serve (capacity_of before) s r)
    pub stands : StandsFor before → StandsFor after
    pub unaltered : Unaltered (cells_of before) before.inner a (cells_of after) after.inner
