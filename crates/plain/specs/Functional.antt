-- That a run computes what the functional reading says. Rests on the functional reading, the plain reading and lawful sheets.
use Rattle.std.specs.Prelude.{◌≡◌, ℕ, ◌-◌, ◌≤◌, List, [], ◌∷◌}
use Rattle.rules.specs.Lawful.{Lawful}
use Rattle.plain.specs.Values.{Value}
use Rattle.plain.specs.Reading.{Frame, frame_limit, ends, step, entered}
use Rattle.plain.specs.States.{Sheet, program_of, main_function}
use Rattle.plain.specs.Funded.{Makes}
use Rattle.plain.specs.Bodies.{Body, Bodies}
use Rattle.plain.specs.Evaluation.{Answers}

-- these are the bodies of the sheet's functions
abbrev pub BodiesOf : Sheet → List Body → Type 0
BodiesOf s bodies = Bodies (program_of s) s.tables.functions bodies

-- how deep calls may nest in a run: function 0 has a frame, and each call that is under way has another
abbrev pub nesting_limit : ℕ
nesting_limit = frame_limit - 1

-- function f of the sheet has the value v at these arguments, and calls in it nest at most `depth` deep
pub record Computes (s : Sheet) (depth f : ℕ) (arguments : List Value) (v : Value) : Type 0 where
  pub bodies : List Body
  pub stand : BodiesOf s bodies
  pub answers : Answers bodies depth f arguments v

-- the run of function 0 on these arguments makes so many steps, none of which is refused, and the next one ends it with v
pub record RunEnds (s : Sheet) (arguments : List Value) (v : Value) : Type 0 where
  pub steps : ℕ
  pub frames : List Frame
  pub makes : Makes (program_of s) steps (entered (main_function s) arguments 0 ∷ []) frames
  pub last : step (program_of s) frames ≡ ends v

-- the bodies of the sheet's functions, and that there are no others
pub record OnlyBodies (s : Sheet) : Type 0 where
  pub bodies : List Body
  pub stand : BodiesOf s bodies
  pub only : (others : List Body) → BodiesOf s others → others ≡ bodies

-- The functions of a lawful sheet have bodies, one each.
abbrev pub ASheetHasItsBodies : Type 0
ASheetHasItsBodies = (s : Sheet) → Lawful s.bytes s.tables → OnlyBodies s

-- A function has one value at the same arguments, however deep calls may nest; and where they may nest deeper, it has it still.
abbrev pub AFunctionHasOneValue : Type 0
AFunctionHasOneValue =
    ((s : Sheet) (depth other f : ℕ) (arguments : List Value) (u v : Value) → Computes s depth f arguments u → Computes s other f arguments v → u ≡ v) ×
    ((s : Sheet) (depth more f : ℕ) (arguments : List Value) (v : Value) → depth ≤ more → Computes s depth f arguments v → Computes s more f arguments v)

-- A run that ends, ends with the value of function 0.
abbrev pub ARunEndsWithTheFunctionsValue : Type 0
ARunEndsWithTheFunctionsValue =
    (s : Sheet) (arguments : List Value) (v : Value) → Lawful s.bytes s.tables → RunEnds s arguments v → Computes s nesting_limit 0 arguments v

-- Where function 0 has a value and calls nest no deeper than there are frames, its run ends with that value.
abbrev pub AValueIsFoundByARun : Type 0
AValueIsFoundByARun =
    (s : Sheet) (arguments : List Value) (v : Value) → Lawful s.bytes s.tables → Computes s nesting_limit 0 arguments v → RunEnds s arguments v
