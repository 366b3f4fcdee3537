-- An example of the functional reading: the doubling sheet gives each number of a list twice. Rests on the functional reading.
use Rattle.std.specs.Prelude.{◌≡◌, [], ◌∷◌, Ok}
use Rattle.rules.specs.Programs.{Tables}
use Rattle.rules.specs.Verdict.{verdict}
use Rattle.plain.specs.Values.{Value, num, empty, node, nodes}
use Rattle.plain.specs.States.{Sheet}
use Rattle.plain.specs.Samples.{doubling}
use Rattle.plain.specs.Funded.{Numbers}
use Rattle.plain.specs.Bodies.{Body, let_empty, let_cons, let_call, return, match}
use Rattle.plain.specs.Functional.{BodiesOf, Computes}

-- its one body: the empty list for the empty list; for a node, what it gives for the tail, with the head before it twice
abbrev pub doubling_body : Body
doubling_body =
    match 0 1 2
    (let_empty 0 (return 0))
    (let_call 3 0 (2 ∷ []) (let_cons 3 1 3 (let_cons 3 1 3 (return 3))))

-- each element twice
abbrev pub each_twice : Value → Value
each_twice (num n) = num n
each_twice empty = empty
each_twice (node h l) = node h (node h (each_twice l))

-- The doubling sheet, with the tables of its verdict.
abbrev pub doubling_sheet : Tables → Sheet
doubling_sheet t = record { bytes = doubling; tables = t }

-- The verdict accepts it; it has this body alone; and on every list of Numbers its function gives each of them twice, with as many
-- calls nested as the list has nodes.
abbrev pub TheDoublingSheetDoubles : Type 0
TheDoublingSheetDoubles =
    (t : Tables) × (verdict doubling ≡ Ok t) × BodiesOf (doubling_sheet t) (doubling_body ∷ []) ×
    ((v : Value) → Numbers v → Computes (doubling_sheet t) (nodes v) 0 (v ∷ []) (each_twice v))
