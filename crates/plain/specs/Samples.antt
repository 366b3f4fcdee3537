-- Two sheets, and what is fed to them, for the examples.
use Rattle.std.specs.Prelude.{ℕ, zero, suc, List, [], ◌∷◌}
use Rattle.plain.specs.Calls.{Request, load, feed}

-- A sheet that doubles each item of a list of Numbers. Type 1 brings one cell along with each node, and type 2 none; function 0
-- takes a list of type 1 and answers one of type 2.
abbrev pub doubling : List ℕ
doubling =
    0x11 ∷ 0 ∷ 0 ∷ 1 ∷ 0x11 ∷ 0 ∷ 0 ∷ 0 ∷ 0x20 ∷ 1 ∷ 1 ∷ 0xff ∷ 0xff ∷ 0xff ∷ 2 ∷ 0 ∷ 0 ∷ 0 ∷ 0 ∷ 0x41 ∷ 0 ∷ 1 ∷ 2 ∷ 0 ∷ 0x1e ∷ 0x32 ∷ 0 ∷ 2 ∷ 0x40 ∷ 0 ∷
    0x35 ∷ 3 ∷ 0 ∷ 2 ∷ 0xff ∷ 0xff ∷ 0xff ∷ 0x33 ∷ 3 ∷ 2 ∷ 1 ∷ 3 ∷ 0x33 ∷ 3 ∷ 2 ∷ 1 ∷ 3 ∷ 0x40 ∷ 3 ∷ []

-- A sheet whose function 0 takes nothing, asks for two cells, answers the list of the one number 7, and leaves a cell.
abbrev pub leaving_one : List ℕ
leaving_one =
    0x11 ∷ 0 ∷ 0 ∷ 0 ∷ 0x20 ∷ 0 ∷ 0xff ∷ 0xff ∷ 0xff ∷ 0xff ∷ 1 ∷ 0 ∷ 2 ∷ 0 ∷ 1 ∷
    0x32 ∷ 0 ∷ 1 ∷ 0x30 ∷ 1 ∷ 0 ∷ 0 ∷ 0 ∷ 7 ∷ 0x33 ∷ 2 ∷ 1 ∷ 1 ∷ 0 ∷ 0x40 ∷ 2 ∷ []

-- the feed records for a Number below 256, for an empty list of type t, and for a node of it
abbrev pub number_record : ℕ → List ℕ
number_record n = 0x50 ∷ 0 ∷ 0 ∷ 0 ∷ n ∷ []

abbrev pub empty_record : ℕ → List ℕ
empty_record t = 0x51 ∷ t ∷ []

abbrev pub node_record : ℕ → List ℕ
node_record t = 0x52 ∷ t ∷ []

-- the list of 5 and 7, fed to the doubling sheet
abbrev pub two_items : List Request
two_items =
    load doubling ∷ feed (empty_record 1) ∷ feed (number_record 7) ∷ feed (node_record 1) ∷ feed (number_record 5) ∷ feed (node_record 1) ∷ []

-- so many of the same
abbrev pub times : {A : Type 0} → ℕ → A → List A
times zero x = []
times (suc n) x = x ∷ times n x

-- so many 7s, fed to the doubling sheet behind the load and the empty list
abbrev pub sevens : ℕ → List Request
sevens zero = []
sevens (suc n) = feed (number_record 7) ∷ feed (node_record 1) ∷ sevens n
