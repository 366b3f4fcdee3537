-- What is said of the elements of a list. Assumes nothing.
use Rattle.std.specs.Prelude.{ℕ, ◌+◌, List, [], ◌∷◌, ◌++◌}

-- a text for each, numbered from here on
abbrev pub said_of : {X : Type 0} → (ℕ → X → List ℕ) → ℕ → List X → List ℕ
said_of say n [] = []
said_of say n (x ∷ xs) = say n x ++ said_of say (n + 1) xs
