-- The outcomes of the calls that alter a store, said of its value before and after, where `cells`, `capacity` and `code`
-- give a value's meaning. Contracts cite these.
use Rattle.std.specs.Prelude.{ℕ, Option, Result}
use Rattle.cells.specs.declared.words.Words.{Words}
use Rattle.cells.specs.declared.fault.StoreFault.{StoreFault}
use Rattle.cells.specs.Cells.{Map}
use Rattle.cells.specs.Outcomes.{Took, Gave, Cleared}

-- take: what the value before allows and the value after has
abbrev pub Takes : {S : Type 0} → (S → Map) → (S → ℕ) → (S → ℕ) → S → Words → Result ℕ StoreFault → S → Type 0
Takes cells capacity code before words answer after =
    Took (cells before) (capacity before) (code before) words answer (cells after) (capacity after)

-- give
abbrev pub Gives : {S : Type 0} → (S → Map) → (S → ℕ) → S → ℕ → Option (Unit {0}) → S → Type 0
Gives cells capacity before number answer after = Gave (cells before) (capacity before) number answer (cells after) (capacity after)

-- clear: the cells before do not matter
abbrev pub Clears : {S : Type 0} → (S → Map) → (S → ℕ) → S → S → Type 0
Clears cells capacity before after = Cleared (capacity before) (cells after) (capacity after)
