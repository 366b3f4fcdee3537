-- The operations of an Arith, and the bytes that stand for them. Assumes nothing.
use Rattle.std.specs.Prelude.{◌≡◌, ℕ, ◌<◌, Result, MatchResult}
use Rattle.records.specs.declared.operations.Operation.{Operation}
use Rattle.records.specs.declared.operations.Operation.TheVariants.{Sum, Difference, Product, Less, Equal}
use Rattle.records.specs.declared.operations.UnknownOperation.{UnknownOperation}

-- the byte that stands for an operation
abbrev pub op_of : Operation → ℕ
op_of Sum = 0
op_of Difference = 1
op_of Product = 2
op_of Less = 3
op_of Equal = 4

-- the operation for which this byte stands, or an error with the byte, which is then above all those
abbrev pub Decodes : ℕ → Result Operation UnknownOperation → Type 0
Decodes byte r = MatchResult r (λ operation. op_of operation ≡ byte) (λ e. (e.0 ≡ byte) × (4 < byte))
