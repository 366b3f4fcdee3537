-- The row of a sheet's records, as offsets at which they are fetched; and functions laid out in it.
use Rattle.std.proofs.Common.{◌≡◌, ℕ, ◌+◌, List, [], ◌∷◌, length, Some, None}
use Rattle.records.specs.declared.kinds.NodeType.{NodeType}
use Rattle.records.specs.declared.kinds.Signature.{Signature}
use Rattle.records.specs.declared.kinds.Record.{Record}
use Rattle.records.specs.declared.kinds.Record.TheVariants.{ListType, Function}
use Rattle.records.specs.Writing.{size}
use Rattle.records.specs.Rows.{Row, next, end}
use Rattle.rules.specs.declared.functions.FunctionEntry.{FunctionEntry}
use Rattle.rules.specs.Programs.{Tables, program, fetch}
use Rattle.rules.specs.Branches.{Branch}
use Rattle.rules.specs.Rules.{FunctionDerives}

-- the records of the row stand from o to the end of the bytes
pub data Chain (bytes : List ℕ) : Row → ℕ → Type 0 where
  chain_end : {o : ℕ} → o ≡ length bytes → fetch bytes o ≡ None → Chain bytes (end o) o
  chain_next : {o : ℕ} {r : Record} {rest : Row} → fetch bytes o ≡ Some r → Chain bytes rest (o + size r) → Chain bytes (next o r rest) o

-- from o to the end of the bytes stand these functions, each with its body, and perhaps type records between them
pub data Layout (bytes : List ℕ) (t : Tables) : ℕ → List FunctionEntry → Type 0 where
  layout_ends : {o : ℕ} → o ≡ length bytes → Layout bytes t o []
  layout_type : {o : ℕ} {fs : List FunctionEntry} (x : NodeType) → fetch bytes o ≡ Some (ListType x) → Layout bytes t (o + 4) fs → Layout bytes t o fs
  layout_function : {o e : ℕ} {fs : List FunctionEntry} (g : Signature) → fetch bytes o ≡ Some (Function g) → Branch (program bytes t) 0 (o + 11) e → Layout bytes t e fs →
      Layout bytes t o (record { signature = g; body = o + 11 } ∷ fs)

-- each of these functions derives
pub data Each (bytes : List ℕ) (t : Tables) : List FunctionEntry → Type 0 where
  each_none : Each bytes t []
  each_more : {f : FunctionEntry} {fs : List FunctionEntry} → FunctionDerives (program bytes t) f → Each bytes t fs → Each bytes t (f ∷ fs)
