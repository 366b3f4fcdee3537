-- What a sheet has to be, as a whole. Rests on the form and the rules.
use Rattle.std.specs.Prelude.{ℕ, ◌<◌, List, length, slice_index_or}
use Rattle.rules.specs.Programs.{Tables, program, no_function}
use Rattle.rules.specs.Form.{Form}
use Rattle.rules.specs.Rules.{FunctionDerives}

-- The bytes have the form, with these tables, and the rules derive every function at its stated amounts.
pub record Lawful (bytes : List ℕ) (t : Tables) : Type 0 where
  pub form : Form bytes t
  pub derives : (f : ℕ) → f < length t.functions → FunctionDerives (program bytes t) (slice_index_or t.functions f no_function)
