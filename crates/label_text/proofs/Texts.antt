-- What a String that was made holds, put another way.
use Rattle.std.proofs.Common.{◌≡◌, ℕ, List, IfOk, Ok, Err, string_bytes, Result, String, ◌∙◌}
use Rattle.std.specs.declared.alloc.AllocError.{AllocError}
use Rattle.std.specs.declared.alloc.Global.{Global}

pub made_as : (r : Result (String Global) AllocError) (xs ys : List ℕ) → IfOk r (λ s. string_bytes s ≡ xs) → xs ≡ ys → IfOk r (λ s. string_bytes s ≡ ys)
made_as (Ok s) xs ys m e = m ∙ e
made_as (Err f) xs ys m e = tt
