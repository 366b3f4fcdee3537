-- Arguments that are passed one after the other. Rests on what a Call does on words.
use Rattle.std.proofs.Common.{ℕ, zero, suc, ◌<◌, ◌≤◌, List, length, get_or, arith}
use Rattle.rules.specs.Branches.{Padded, no_fields, unused_field, used_field}
use Rattle.standing.specs.declared.frames.Slot.{Slot}
use Rattle.standing.specs.Stepping.{moved_out, moved_in}

-- as many fields are there as are used, and those are below the limit
pub padded_length : {limit n : ℕ} {xs : List ℕ} → Padded limit n xs → n ≤ length xs
padded_length no_fields = omega arith
padded_length (unused_field p) = omega arith
padded_length (used_field h p) = let r = padded_length p in omega arith

pub padded_at : {limit n : ℕ} {xs : List ℕ} → Padded limit n xs → (k : ℕ) → k < n → get_or xs k 0 < limit
padded_at no_fields k h = absurd (omega arith)
padded_at (unused_field p) k h = absurd (omega arith)
padded_at (used_field b p) zero h = b
padded_at (used_field b p) (suc k) h = padded_at p k (omega arith)

-- What is passed: the slots of the callee, from the place k on, and what the caller keeps.
abbrev pub passed : List Slot → ℕ → List ℕ → List Slot → List Slot
passed S k is A = moved_in k (moved_out S is) A
