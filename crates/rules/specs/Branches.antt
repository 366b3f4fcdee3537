-- The form of a function's body, apart from all types and amounts: its branches, and the ranges of the fields of its steps.
-- Rests on what stands at an offset.
use Rattle.std.specs.Prelude.{◌≡◌, ℕ, zero, suc, ◌+◌, ◌<◌, ◌≤◌, List, [], ◌∷◌, length, Some}
use Rattle.records.specs.declared.kinds.NodeType.{NodeType}
use Rattle.records.specs.declared.kinds.Step.{Step as Action}
use Rattle.records.specs.declared.kinds.Step.TheVariants.{Const, Arith, Empty, Cons, Call, Return, Match, If}
use Rattle.records.specs.declared.kinds.Record.TheVariants.{Step}
use Rattle.records.specs.Writing.{step_size}
use Rattle.rules.specs.Limits.{slot_count, waiting_limit, op_count, unused}
use Rattle.rules.specs.Programs.{Program, signature_of}

-- a step behind which its branch goes on
pub data Straight : Action → Type 0 where
  is_const : {d n : ℕ} → Straight (Const d n)
  is_arith : {d op a b : ℕ} → Straight (Arith d op a b)
  is_empty : {d t : ℕ} → Straight (Empty d t)
  is_cons : {d t h l : ℕ} → Straight (Cons d t h l)
  is_call : {d f : ℕ} {slots : List ℕ} → Straight (Call d f slots)

-- a step that ends its branch
pub data Ending : Action → Type 0 where
  is_return : {a : ℕ} → Ending (Return a)

-- a step that is followed by its first branch, with the offset of the second
pub data Forking : Action → ℕ → Type 0 where
  is_match : {a h l second : ℕ} → Forking (Match a h l second) second
  is_if : {a second : ℕ} → Forking (If a second) second

-- of these fields the first n are below the limit, and the others are FF
pub data Padded (limit : ℕ) : ℕ → List ℕ → Type 0 where
  no_fields : Padded limit zero []
  unused_field : {xs : List ℕ} → Padded limit zero xs → Padded limit zero (unused ∷ xs)
  used_field : {n x : ℕ} {xs : List ℕ} → x < limit → Padded limit n xs → Padded limit (suc n) (x ∷ xs)

-- t numbers a list type of the sheet
pub record ListType (ts : List NodeType) (t : ℕ) : Type 0 where
  pub positive : 0 < t
  pub known : t ≤ length ts

-- The ranges of a step's fields: slots below 16, the five operations, list types and functions that the sheet has, and as many
-- slots of a Call as the function has parameters. What a Match or If says of its second branch is a matter of the branches.
abbrev pub Fields : Program → Action → Type 0
Fields p (Const d n) = d < slot_count
Fields p (Arith d op a b) = (d < slot_count) × (op < op_count) × (a < slot_count) × (b < slot_count)
Fields p (Empty d t) = (d < slot_count) × ListType p.types t
Fields p (Cons d t h l) = (d < slot_count) × ListType p.types t × (h < slot_count) × (l < slot_count)
Fields p (Call d f slots) = (d < slot_count) × (f < length p.functions) × Padded slot_count (signature_of p.functions f).count slots
Fields p (Return a) = a < slot_count
Fields p (Match a h l second) = (a < slot_count) × (h < slot_count) × (l < slot_count)
Fields p (If a second) = a < slot_count

-- Branch p w o e: a branch reaches from the offset o to e, where w second branches wait as it begins. It is a step and then a
-- branch; a Return; or a Match or If, a first branch that ends at `second`, and a second branch from there.
pub data Branch (p : Program) : ℕ → ℕ → ℕ → Type 0 where
  step_then : {w o e : ℕ} (s : Action) → p.fetched o ≡ Some (Step s) → Straight s → Fields p s →
      Branch p w (o + step_size s) e → Branch p w o e
  ends_with : {w o : ℕ} (s : Action) → p.fetched o ≡ Some (Step s) → Ending s → Fields p s →
      Branch p w o (o + step_size s)
  forks_with : {w o e second : ℕ} (s : Action) → p.fetched o ≡ Some (Step s) → Forking s second → Fields p s → w < waiting_limit →
      Branch p (suc w) (o + step_size s) second → Branch p w second e → Branch p w o e
