-- The annotated typing rules. A balance is what a branch may still spend; making a node costs 1 and the amount of its list
-- type, and taking one apart gives them back. Rests on contexts.
use Rattle.std.specs.Prelude.{◌≡◌, ℕ, ◌+◌, ◌-◌, ◌≤◌, List, map, take, Some, Option, ◌≢◌}
use Rattle.records.specs.declared.kinds.NodeType.{NodeType}
use Rattle.records.specs.declared.kinds.Signature.{Signature}
use Rattle.records.specs.declared.kinds.Step.TheVariants.{Const, Arith, Empty, Cons, Call, Return, Match, If}
use Rattle.records.specs.declared.kinds.Record.{Record}
use Rattle.records.specs.declared.kinds.Record.TheVariants.{Step}
use Rattle.rules.specs.declared.functions.FunctionEntry.{FunctionEntry}
use Rattle.rules.specs.Types.{Ty, number, list, type_of}
use Rattle.rules.specs.Programs.{Program, signature_of}
use Rattle.rules.specs.Contexts.{Context, in_slot, used, bound, Uses, Binds, Passes, NoLists, starting}

-- the types of a function's parameters
abbrev pub parameters : List NodeType → Signature → List Ty
parameters ts g = map (type_of ts) (take g.count g.params)

-- Derives p A m Γ b o r: from the record r at the offset o on, in the context Γ and with the balance b, a branch answers a value
-- of type A and leaves at least m. What comes behind a step is what is fetched there.
pub data Derives (p : Program) (A : Ty) (m : ℕ) : Context → ℕ → ℕ → Option Record → Type 0 where
  -- Const: a Number goes into d.
  derive_const : {Γ : Context} {b o d n : ℕ} →
      Binds Γ d →
      Derives p A m (bound Γ d number) b (o + 6) (p.fetched (o + 6)) →
      Derives p A m Γ b o (Some (Step (Const d n)))
  -- Arith: two Numbers are used, and one goes into d.
  derive_arith : {Γ : Context} {b o d op x y : ℕ} →
      Uses Γ x number →
      Uses (used Γ x) y number →
      Binds (used (used Γ x) y) d →
      Derives p A m (bound (used (used Γ x) y) d number) b (o + 5) (p.fetched (o + 5)) →
      Derives p A m Γ b o (Some (Step (Arith d op x y)))
  -- Empty: a list of type t without nodes goes into d. It costs nothing.
  derive_empty : {Γ : Context} {b o d t a : ℕ} {e : Ty} →
      type_of p.types t ≡ list e a →
      Binds Γ d →
      Derives p A m (bound Γ d (list e a)) b (o + 3) (p.fetched (o + 3)) →
      Derives p A m Γ b o (Some (Step (Empty d t)))
  -- Cons: the head fits the elements of t, and the tail fits t. The balance pays for the cell of the new node and for what each
  -- node of t brings along.
  derive_cons : {Γ : Context} {b o d t h l a : ℕ} {e : Ty} →
      type_of p.types t ≡ list e a →
      Uses Γ h e →
      Uses (used Γ h) l (list e a) →
      Binds (used (used Γ h) l) d →
      1 + a ≤ b →
      Derives p A m (bound (used (used Γ h) l) d (list e a)) (b - (1 + a)) (o + 5) (p.fetched (o + 5)) →
      Derives p A m Γ b o (Some (Step (Cons d t h l)))
  -- Call: each argument fits its parameter. What the function asks at entry is paid before what it leaves is gained.
  derive_call : {Γ Δ : Context} {b o d f : ℕ} {slots : List ℕ} (g : Signature) →
      signature_of p.functions f ≡ g →
      Passes Γ (take g.count slots) (parameters p.types g) Δ →
      Binds Δ d →
      g.entry ≤ b →
      Derives p A m (bound Δ d (type_of p.types g.result)) (b - g.entry + g.remainder) (o + 7) (p.fetched (o + 7)) →
      Derives p A m Γ b o (Some (Step (Call d f slots)))
  -- Return: the result fits the result type. Every list has been used, and enough is left for the remainder.
  derive_return : {Γ : Context} {b o a : ℕ} →
      Uses Γ a A →
      NoLists (used Γ a) →
      m ≤ b →
      Derives p A m Γ b o (Some (Step (Return a)))
  -- Match: where the list has a node, the second branch gets its two parts, the cell of the node, and what the node brought along.
  -- The first branch, where it has none, starts with nothing more.
  derive_match : {Γ : Context} {b o a h l second n : ℕ} {e : Ty} →
      in_slot Γ a ≡ Some (list e n) →
      (h ≢ l) →
      Binds (used Γ a) h →
      Binds (used Γ a) l →
      Derives p A m (used Γ a) b (o + 6) (p.fetched (o + 6)) →
      Derives p A m (bound (bound (used Γ a) h e) l (list e n)) (b + (1 + n)) second (p.fetched second) →
      Derives p A m Γ b o (Some (Step (Match a h l second)))
  -- If: a Number is used, and either branch starts with what is left.
  derive_if : {Γ : Context} {b o a second : ℕ} →
      Uses Γ a number →
      Derives p A m (used Γ a) b (o + 4) (p.fetched (o + 4)) →
      Derives p A m (used Γ a) b second (p.fetched second) →
      Derives p A m Γ b o (Some (Step (If a second)))

-- a function derives at its stated amounts
abbrev pub FunctionDerives : Program → FunctionEntry → Type 0
FunctionDerives p f =
    Derives p (type_of p.types f.signature.result) f.signature.remainder
    (starting (parameters p.types f.signature)) f.signature.entry f.body (p.fetched f.body)
