-- The bodies of a sheet's functions as trees, with no offsets and no types; and which tree stands in a sheet, the one place that
-- ties the trees to its bytes. Rests on what stands at an offset.
use Rattle.std.specs.Prelude.{ℕ, ◌+◌, ◌<◌, List, [], ◌∷◌, length, take, Some, Option, slice_index_or}
use Rattle.records.specs.declared.kinds.Step.TheVariants.{Const, Arith, Empty, Cons, Call, Return, Match, If}
use Rattle.records.specs.declared.kinds.Record.{Record}
use Rattle.records.specs.declared.kinds.Record.TheVariants.{Step}
use Rattle.rules.specs.declared.functions.FunctionEntry.{FunctionEntry}
use Rattle.rules.specs.Programs.{Program, signature_of}

-- A body: it lets a slot be something and goes on, it answers, or it goes on in one of two ways. d, a, b, h and l name slots.
pub data Body : Type 0 where
  -- let d be the number n
  let_const : (d n : ℕ) → Body → Body
  -- let d be the operation op of a and b
  let_arith : (d op a b : ℕ) → Body → Body
  -- let d be the empty list
  let_empty : (d : ℕ) → Body → Body
  -- let d be the node of the head h and the tail l
  let_cons : (d h l : ℕ) → Body → Body
  -- let d be function f of these slots
  let_call : (d f : ℕ) (slots : List ℕ) → Body → Body
  -- answer a
  return : (a : ℕ) → Body
  -- if a is the empty list, the first body; if it is a node, the second, with its head in h and its tail in l
  match : (a h l : ℕ) → Body → Body → Body
  -- the first body unless a is 0, and then the second
  if : (a : ℕ) → Body → Body → Body

-- Stands p o r x: from the record r at the offset o on, the body x stands in the sheet. What comes behind a step is what is
-- fetched there; of the slots of a Call, those count that the function has parameters for.
pub data Stands (p : Program) : ℕ → Option Record → Body → Type 0 where
  const_stands : {o d n : ℕ} {x : Body} →
      Stands p (o + 6) (p.fetched (o + 6)) x →
      Stands p o (Some (Step (Const d n))) (let_const d n x)
  arith_stands : {o d op a b : ℕ} {x : Body} →
      Stands p (o + 5) (p.fetched (o + 5)) x →
      Stands p o (Some (Step (Arith d op a b))) (let_arith d op a b x)
  empty_stands : {o d t : ℕ} {x : Body} →
      Stands p (o + 3) (p.fetched (o + 3)) x →
      Stands p o (Some (Step (Empty d t))) (let_empty d x)
  cons_stands : {o d t h l : ℕ} {x : Body} →
      Stands p (o + 5) (p.fetched (o + 5)) x →
      Stands p o (Some (Step (Cons d t h l))) (let_cons d h l x)
  call_stands : {o d f : ℕ} {slots : List ℕ} {x : Body} →
      f < length p.functions →
      Stands p (o + 7) (p.fetched (o + 7)) x →
      Stands p o (Some (Step (Call d f slots))) (let_call d f (take (signature_of p.functions f).count slots) x)
  return_stands : {o a : ℕ} →
      Stands p o (Some (Step (Return a))) (return a)
  match_stands : {o a h l second : ℕ} {x y : Body} →
      Stands p (o + 6) (p.fetched (o + 6)) x →
      Stands p second (p.fetched second) y →
      Stands p o (Some (Step (Match a h l second))) (match a h l x y)
  if_stands : {o a second : ℕ} {x y : Body} →
      Stands p (o + 4) (p.fetched (o + 4)) x →
      Stands p second (p.fetched second) y →
      Stands p o (Some (Step (If a second))) (if a x y)

-- the bodies of these functions, in their order
pub data Bodies (p : Program) : List FunctionEntry → List Body → Type 0 where
  no_bodies : Bodies p [] []
  one_body : {g : FunctionEntry} {gs : List FunctionEntry} {x : Body} {xs : List Body} → Stands p g.body (p.fetched g.body) x → Bodies p gs xs →
      Bodies p (g ∷ gs) (x ∷ xs)

-- what stands for the body of a function that a sheet does not have; no sheet of the right form calls one
abbrev pub no_body : Body
no_body = return 0

-- the body of function f
abbrev pub body_of : List Body → ℕ → Body
body_of xs f = slice_index_or xs f no_body
