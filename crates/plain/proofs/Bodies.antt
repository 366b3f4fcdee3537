-- Every branch of a sheet is a body, and no other; so the functions of a sheet have their bodies.
use Rattle.std.proofs.Common.{◌≡◌, ℕ, zero, suc, ◌+◌, ◌<◌, List, [], ◌∷◌, length, get_or, Some, Option, sym, refl, subst, arith}
use Rattle.records.specs.declared.kinds.Step.{Step as Action}
use Rattle.records.specs.declared.kinds.Record.{Record}
use Rattle.records.specs.declared.kinds.Record.TheVariants.{Step}
use Rattle.records.specs.Writing.{step_size}
use Rattle.rules.specs.declared.functions.FunctionEntry.{FunctionEntry}
use Rattle.rules.specs.Programs.{Program, no_function}
use Rattle.rules.specs.Branches.{Straight, is_const, is_arith, is_empty, is_cons, is_call, Ending, is_return, Forking, is_match, is_if}
use Rattle.rules.specs.Branches.{Fields, Branch, step_then, ends_with, forks_with}
use Rattle.rules.specs.Form.{Functions, no_functions, function_then}
use Rattle.plain.specs.Bodies.{Body, Stands, const_stands, arith_stands, empty_stands, cons_stands, call_stands, return_stands, match_stands, if_stands}
use Rattle.plain.specs.Bodies.{Bodies, no_bodies, one_body, body_of}
use Rattle.plain.specs.Functional.{ASheetHasItsBodies}

module _ (p : Program) where
  -- the body that stands from a record on
  record Read (o : ℕ) (r : Option Record) : Type 0 where
    body : Body
    stands : Stands p o r body

  read : {o : ℕ} {r : Option Record} {x : Body} → Stands p o r x → Read o r
  read {x = x} stands = record { body = x; stands = stands }

  straight_read : {s : Action} (o : ℕ) → Straight s → Fields p s → Read (o + step_size s) (p.fetched (o + step_size s)) → Read o (Some (Step s))
  straight_read o is_const fields x = read (const_stands x.stands)
  straight_read o is_arith fields x = read (arith_stands x.stands)
  straight_read o is_empty fields x = read (empty_stands x.stands)
  straight_read o is_cons fields x = read (cons_stands x.stands)
  straight_read o is_call fields x = read (call_stands fields.1 x.stands)

  ending_read : {s : Action} (o : ℕ) → Ending s → Read o (Some (Step s))
  ending_read o is_return = read return_stands

  forking_read : {s : Action} {second : ℕ} (o : ℕ) → Forking s second → Read (o + step_size s) (p.fetched (o + step_size s)) →
      Read second (p.fetched second) → Read o (Some (Step s))
  forking_read o is_match x y = read (match_stands x.stands y.stands)
  forking_read o is_if x y = read (if_stands x.stands y.stands)

  branch_read : {w o e : ℕ} → Branch p w o e → Read o (p.fetched o)
  branch_read {o = o} (step_then s at straight fields rest) =
      subst (λ r. Read o r) (sym at) (straight_read o straight fields (branch_read rest))
  branch_read {o = o} (ends_with s at ending fields) = subst (λ r. Read o r) (sym at) (ending_read o ending)
  branch_read {o = o} (forks_with s at forking fields room first second) =
      subst (λ r. Read o r) (sym at) (forking_read o forking (branch_read first) (branch_read second))

  functions_read : {o e : ℕ} {gs : List FunctionEntry} → Functions p o gs e → (bodies : List Body) × Bodies p gs bodies
  functions_read no_functions = ([], no_bodies)
  functions_read (function_then g at branch rest) =
      let x = branch_read branch in
      let more = functions_read rest in
      (x.body ∷ more.0, one_body x.stands more.1)

  -- what stands there is one body
  stands_once : {o : ℕ} {r : Option Record} {x y : Body} → Stands p o r x → Stands p o r y → x ≡ y
  stands_once (const_stands x) (const_stands y) = let same = stands_once x y in cc
  stands_once (arith_stands x) (arith_stands y) = let same = stands_once x y in cc
  stands_once (empty_stands x) (empty_stands y) = let same = stands_once x y in cc
  stands_once (cons_stands x) (cons_stands y) = let same = stands_once x y in cc
  stands_once (call_stands known x) (call_stands also y) = let same = stands_once x y in cc
  stands_once return_stands return_stands = refl
  stands_once (match_stands x v) (match_stands y w) =
      let same = stands_once x y in
      let alike = stands_once v w in
      cc
  stands_once (if_stands x v) (if_stands y w) =
      let same = stands_once x y in
      let alike = stands_once v w in
      cc

  pub bodies_once : {gs : List FunctionEntry} {xs ys : List Body} → Bodies p gs xs → Bodies p gs ys → xs ≡ ys
  bodies_once no_bodies no_bodies = refl
  bodies_once (one_body x xs) (one_body y ys) =
      let same = stands_once x y in
      let alike = bodies_once xs ys in
      cc

  -- the body of function f stands where its record says
  pub body_stands : {gs : List FunctionEntry} {xs : List Body} → Bodies p gs xs → (f : ℕ) → f < length gs →
      Stands p (get_or gs f no_function).body (p.fetched (get_or gs f no_function).body) (body_of xs f)
  body_stands no_bodies f known = absurd (omega arith)
  body_stands (one_body x xs) zero known = x
  body_stands (one_body x xs) (suc f) known = body_stands xs f (omega arith)

pub a_sheet_has_its_bodies : ASheetHasItsBodies
a_sheet_has_its_bodies s lawful =
    let x = functions_read _ lawful.form.functions in
    record { bodies = x.0; stand = x.1; only = λ others stand. bodies_once _ stand x.1 }
