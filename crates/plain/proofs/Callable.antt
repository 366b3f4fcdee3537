-- The functions of a lawful sheet may be called.
use Rattle.std.proofs.Common.{ℕ, zero, suc, ◌≤◌, List, [], ◌∷◌, map, length, take, arith}
use Rattle.rules.specs.Types.{type_of}
use Rattle.rules.specs.Programs.{Tables, program, signature_of}
use Rattle.rules.specs.Lawful.{Lawful}
use Rattle.rules.proofs.Reached.{function_branch}
use Rattle.plain.proofs.CallSteps.{AllCallable}

taken_few : {X Y : Type 0} (g : X → Y) (n : ℕ) (xs : List X) → length (map g (take n xs)) ≤ n
taken_few g zero xs = omega arith
taken_few g (suc n) [] = omega arith
taken_few g (suc n) (x ∷ xs) = let k = taken_few g n xs in omega arith

pub all_callable : {bytes : List ℕ} {t : Tables} → Lawful bytes t → AllCallable (program bytes t)
all_callable {bytes} {t} lawful f h =
    let body = function_branch (program bytes t) lawful.form.functions f h in
    let signed = lawful.form.signed f h in
    let g = signature_of t.functions f in
    let few = taken_few (type_of t.types) g.count g.params in
    let limit = signed.few in
    record {
      few = omega arith;
      continues = record { waiting = 0; end = body.0; branch = body.1; derives = lawful.derives f h };
    }
