-- The doubling sheet doubles.
use Rattle.std.proofs.Common.{[], ◌∷◌, refl, one-add, arith}
use Rattle.rules.specs.Programs.{Tables}
use Rattle.plain.specs.Values.{Value, nodes}
use Rattle.plain.specs.Funded.{Numbers, no_numbers, one_number}
use Rattle.plain.specs.Bodies.{empty_stands, cons_stands, call_stands, return_stands, match_stands, no_bodies, one_body}
use Rattle.plain.specs.Evaluation.{none_taken, one_taken, by_empty, by_cons, by_call, by_return, by_match_empty, by_match_node, Answers}
use Rattle.plain.specs.Functional.{BodiesOf}
use Rattle.plain.specs.Doubling.{doubling_body, each_twice, doubling_sheet, TheDoublingSheetDoubles}

doubles : {v : Value} → Numbers v → Answers (doubling_body ∷ []) (nodes v) 0 (v ∷ []) (each_twice v)
doubles no_numbers = by_match_empty refl (by_empty (by_return refl))
doubles (one_number {n = n} {l = l} more) =
    rw (one-add (nodes l))
    (by_match_node refl (by_call (one_taken refl none_taken) (doubles more) (by_cons refl refl (by_cons refl refl (by_return refl)))))

-- the tables that the verdict gives: a list type that brings one cell along, one that brings none, and the function between them
abbrev doubling_tables : Tables
doubling_tables =
    record {
      types = record { element = 0; amount = 1 } ∷ record { element = 0; amount = 0 } ∷ [];
      functions = record { signature = record { count = 1; params = 1 ∷ 255 ∷ 255 ∷ 255 ∷ []; result = 2; entry = 0; remainder = 0 }; body = 19 } ∷ [];
    }

stands : BodiesOf (doubling_sheet doubling_tables) (doubling_body ∷ [])
stands = one_body (match_stands (empty_stands return_stands) (call_stands (omega arith) (cons_stands (cons_stands return_stands)))) no_bodies

pub the_doubling_sheet_doubles : TheDoublingSheetDoubles
the_doubling_sheet_doubles =
    (doubling_tables, refl, stands, λ v numbers. record { bodies = doubling_body ∷ []; stand = stands; answers = doubles numbers })
