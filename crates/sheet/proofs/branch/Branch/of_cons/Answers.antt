use Rattle.std.proofs.Common.{◌≡◌, Bool, true, false, Ok, Err, Result, rules}
use Rattle.std.proofs.lemmas.Result.{err_from_is_err_and}
use Rattle.records.specs.declared.faults.Cause.{Cause}
use Rattle.records.specs.declared.faults.Cause.TheVariants.{BadField, EmptySlot, WrongType}
use Rattle.records.specs.declared.kinds.Step.TheVariants.{Cons}
use Rattle.rules.specs.Tests.{need}
use Rattle.rules.specs.Findings.{fields_right}
use Rattle.rules.specs.Types.{type_record}
use Rattle.sheet.specs.Held.{tables_of, types_of}
use Rattle.sheet.proofs.branch.Branch.of_cons.Goals as goal

-- a cause that is found by two tests is found whatever comes behind them, where the test before them holds
found_first : {A : Type 0} (b₀ b₁ b₂ : Bool) (x : Cause) (rest : Result A Cause) → b₀ ≡ true →
    Err x ≡ need EmptySlot b₁ (need {A = Unit {0}} WrongType b₂ (Ok tt)) → Err x ≡ need BadField b₀ (need EmptySlot b₁ (need WrongType b₂ rest))
found_first true true true x rest h e = cc
found_first true true false x rest h e = cc
found_first true false b₂ x rest h e = cc
found_first false b₁ b₂ x rest h e = cc

pub returns-in_err-use_two : goal.returns-in_err-use_two
returns-in_err-use_two c =
    let p = err_from_is_err_and c.from_residual-in_err-use_two.result c.from_residual-in_err-use_two.ensures.1 in
    let f : fields_right (tables_of c.args.self.now.tables.now) (Cons c.args.d c.args.t c.args.h c.args.l) ≡ true = search rules in
    let e : c.in_ok-list.list ≡ type_record (types_of c.args.self.now.tables.now) c.args.t = search rules in
    rw (p.1, p.2) (found_first _ _ _ _ _ f (rw (e, c.in_ok-h.ensures, c.in_ok-l.ensures) at c.in_err-use_two.ensures.answer))
