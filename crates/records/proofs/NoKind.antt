-- Bytes behind a byte that begins no kind of record are cut to nothing.
use Rattle.std.proofs.Common.{◌≡◌, ℕ, ◌≢◌, cond, eqb, sym, ◌∙◌}
use Rattle.records.specs.declared.layouts.Kind.{Kind}
use Rattle.records.specs.declared.layouts.Kind.TheVariants.{ListType, Function, Const, Arith, Empty, Cons, Call, Return, Match, If}
use Rattle.records.specs.Kinds.{kind_byte}
use Rattle.records.proofs.Known.{Unknown, skip}

pub of_no_kind : (byte : ℕ) → ((kind : Kind) → kind_byte kind ≢ byte) → Unknown byte
of_no_kind byte none body at =
    not ListType _ _ ∙ not Function _ _ ∙ not Const _ _ ∙ not Arith _ _ ∙ not Empty _ _
    ∙ not Cons _ _ ∙ not Call _ _ ∙ not Return _ _ ∙ not Match _ _ ∙ not If _ _
  where
    not : {X : Type 0} (kind : Kind) (x y : X) → cond (eqb byte (kind_byte kind)) x y ≡ y
    not kind x y = skip byte (kind_byte kind) x y (λ e. none kind (sym e))
