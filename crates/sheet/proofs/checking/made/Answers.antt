use Rattle.std.proofs.Common.{◌≡◌, ◌<◌, ◌≤◌, length, sym, subst}
use Rattle.std.specs.Result.{MatchResult}
use Rattle.rules.proofs.Holds.{check_accepts_what_the_rules_derive}
use Rattle.sheet.specs.Held.{tables_of}
use Rattle.sheet.specs.Invariant.{IsLawful}
use Rattle.sheet.proofs.checking.made.Goals as goal

pub invariant_of-result : goal.invariant_of-result
invariant_of-result c =
    let l = (check_accepts_what_the_rules_derive c.args.bytes.now (tables_of c.in_ok-tables.tables)).0 (sym c.in_ok-tables.ensures) in
    let m = subst (λ r. MatchResult r (λ v. (v.items ≡ c.args.bytes.now) × (length c.args.bytes.now ≤ 4096)) (λ _. 4096 < length c.args.bytes.now)) c.unwrap-copy.ensures c.try_from.ensures in
    record { lawful = subst (λ bytes. IsLawful bytes c.in_ok-tables.tables) (sym m.0) ∣ l ∣₁ }
