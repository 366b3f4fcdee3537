use Rattle.std.proofs.Common.{◌≡◌, ◌<◌, ◌&&◌, Bool, true, false, subst, refl, rules, All}
use Rattle.std.proofs.lemmas.List.Elements.{All-tail}
use Rattle.rules.specs.Limits.{slot_count}
use Rattle.rules.specs.Tests.{both}
use Rattle.sheet.proofs.branch.Branch.pass.Goals as goal

both_assoc : (a b c : Bool) → both (a && b) c ≡ both a (both b c)
both_assoc true b c = refl
both_assoc false b c = refl

pub loop-i-preserved : goal.loop-i-preserved
loop-i-preserved c =
    let k = c.loop-i.invariant in
    let s = c.in-Some.ensures.steps in
    let a = k.inside in
    let b = c.slot_covers-covering.ensures in
    let e = k.covering in
    let u = c.in_ok-slot.ensures.answer in
    let v = c.in_ok-slot.ensures.after in
    record {
      as_many = search rules;
      inside = All-tail (λ i. i < slot_count) c.in-Some.i.now c.next.new.self.a.rest.now (subst (All (λ i. i < slot_count)) s.0 a);
      filled = search rules;
      covering = rw both_assoc (search rules);
      behind = search rules;
    }
