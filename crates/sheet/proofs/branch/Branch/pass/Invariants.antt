-- What the slots that are left will show, joined with what was found so far, is what all slots show.
use Rattle.std.proofs.Common.{◌≡◌, ◌<◌, All, length, take}
use Rattle.rules.specs.Limits.{slot_count}
use Rattle.rules.specs.Tests.{both}
use Rattle.rules.specs.Accounts.{all_filled, all_cover, after_uses}
use Rattle.sheet.specs.Held.{types_of}
use Rattle.sheet.proofs.branch.Branch.pass.Given as goal

abbrev pub invariant-loop-i : goal.invariant-loop-i
invariant-loop-i l =
    let slots = take l.callee.count l.slots in
    let params = take l.callee.count l.callee.params in
    let used = l.i-iterator.a.rest.now in
    let wanted = l.i-iterator.b.rest.now in
    let ts = types_of l.self.tables.now in
    record {
      as_many : length used ≡ length wanted;
      inside : All (λ i. i < slot_count) used;
      filled : all_filled l.account used ≡ all_filled l.self.account slots;
      covering : both l.covering (all_cover ts l.account used wanted) ≡ all_cover ts l.self.account slots params;
      behind : after_uses l.account used ≡ after_uses l.self.account slots;
    }
