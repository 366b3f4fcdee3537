use Rattle.std.proofs.Common.{◌<◌, sym, subst, arith, get_or-take}
use Rattle.std.proofs.lemmas.List.{length-take-le}
use Rattle.rules.specs.Limits.{slot_count}
use Rattle.inner.proofs.Passing.{padded_length, padded_at}
use Rattle.inner.proofs.kept.Inner.call.Goals as goal

pub used-requires : goal.used-requires
used-requires c =
    let n = c.args.function.signature.count in
    let k = c.loop-k.k in
    let more : k < n = omega (arith, length-take-le n c.args.slots (padded_length c.requires.slots), c.loop-k-test.true) in
    record { slot = subst (λ x. x < slot_count) (sym (get_or-take n c.args.slots k 0 more)) (padded_at c.requires.slots k more) }
