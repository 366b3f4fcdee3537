-- What is still to be passed from here comes to what was to be passed at the start.
use Rattle.std.proofs.Common.{◌≡◌, length, drop}
use Rattle.rules.specs.Limits.{slot_count}
use Rattle.standing.specs.Stepping.{moved_out, left_behind, starting_words}
use Rattle.inner.specs.Changes.{with_slots}
use Rattle.inner.proofs.Passing.{passed}
use Rattle.inner.proofs.kept.Inner.call.Given as goal

abbrev pub invariant-loop-k : goal.invariant-loop-k
invariant-loop-k l =
    let i = l.initial.self in
    let S = l.self.frame.slots in
    record {
      inner : l.self ≡ with_slots i S;
      wide : length l.arguments ≡ slot_count;
      passed_on : passed S l.k (drop l.k l.slot-items) l.arguments ≡ starting_words (moved_out i.frame.slots l.slot-items);
      left : left_behind S (drop l.k l.slot-items) ≡ left_behind i.frame.slots l.slot-items;
    }
