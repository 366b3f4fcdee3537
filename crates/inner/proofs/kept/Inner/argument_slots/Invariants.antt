-- What is left to put into slots comes to what was to be put there at the start.
use Rattle.std.proofs.Common.{◌≡◌, map, length, drop}
use Rattle.rules.specs.Limits.{slot_count}
use Rattle.standing.specs.Stepping.{as_slot, moved_in, starting_words}
use Rattle.inner.proofs.kept.Inner.argument_slots.Given as goal

abbrev pub invariant-loop-k : goal.invariant-loop-k
invariant-loop-k l =
    record {
      wide : length l.slots ≡ slot_count;
      same : moved_in l.k (map (λ x. as_slot x.of x.word) (drop l.k l.input-items)) l.slots ≡ starting_words (map (λ x. as_slot x.of x.word) l.input-items);
    }
