-- The examples, by computation.
use Rattle.std.proofs.Common.{refl}
use Rattle.plain.specs.Examples.{none_left, one_holds, ExamplesHold}

pub examples_hold : ExamplesHold
examples_hold =
    one_holds refl (one_holds refl (one_holds refl (one_holds refl (one_holds refl (one_holds refl (one_holds refl (one_holds refl
    (one_holds refl (one_holds refl (one_holds refl (one_holds refl (one_holds refl (one_holds refl none_left)))))))))))))
