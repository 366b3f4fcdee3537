-- What covering says of values, and of what they bring along.
use Rattle.std.proofs.Common.{◌≤◌, arith}
use Rattle.rules.specs.Types.{Ty, number, list, Covers, number_covers, list_covers}
use Rattle.plain.specs.Values.{Value, potential, HasType, is_num, is_empty, is_node}

-- a value of a type has every type that it covers, and brings no more along there
pub covered : {s t : Ty} {v : Value} → HasType s v → Covers s t → HasType t v × (potential t v ≤ potential s v)
covered is_num number_covers = (is_num, omega arith)
covered is_empty (list_covers h c) = (is_empty, omega arith)
covered (is_node x y) (list_covers h c) =
    let p = covered x c in
    let q = covered y (list_covers h c) in
    (is_node p.0 q.0, omega arith)

pub covers_itself : (t : Ty) → Covers t t
covers_itself number = number_covers
covers_itself (list e a) = list_covers (omega arith) (covers_itself e)
