-- What the check finds of one step: the tests stand in the order of their numbers, so that the smallest is given.
-- Rests on accounts.
use Rattle.std.specs.Prelude.{ℕ, ◌+◌, ◌-◌, Bool, true, not, List, length, take, Ok, Err, Result, ◌==◌, nat_le, nat_lt}
use Rattle.records.specs.declared.faults.Cause.{Cause}
use Rattle.records.specs.declared.faults.Cause.TheVariants.{TooManyWaiting, BadField, EmptySlot, WrongType, BadBinding, ListLeft, BalanceTooSmall}
use Rattle.records.specs.declared.kinds.NodeType.{NodeType}
use Rattle.records.specs.declared.kinds.Signature.{Signature}
use Rattle.records.specs.declared.kinds.Step.{Step as Action}
use Rattle.records.specs.declared.kinds.Step.TheVariants.{Const, Arith, Empty, Cons, Call, Return, Match, If}
use Rattle.rules.specs.declared.accounts.Slot.{Slot}
use Rattle.rules.specs.declared.accounts.Slot.TheVariants.{Vacant, Number, ListOf}
use Rattle.rules.specs.declared.accounts.Account.{Account}
use Rattle.rules.specs.declared.findings.Finding.{Finding}
use Rattle.rules.specs.declared.findings.Finding.TheVariants.{Onward, Forks, Ends}
use Rattle.rules.specs.Limits.{slot_count, waiting_limit, op_count}
use Rattle.rules.specs.Types.{type_record}
use Rattle.rules.specs.Programs.{Tables, signature_of}
use Rattle.rules.specs.Tests.{need, both, padded, is_list_type}
use Rattle.rules.specs.Accounts.{slot_of, is_filled, slot_covers, slot_at, with_slot, with_balance, after_use, may_bind, any_list, all_filled, all_cover, after_uses}

-- whether a step's second branch finds room beside those that wait
abbrev pub has_room : ℕ → Action → Bool
has_room waiting (Const d n) = true
has_room waiting (Arith d op a b) = true
has_room waiting (Empty d t) = true
has_room waiting (Cons d t h l) = true
has_room waiting (Call d f slots) = true
has_room waiting (Return a) = true
has_room waiting (Match a h l second) = nat_lt waiting waiting_limit
has_room waiting (If a second) = nat_lt waiting waiting_limit

-- whether all fields of a step are in their ranges
abbrev pub fields_right : Tables → Action → Bool
fields_right t (Const d n) = nat_lt d slot_count
fields_right t (Arith d op a b) = both (nat_lt d slot_count) (both (nat_lt op op_count) (both (nat_lt a slot_count) (nat_lt b slot_count)))
fields_right t (Empty d u) = both (nat_lt d slot_count) (is_list_type t.types u)
fields_right t (Cons d u h l) = both (nat_lt d slot_count) (both (is_list_type t.types u) (both (nat_lt h slot_count) (nat_lt l slot_count)))
fields_right t (Call d f slots) = both (nat_lt d slot_count) (both (nat_lt f (length t.functions)) (padded slot_count (signature_of t.functions f).count slots))
fields_right t (Return a) = nat_lt a slot_count
fields_right t (Match a h l second) = both (nat_lt a slot_count) (both (nat_lt h slot_count) (nat_lt l slot_count))
fields_right t (If a second) = nat_lt a slot_count

-- Const binds d as Number
abbrev pub find_const : Account → ℕ → Result Finding Cause
find_const c d = need BadBinding (may_bind c d) (Ok (Onward (with_slot c d Number)))

-- Arith uses two Numbers and binds d as Number
abbrev pub find_arith : List NodeType → Account → ℕ → ℕ → ℕ → Result Finding Cause
find_arith ts c d a b =
    need EmptySlot (both (is_filled (slot_at c a)) (is_filled (slot_at (after_use c a) b)))
    (need WrongType (both (slot_covers ts (slot_at c a) 0) (slot_covers ts (slot_at (after_use c a) b) 0))
    (need BadBinding (may_bind (after_use (after_use c a) b) d)
    (Ok (Onward (with_slot (after_use (after_use c a) b) d Number)))))

-- Empty puts an empty list of type t into d
abbrev pub find_empty : Account → ℕ → ℕ → Result Finding Cause
find_empty c d t = need BadBinding (may_bind c d) (Ok (Onward (with_slot c d (ListOf t))))

-- what a node of the list type with number t costs, and gives back
abbrev pub node_cost : List NodeType → ℕ → ℕ
node_cost ts t = 1 + (type_record ts t).amount

-- Cons uses a head and a tail, pays for the node, and binds d as the list type t
abbrev pub find_cons : List NodeType → Account → ℕ → ℕ → ℕ → ℕ → Result Finding Cause
find_cons ts c d t h l =
    need EmptySlot (both (is_filled (slot_at c h)) (is_filled (slot_at (after_use c h) l)))
    (need WrongType (both (slot_covers ts (slot_at c h) (type_record ts t).element) (slot_covers ts (slot_at (after_use c h) l) t))
    (need BadBinding (may_bind (after_use (after_use c h) l) d)
    (need BalanceTooSmall (nat_le (node_cost ts t) c.balance)
    (Ok (Onward (with_slot (with_balance (after_use (after_use c h) l) (c.balance - node_cost ts t)) d (ListOf t)))))))

-- a call of g with these slots
abbrev pub find_call : List NodeType → Signature → Account → ℕ → List ℕ → Result Finding Cause
find_call ts g c d is =
    need EmptySlot (all_filled c is)
    (need WrongType (all_cover ts c is (take g.count g.params))
    (need BadBinding (may_bind (after_uses c is) d)
    (need BalanceTooSmall (nat_le g.entry c.balance)
    (Ok (Onward (with_slot (with_balance (after_uses c is) (c.balance - g.entry + g.remainder)) d (slot_of g.result)))))))

-- the end of a branch of g
abbrev pub find_return : List NodeType → Signature → Account → ℕ → Result Finding Cause
find_return ts g c a =
    need EmptySlot (is_filled (slot_at c a))
    (need WrongType (slot_covers ts (slot_at c a) g.result)
    (need ListLeft (not (any_list (after_use c a).slots))
    (need BalanceTooSmall (nat_le g.remainder c.balance) (Ok Ends))))

-- a Match whose list stood in a slot of this sort; c is the account after its use
abbrev pub find_opened : List NodeType → Slot → Account → ℕ → ℕ → ℕ → Result Finding Cause
find_opened ts Vacant c h l second = Err EmptySlot
find_opened ts Number c h l second = Err WrongType
find_opened ts (ListOf t) c h l second =
    need BadBinding (both (not (h == l)) (both (may_bind c h) (may_bind c l)))
    (Ok (Forks c second (with_slot (with_slot (with_balance c (c.balance + node_cost ts t)) h (slot_of (type_record ts t).element)) l (ListOf t))))

-- If uses a Number, and both branches start alike
abbrev pub find_if : List NodeType → Account → ℕ → ℕ → Result Finding Cause
find_if ts c a second =
    need EmptySlot (is_filled (slot_at c a)) (need WrongType (slot_covers ts (slot_at c a) 0) (Ok (Forks (after_use c a) second (after_use c a))))

-- a step whose fields are right, in a body of g
abbrev pub find_step : Tables → Signature → Account → Action → Result Finding Cause
find_step t g c (Const d n) = find_const c d
find_step t g c (Arith d op a b) = find_arith t.types c d a b
find_step t g c (Empty d u) = find_empty c d u
find_step t g c (Cons d u h l) = find_cons t.types c d u h l
find_step t g c (Call d f slots) = find_call t.types (signature_of t.functions f) c d (take (signature_of t.functions f).count slots)
find_step t g c (Return a) = find_return t.types g c a
find_step t g c (Match a h l second) = find_opened t.types (slot_at c a) (after_use c a) h l second
find_step t g c (If a second) = find_if t.types c a second

-- what the check finds of a step, in a body of g, where so many second branches wait
abbrev pub finding : Tables → Signature → ℕ → Account → Action → Result Finding Cause
finding t g waiting c s = need TooManyWaiting (has_room waiting s) (need BadField (fields_right t s) (find_step t g c s))
