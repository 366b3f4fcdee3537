-- What the check finds of a step agrees with the form and the rules together.
use Rattle.std.proofs.Common.{◌≡◌, ℕ, ◌<◌, Bool, true, false, ltb, List, length, Some, Err, Result, refl, ltb-true, lt-ltb}
use Rattle.records.specs.declared.faults.Cause.{Cause}
use Rattle.records.specs.declared.kinds.Signature.{Signature}
use Rattle.records.specs.declared.kinds.Step.{Step as Action}
use Rattle.records.specs.declared.kinds.Step.TheVariants.{Const, Arith, Empty, Cons, Call, Return, Match, If}
use Rattle.records.specs.declared.kinds.Record.TheVariants.{Step}
use Rattle.rules.specs.declared.accounts.Account.{Account}
use Rattle.rules.specs.declared.findings.Finding.{Finding}
use Rattle.records.specs.declared.faults.Cause.TheVariants.{TooManyWaiting, BadField}
use Rattle.rules.specs.Limits.{slot_count, waiting_limit, op_count}
use Rattle.rules.specs.Types.{ElementsLower}
use Rattle.rules.specs.Programs.{Tables, program, signature_of}
use Rattle.rules.specs.Branches.{Forking, is_match, is_if, Fields}
use Rattle.rules.specs.Tests.{need, both, padded, is_list_type}
use Rattle.rules.specs.Findings.{has_room, fields_right, find_step, finding}
use Rattle.rules.proofs.Truth.{split, join}
use Rattle.rules.proofs.Numbered.{list_type_true, true_list_type, padded_true, true_padded}
use Rattle.rules.proofs.Ruled.{AccountDerives, Ruled}
use Rattle.rules.proofs.Straights.{ruled_const, ruled_arith, ruled_empty, ruled_cons}
use Rattle.rules.proofs.Calls.{ruled_call}
use Rattle.rules.proofs.Turnings.{ruled_return, ruled_match, ruled_if}

module _ (bytes : List ℕ) (t : Tables) where
  -- the test on fields is true exactly where the fields are in their ranges
  pub fields_true : (s : Action) → fields_right t s ≡ true → Fields (program bytes t) s
  fields_true (Const d n) e = ltb-true d slot_count e
  fields_true (Arith d op a b) e =
      let k = split (ltb d slot_count) (both (ltb op op_count) (both (ltb a slot_count) (ltb b slot_count))) e in
      let k₂ = split (ltb op op_count) (both (ltb a slot_count) (ltb b slot_count)) k.1 in
      let k₃ = split (ltb a slot_count) (ltb b slot_count) k₂.1 in
      (ltb-true d slot_count k.0, ltb-true op op_count k₂.0, ltb-true a slot_count k₃.0, ltb-true b slot_count k₃.1)
  fields_true (Empty d u) e =
      let k = split (ltb d slot_count) (is_list_type t.types u) e in (ltb-true d slot_count k.0, list_type_true t.types u k.1)
  fields_true (Cons d u h l) e =
      let k = split (ltb d slot_count) (both (is_list_type t.types u) (both (ltb h slot_count) (ltb l slot_count))) e in
      let k₂ = split (is_list_type t.types u) (both (ltb h slot_count) (ltb l slot_count)) k.1 in
      let k₃ = split (ltb h slot_count) (ltb l slot_count) k₂.1 in
      (ltb-true d slot_count k.0, list_type_true t.types u k₂.0, ltb-true h slot_count k₃.0, ltb-true l slot_count k₃.1)
  fields_true (Call d f slots) e =
      let count = (signature_of t.functions f).count in
      let k = split (ltb d slot_count) (both (ltb f (length t.functions)) (padded slot_count count slots)) e in
      let k₂ = split (ltb f (length t.functions)) (padded slot_count count slots) k.1 in
      (ltb-true d slot_count k.0, ltb-true f (length t.functions) k₂.0, padded_true slot_count count slots k₂.1)
  fields_true (Return a) e = ltb-true a slot_count e
  fields_true (Match a h l second) e =
      let k = split (ltb a slot_count) (both (ltb h slot_count) (ltb l slot_count)) e in
      let k₂ = split (ltb h slot_count) (ltb l slot_count) k.1 in
      (ltb-true a slot_count k.0, ltb-true h slot_count k₂.0, ltb-true l slot_count k₂.1)
  fields_true (If a second) e = ltb-true a slot_count e

  true_fields : (s : Action) → Fields (program bytes t) s → fields_right t s ≡ true
  true_fields (Const d n) f = lt-ltb d slot_count f
  true_fields (Arith d op a b) f = join (lt-ltb d slot_count f.0) (join (lt-ltb op op_count f.1) (join (lt-ltb a slot_count f.2) (lt-ltb b slot_count f.3)))
  true_fields (Empty d u) f = join (lt-ltb d slot_count f.0) (true_list_type f.1)
  true_fields (Cons d u h l) f = join (lt-ltb d slot_count f.0) (join (true_list_type f.1) (join (lt-ltb h slot_count f.2) (lt-ltb l slot_count f.3)))
  true_fields (Call d f slots) k = join (lt-ltb d slot_count k.0) (join (lt-ltb f (length t.functions) k.1) (true_padded k.2))
  true_fields (Return a) f = lt-ltb a slot_count f
  true_fields (Match a h l second) f = join (lt-ltb a slot_count f.0) (join (lt-ltb h slot_count f.1) (lt-ltb l slot_count f.2))
  true_fields (If a second) f = lt-ltb a slot_count f

  -- a step whose second branch, if it has one, finds room
  abbrev pub Room : ℕ → Action → Type 0
  Room waiting s = (second : ℕ) → Forking s second → waiting < waiting_limit

  room_true : (waiting : ℕ) {s : Action} {second : ℕ} → has_room waiting s ≡ true → Forking s second → waiting < waiting_limit
  room_true waiting e is_match = ltb-true waiting waiting_limit e
  room_true waiting e is_if = ltb-true waiting waiting_limit e

  true_room : (waiting : ℕ) (s : Action) → Room waiting s → has_room waiting s ≡ true
  true_room waiting (Match a h l second) r = lt-ltb waiting waiting_limit (r second is_match)
  true_room waiting (If a second) r = lt-ltb waiting waiting_limit (r second is_if)
  true_room waiting (Const d n) r = refl
  true_room waiting (Arith d op a b) r = refl
  true_room waiting (Empty d u) r = refl
  true_room waiting (Cons d u h l) r = refl
  true_room waiting (Call d g slots) r = refl
  true_room waiting (Return a) r = refl

  module _ (g : Signature) (lower : ElementsLower t.types) where
    ruled : (c : Account) (o : ℕ) (s : Action) → Fields (program bytes t) s → Ruled bytes t g c o s (find_step t g c s)
    ruled c o (Const d n) f = ruled_const bytes t g c o d n
    ruled c o (Arith d op a b) f = ruled_arith bytes t g c o d op a b
    ruled c o (Empty d u) f = ruled_empty bytes t g lower c o d u f.1.positive
    ruled c o (Cons d u h l) f = ruled_cons bytes t g lower c o d u h l f.1.positive
    ruled c o (Call d k slots) f = ruled_call bytes t g lower c o d k slots
    ruled c o (Return a) f = ruled_return bytes t g c o a
    ruled c o (Match a h l second) f = ruled_match bytes t g lower c o a h l second
    ruled c o (If a second) f = ruled_if bytes t g c o a second

    -- A finding agrees with form and rules for the step s at o, where so many second branches wait.
    pub data Found (waiting : ℕ) (c : Account) (o : ℕ) (s : Action) : Result Finding Cause → Type 0 where
      found_broken : {cause : Cause} → (Room waiting s → Fields (program bytes t) s → AccountDerives bytes t g c o (Some (Step s)) → ⊥) →
          Found waiting c o s (Err cause)
      found : {v : Result Finding Cause} → Room waiting s → Fields (program bytes t) s → Ruled bytes t g c o s v → Found waiting c o s v

    with_fields : (waiting : ℕ) (c : Account) (o : ℕ) (s : Action) (v : Result Finding Cause) → Room waiting s →
        (Fields (program bytes t) s → Ruled bytes t g c o s v) → (b : Bool) → fields_right t s ≡ b → Found waiting c o s (need BadField b v)
    with_fields waiting c o s v room rule true e = found room (fields_true s e) (rule (fields_true s e))
    with_fields waiting c o s v room rule false e = found_broken (λ _ f r. let k = true_fields s f in cc)

    with_room : (waiting : ℕ) (c : Account) (o : ℕ) (s : Action) (v : Result Finding Cause) → (Fields (program bytes t) s → Ruled bytes t g c o s v) →
        (b : Bool) → has_room waiting s ≡ b → Found waiting c o s (need TooManyWaiting b (need BadField (fields_right t s) v))
    with_room waiting c o s v rule true e = with_fields waiting c o s v (λ second f. room_true waiting e f) rule (fields_right t s) refl
    with_room waiting c o s v rule false e = found_broken (λ r _ _. let k = true_room waiting s r in cc)

    pub found_of : (waiting : ℕ) (c : Account) (o : ℕ) (s : Action) → Found waiting c o s (finding t g waiting c s)
    found_of waiting c o s = with_room waiting c o s (find_step t g c s) (ruled c o s) (has_room waiting s) refl
