-- What a cut says of the bytes it was made from; and the first round passes exactly the bytes that are a row of records.
use Rattle.std.proofs.Common.{◌≡◌, ℕ, zero, suc, ◌+◌, ◌≤◌, Bool, true, false, cond, eqb, ltb, List, [], ◌∷◌, length, drop, Some, None, Ok, Err, Option, sym, refl, ap, ◌∙◌, subst, arith, length-drop, ltb-false, le-ltb}
use Rattle.std.proofs.lemmas.List.{drop-drop, drop_all}
use Rattle.records.specs.declared.faults.Fault.{Fault}
use Rattle.records.specs.declared.faults.Cause.TheVariants.{TooLong, UnknownKind, CutShort}
use Rattle.records.specs.declared.kinds.Step.TheVariants.{Const, Arith, Empty, Cons, Call, Return, Match, If}
use Rattle.records.specs.declared.kinds.Record.{Record}
use Rattle.records.specs.declared.kinds.Record.TheVariants.{ListType, Function, Step}
use Rattle.records.specs.declared.rounds.Tally.{Tally}
use Rattle.records.specs.Writing.{size}
use Rattle.records.specs.Cutting.{Cutting, whole, byte, two_at, four_at, bytes_at, cut_kind, cut}
use Rattle.records.specs.Rows.{next, end, row}
use Rattle.records.specs.FirstRound.{counted, no_records, tallied, first_round}
use Rattle.records.proofs.Positive.{size_positive}
use Rattle.records.proofs.Rows.{row_of_cut, row_ends, row_breaks}
use Rattle.rules.specs.Limits.{byte_limit}
use Rattle.rules.specs.Programs.{record_in, fetch}
use Rattle.rules.proofs.Chains.{Chain, chain_end, chain_next}

-- a cut that moves no further than the bytes reach, and is not the end of them
data Within (n : ℕ) : Cutting → Type 0 where
  within_record : {r : Record} → size r ≤ n → Within n (Ok (Some r))
  within_fault : {f : Fault} → Within n (Err f)

whole_within : (xs : List ℕ) (place : ℕ) (r : Record) → Within (length xs) (whole xs place r)
whole_within xs place r = go (ltb (length xs) (size r)) refl
  where
    go : (b : Bool) → ltb (length xs) (size r) ≡ b → Within (length xs) (cond b (Err (record { cause = CutShort; place = place })) (Ok (Some r)))
    go true e = within_fault
    go false e = within_record (ltb-false (length xs) (size r) e)

either_within : {n : ℕ} {a b : Cutting} (test : Bool) → Within n a → Within n b → Within n (cond test a b)
either_within true h k = h
either_within false h k = k

kind_within : (kind : ℕ) (xs : List ℕ) (place : ℕ) → Within (length xs) (cut_kind kind xs place)
kind_within kind xs place =
    either_within (eqb kind 0x11) (whole_within xs place (ListType (record { element = byte xs 1; amount = two_at xs 2 })))
    (either_within (eqb kind 0x20) (whole_within xs place (Function (record { count = byte xs 1; params = bytes_at xs 2; result = byte xs 6; entry = two_at xs 7; remainder = two_at xs 9 })))
    (either_within (eqb kind 0x30) (whole_within xs place (Step (Const (byte xs 1) (four_at xs 2))))
    (either_within (eqb kind 0x31) (whole_within xs place (Step (Arith (byte xs 1) (byte xs 2) (byte xs 3) (byte xs 4))))
    (either_within (eqb kind 0x32) (whole_within xs place (Step (Empty (byte xs 1) (byte xs 2))))
    (either_within (eqb kind 0x33) (whole_within xs place (Step (Cons (byte xs 1) (byte xs 2) (byte xs 3) (byte xs 4))))
    (either_within (eqb kind 0x35) (whole_within xs place (Step (Call (byte xs 1) (byte xs 2) (bytes_at xs 3))))
    (either_within (eqb kind 0x40) (whole_within xs place (Step (Return (byte xs 1))))
    (either_within (eqb kind 0x41) (whole_within xs place (Step (Match (byte xs 1) (byte xs 2) (byte xs 3) (two_at xs 4))))
    (either_within (eqb kind 0x43) (whole_within xs place (Step (If (byte xs 1) (two_at xs 2)))) (within_fault {f = record { cause = UnknownKind; place = place }}))))))))))

record_fits : (n : ℕ) (v : Cutting) (r : Record) → Within n v → v ≡ Ok (Some r) → size r ≤ n
record_fits n v r (within_record {r = r₂} h) e = let same : r₂ ≡ r = cc in subst (λ x. size x ≤ n) same h
record_fits n v r within_fault e = cc

never_ends : (n : ℕ) (v : Cutting) → Within n v → v ≡ Ok None → ⊥
never_ends n v (within_record h) e = cc
never_ends n v within_fault e = cc

cut_fits : (xs : List ℕ) (place : ℕ) (r : Record) → cut xs place ≡ Ok (Some r) → size r ≤ length xs
cut_fits [] place r e = cc
cut_fits (kind ∷ body) place r e = record_fits (length (kind ∷ body)) _ r (kind_within kind (kind ∷ body) place) e

cut_ends : (xs : List ℕ) (place : ℕ) → cut xs place ≡ Ok None → length xs ≡ 0
cut_ends [] place e = refl
cut_ends (kind ∷ body) place e = absurd (never_ends (length (kind ∷ body)) _ (kind_within kind (kind ∷ body) place) e)

pub fetched_cut : (v : Cutting) (r : Record) → record_in v ≡ Some r → v ≡ Ok (Some r)
fetched_cut (Ok (Some r₂)) r e = let same : r₂ ≡ r = cc in ap (λ (x : Record). Ok (Some x)) same
fetched_cut (Ok None) r e = cc
fetched_cut (Err f) r e = cc

-- what is cut does not depend on the place that a fault would have
data Alike : Cutting → Cutting → Type 0 where
  alike_cut : {o : Option Record} → Alike (Ok o) (Ok o)
  alike_fault : {f g : Fault} → Alike (Err f) (Err g)

whole_alike : (xs : List ℕ) (p q : ℕ) (r : Record) → Alike (whole xs p r) (whole xs q r)
whole_alike xs p q r = go (ltb (length xs) (size r))
  where
    go : (b : Bool) → Alike (cond b (Err (record { cause = CutShort; place = p })) (Ok (Some r))) (cond b (Err (record { cause = CutShort; place = q })) (Ok (Some r)))
    go true = alike_fault
    go false = alike_cut

either_alike : {a a₂ b b₂ : Cutting} (test : Bool) → Alike a a₂ → Alike b b₂ → Alike (cond test a b) (cond test a₂ b₂)
either_alike true h k = h
either_alike false h k = k

kind_alike : (kind : ℕ) (xs : List ℕ) (p q : ℕ) → Alike (cut_kind kind xs p) (cut_kind kind xs q)
kind_alike kind xs p q =
    either_alike (eqb kind 0x11) (whole_alike xs p q (ListType (record { element = byte xs 1; amount = two_at xs 2 })))
    (either_alike (eqb kind 0x20) (whole_alike xs p q (Function (record { count = byte xs 1; params = bytes_at xs 2; result = byte xs 6; entry = two_at xs 7; remainder = two_at xs 9 })))
    (either_alike (eqb kind 0x30) (whole_alike xs p q (Step (Const (byte xs 1) (four_at xs 2))))
    (either_alike (eqb kind 0x31) (whole_alike xs p q (Step (Arith (byte xs 1) (byte xs 2) (byte xs 3) (byte xs 4))))
    (either_alike (eqb kind 0x32) (whole_alike xs p q (Step (Empty (byte xs 1) (byte xs 2))))
    (either_alike (eqb kind 0x33) (whole_alike xs p q (Step (Cons (byte xs 1) (byte xs 2) (byte xs 3) (byte xs 4))))
    (either_alike (eqb kind 0x35) (whole_alike xs p q (Step (Call (byte xs 1) (byte xs 2) (bytes_at xs 3))))
    (either_alike (eqb kind 0x40) (whole_alike xs p q (Step (Return (byte xs 1))))
    (either_alike (eqb kind 0x41) (whole_alike xs p q (Step (Match (byte xs 1) (byte xs 2) (byte xs 3) (two_at xs 4))))
    (either_alike (eqb kind 0x43) (whole_alike xs p q (Step (If (byte xs 1) (two_at xs 2)))) (alike_fault {f = record { cause = UnknownKind; place = p }} {g = record { cause = UnknownKind; place = q }}))))))))))

alike_record : {a b : Cutting} → Alike a b → record_in a ≡ record_in b
alike_record alike_cut = refl
alike_record alike_fault = refl

pub cut_anywhere : (xs : List ℕ) (p q : ℕ) → record_in (cut xs p) ≡ record_in (cut xs q)
cut_anywhere [] p q = refl
cut_anywhere (kind ∷ body) p q = alike_record (kind_alike kind (kind ∷ body) p q)

module _ (bytes : List ℕ) where
  -- a record that is fetched lies in the bytes
  pub fetch_fits : (o : ℕ) (r : Record) → fetch bytes o ≡ Some r → o + size r ≤ length bytes
  fetch_fits o r e =
      let c = fetched_cut (cut (drop o bytes) o) r e in
      let f = cut_fits (drop o bytes) o r c in
      let l = length-drop o bytes in
      let p = size_positive r in
      omega arith

  -- and nothing is fetched at their end
  pub fetch_end : (o : ℕ) → length bytes ≤ o → fetch bytes o ≡ None
  fetch_end o h = ap (λ xs. record_in (cut xs o)) (drop_all o bytes h)

  row_at : (o : ℕ) (r : Record) → cut (drop o bytes) o ≡ Ok (Some r) → row (drop o bytes) o ≡ next o r (row (drop (o + size r) bytes) (o + size r))
  row_at o r e = row_of_cut (drop o bytes) o r e (cut_fits (drop o bytes) o r e) ∙ ap (λ xs. next o r (row xs (o + size r))) (drop-drop (size r) o bytes)

  -- from o on the bytes are a row of records
  pub data Whole : ℕ → Type 0 where
    whole_end : {o : ℕ} → o ≡ length bytes → Whole o
    whole_next : {o : ℕ} (r : Record) → fetch bytes o ≡ Some r → Whole (o + size r) → Whole o

  row_end : (o : ℕ) → length bytes ≤ o → row (drop o bytes) o ≡ end o
  row_end o h = row_ends bytes bytes o refl (sym (ap (λ xs. cut xs o) (drop_all o bytes h)))

  pub whole_chain : {o : ℕ} → Whole o → Chain bytes (row (drop o bytes) o) o
  whole_chain (whole_end {o} z) = subst (λ r. Chain bytes r o) (sym (row_end o (omega arith))) (chain_end z (fetch_end o (omega arith)))
  whole_chain (whole_next {o} r f w) =
      subst (λ x. Chain bytes x o) (sym (row_at o r (fetched_cut (cut (drop o bytes) o) r f))) (chain_next f (whole_chain w))

  whole_tallied : {o : ℕ} → Whole o → (t : Tally) → (u : Tally) × (tallied (row (drop o bytes) o) t ≡ Ok u)
  whole_tallied (whole_end {o} z) t = (t, ap (λ r. tallied r t) (row_end o (omega arith)))
  whole_tallied (whole_next {o} r f w) t =
      let k = whole_tallied w (counted t r) in
      (k.0, ap (λ x. tallied x t) (row_at o r (fetched_cut (cut (drop o bytes) o) r f)) ∙ k.1)

  -- one look at the cut, with what is known behind a record
  tallied_cut : (o : ℕ) → o ≤ length bytes → (v : Cutting) → cut (drop o bytes) o ≡ v → (t u : Tally) → tallied (row (drop o bytes) o) t ≡ Ok u →
      ((r : Record) → fetch bytes o ≡ Some r → tallied (row (drop (o + size r) bytes) (o + size r)) (counted t r) ≡ Ok u → Whole (o + size r)) → Whole o
  tallied_cut o inside (Ok None) c t u e behind =
      let z = cut_ends (drop o bytes) o c in
      let l = length-drop o bytes in
      whole_end (omega arith)
  tallied_cut o inside (Ok (Some r)) c t u e behind =
      whole_next r (ap record_in c) (behind r (ap record_in c) (sym (ap (λ x. tallied x t) (row_at o r c)) ∙ e))
  tallied_cut o inside (Err f) c t u e behind = let q = ap (λ x. tallied x t) (row_breaks bytes bytes o refl f (sym c)) in cc

  tallied_whole : (fuel o : ℕ) → o ≤ length bytes → length bytes ≤ o + fuel → (t u : Tally) → tallied (row (drop o bytes) o) t ≡ Ok u → Whole o
  tallied_whole zero o inside enough t u e = whole_end (omega arith)
  tallied_whole (suc fuel) o inside enough t u e =
      tallied_cut o inside (cut (drop o bytes) o) refl t u e
      (λ r f k. let fits = fetch_fits o r f in let p = size_positive r in tallied_whole fuel (o + size r) (omega arith) (omega arith) (counted t r) u k)

  -- the first round passes a row of records that is short enough, and nothing else
  pub first_whole : (u : Tally) → first_round bytes ≡ Ok u → Whole 0 × (length bytes ≤ byte_limit)
  first_whole u q = go (ltb byte_limit (length bytes)) refl q
    where
      go : (b : Bool) → ltb byte_limit (length bytes) ≡ b → cond b (Err (record { cause = TooLong; place = 0 })) (tallied (row bytes 0) no_records) ≡ Ok u →
          Whole 0 × (length bytes ≤ byte_limit)
      go true e k = cc
      go false e k = (tallied_whole (length bytes) 0 (omega arith) (omega arith) no_records u k, ltb-false byte_limit (length bytes) e)

  pub first_passes : Whole 0 → length bytes ≤ byte_limit → (u : Tally) × (first_round bytes ≡ Ok u)
  first_passes w short =
      let k = whole_tallied w no_records in
      (k.0, ap (λ b. cond b (Err (record { cause = TooLong; place = 0 })) (tallied (row bytes 0) no_records)) (le-ltb byte_limit (length bytes) short) ∙ k.1)
