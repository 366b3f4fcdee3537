-- A kind byte is that of ten kinds or of none, and each kind lays its fields out in one way.
use Rattle.std.proofs.Common.{◌≡◌, ℕ, cond, eqb, ◌⊎◌, List, ◌∷◌, Err, sym, refl, ◌∙◌, subst, inl, inr, ⊎_elim, ne_eqb}
use Rattle.std.proofs.lemmas.Bool.{cases_eq, cond-false}
use Rattle.records.specs.declared.faults.Cause.TheVariants.{UnknownKind}
use Rattle.records.specs.declared.kinds.Step.TheVariants.{Const, Arith, Empty, Cons, Call, Return, Match, If}
use Rattle.records.specs.declared.kinds.Record.{Record}
use Rattle.records.specs.declared.kinds.Record.TheVariants.{ListType, Function, Step}
use Rattle.records.specs.Writing.{written, size}
use Rattle.records.specs.Cutting.{cut, whole, byte, two_at, four_at, bytes_at}
use Rattle.records.specs.Inverse.{Bytes}
use Rattle.records.proofs.Numerals.{two_split, four_split}
use Rattle.records.proofs.Fronts.{front}

-- a kind's records are of one size, are cut where that many bytes are there, and are written as those bytes
pub record Layout (kind : ℕ) : Type 0 where
  pub long : ℕ
  pub of : List ℕ → Record
  pub sized : (xs : List ℕ) → size (of xs) ≡ long
  pub cuts : (body : List ℕ) (at : ℕ) → cut (kind ∷ body) at ≡ whole (kind ∷ body) at (of (kind ∷ body))
  pub writes : (body : List ℕ) → Bytes (kind ∷ body) → written (of (kind ∷ body)) ≡ front 0 long (kind ∷ body)

abbrev pub Unknown : ℕ → Type 0
Unknown kind = (body : List ℕ) (at : ℕ) → cut (kind ∷ body) at ≡ Err (record { cause = UnknownKind; place = at })

list_type : Layout 0x11
list_type = record {
  long = 4;
  of = λ xs. ListType (record { element = byte xs 1; amount = two_at xs 2 });
  sized = λ xs. refl;
  cuts = λ body at. refl;
  writes = λ body b. let xs = 0x11 ∷ body in let amount = two_split (byte xs 2) (byte xs 3) (b 3) in cc;
}

function : Layout 0x20
function = record {
  long = 11;
  of = λ xs. Function (record { count = byte xs 1; params = bytes_at xs 2; result = byte xs 6; entry = two_at xs 7; remainder = two_at xs 9 });
  sized = λ xs. refl;
  cuts = λ body at. refl;
  writes = λ body b.
      let xs = 0x20 ∷ body in
      let entry = two_split (byte xs 7) (byte xs 8) (b 8) in
      let remainder = two_split (byte xs 9) (byte xs 10) (b 10) in
      cc;
}

const : Layout 0x30
const = record {
  long = 6;
  of = λ xs. Step (Const (byte xs 1) (four_at xs 2));
  sized = λ xs. refl;
  cuts = λ body at. refl;
  writes = λ body b.
      let xs = 0x30 ∷ body in
      let number = four_split (byte xs 2) (byte xs 3) (byte xs 4) (byte xs 5) (b 3) (b 4) (b 5) in
      cc;
}

match_list : Layout 0x41
match_list = record {
  long = 6;
  of = λ xs. Step (Match (byte xs 1) (byte xs 2) (byte xs 3) (two_at xs 4));
  sized = λ xs. refl;
  cuts = λ body at. refl;
  writes = λ body b. let xs = 0x41 ∷ body in let second = two_split (byte xs 4) (byte xs 5) (b 5) in cc;
}

branch_if : Layout 0x43
branch_if = record {
  long = 4;
  of = λ xs. Step (If (byte xs 1) (two_at xs 2));
  sized = λ xs. refl;
  cuts = λ body at. refl;
  writes = λ body b. let xs = 0x43 ∷ body in let second = two_split (byte xs 2) (byte xs 3) (b 3) in cc;
}

-- the kinds whose fields are single bytes
module _ (kind long : ℕ) (of : List ℕ → Record) where
  plain : ((xs : List ℕ) → size (of xs) ≡ long) → ((body : List ℕ) (at : ℕ) → cut (kind ∷ body) at ≡ whole (kind ∷ body) at (of (kind ∷ body))) →
      ((body : List ℕ) → written (of (kind ∷ body)) ≡ front 0 long (kind ∷ body)) → Layout kind
  plain s c w = record { long = long; of = of; sized = s; cuts = c; writes = λ body b. w body }

arith : Layout 0x31
arith = plain 0x31 5 (λ xs. Step (Arith (byte xs 1) (byte xs 2) (byte xs 3) (byte xs 4))) (λ xs. refl) (λ body at. refl) (λ body. refl)

empty : Layout 0x32
empty = plain 0x32 3 (λ xs. Step (Empty (byte xs 1) (byte xs 2))) (λ xs. refl) (λ body at. refl) (λ body. refl)

cons : Layout 0x33
cons = plain 0x33 5 (λ xs. Step (Cons (byte xs 1) (byte xs 2) (byte xs 3) (byte xs 4))) (λ xs. refl) (λ body at. refl) (λ body. refl)

call : Layout 0x35
call = plain 0x35 7 (λ xs. Step (Call (byte xs 1) (byte xs 2) (bytes_at xs 3))) (λ xs. refl) (λ body at. refl) (λ body. refl)

return : Layout 0x40
return = plain 0x40 2 (λ xs. Step (Return (byte xs 1))) (λ xs. refl) (λ body at. refl) (λ body. refl)

-- the kind is this one, or what is shown where it is not
or_else : {kind : ℕ} (k : ℕ) → Layout k → ((kind ≡ k → ⊥) → Layout kind ⊎ Unknown kind) → Layout kind ⊎ Unknown kind
or_else {kind} k layout other = ⊎_elim (λ e. inl (subst Layout (sym e) layout)) other (cases_eq kind k)

-- a test that a kind byte does not pass
pub skip : {X : Type 0} (kind k : ℕ) (x y : X) → (kind ≡ k → ⊥) → cond (eqb kind k) x y ≡ y
skip kind k x y ne = cond-false (eqb kind k) x y (ne_eqb kind k ne)

pub known : (kind : ℕ) → Layout kind ⊎ Unknown kind
known kind =
    or_else 0x11 list_type (λ n1. or_else 0x20 function (λ n2. or_else 0x30 const (λ n3. or_else 0x31 arith (λ n4.
    or_else 0x32 empty (λ n5. or_else 0x33 cons (λ n6. or_else 0x35 call (λ n7. or_else 0x40 return (λ n8.
    or_else 0x41 match_list (λ n9. or_else 0x43 branch_if (λ n10. inr (λ body at.
    skip kind 0x11 _ _ n1 ∙ skip kind 0x20 _ _ n2 ∙ skip kind 0x30 _ _ n3 ∙ skip kind 0x31 _ _ n4 ∙ skip kind 0x32 _ _ n5
    ∙ skip kind 0x33 _ _ n6 ∙ skip kind 0x35 _ _ n7 ∙ skip kind 0x40 _ _ n8 ∙ skip kind 0x41 _ _ n9 ∙ skip kind 0x43 _ _ n10)))))))))))
