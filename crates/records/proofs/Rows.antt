-- A sheet's row, opened at the place where a reader stands.
use Rattle.std.proofs.Common.{◌≡◌, ℕ, zero, suc, ◌+◌, ◌-◌, ◌<◌, ◌≤◌, List, [], ◌∷◌, length, drop, Some, None, Ok, Err, Option, sym, refl, ap, ◌∙◌, add-zero, arith, length-drop}
use Rattle.std.proofs.lemmas.List.{drop-drop}
use Rattle.records.specs.declared.faults.Fault.{Fault}
use Rattle.records.specs.declared.kinds.Record.{Record}
use Rattle.records.specs.Writing.{size}
use Rattle.records.specs.Cutting.{Cutting, cut, moved}
use Rattle.records.specs.Rows.{next, end, broken, begin, row_behind, row}
use Rattle.records.proofs.Positive.{size_positive}

drop_rest : (b : ℕ) (bs : List ℕ) (n : ℕ) → 0 < n → drop (n - 1) bs ≡ drop n (b ∷ bs)
drop_rest b bs zero positive = absurd (omega arith)
drop_rest b bs (suc n) positive = let e : suc n - 1 ≡ n = omega arith in ap (λ m. drop m bs) e

-- bytes that are passed may as well be dropped
row_passes : (bs : List ℕ) (skip at : ℕ) → skip ≤ length bs → row_behind bs skip at ≡ row (drop skip bs) (at + skip)
row_passes [] zero at fits = ap end (sym (add-zero at))
row_passes [] (suc skip) at fits = absurd (omega arith)
row_passes (b ∷ bs) zero at fits = ap (λ a. row (b ∷ bs) a) (sym (add-zero at))
row_passes (b ∷ bs) (suc skip) at fits = row_passes bs skip (at + 1) (omega arith) ∙ ap (λ a. row (drop skip bs) a) (omega arith)

-- the row of bytes that a record is cut from
pub row_of_cut : (bytes : List ℕ) (at : ℕ) (r : Record) → cut bytes at ≡ Ok (Some r) → size r ≤ length bytes → row bytes at ≡ next at r (row (drop (size r) bytes) (at + size r))
row_of_cut [] at r e fits = absurd (cc)
row_of_cut (b ∷ bs) at r e fits =
    let positive : 0 < size r = size_positive r in
    let whole : at + 1 + (size r - 1) ≡ at + size r = omega arith in
    ap (λ x. begin x at (λ skip. row_behind bs skip (at + 1))) e
    ∙ ap (next at r) (row_passes bs (size r - 1) (at + 1) (omega arith) ∙ ap (λ a. row (drop (size r - 1) bs) a) whole ∙ ap (λ xs. row xs (at + size r)) (drop_rest b bs (size r) positive))

row_begins : (bytes : List ℕ) (at : ℕ) → row bytes at ≡ begin (cut bytes at) at (λ skip. row_behind (drop 1 bytes) skip (at + 1))
row_begins [] at = refl
row_begins (b ∷ bs) at = refl

-- the row where nothing is left, and where no record can be cut
pub row_over : (bytes : List ℕ) (at : ℕ) → cut bytes at ≡ Ok None → row bytes at ≡ end at
row_over bytes at e = row_begins bytes at ∙ ap (λ x. begin x at (λ skip. row_behind (drop 1 bytes) skip (at + 1))) e

pub row_broken : (bytes : List ℕ) (at : ℕ) (f : Fault) → cut bytes at ≡ Err f → row bytes at ≡ broken f
row_broken bytes at f e = row_begins bytes at ∙ ap (λ x. begin x at (λ skip. row_behind (drop 1 bytes) skip (at + 1))) e

module _ (bytes lent : List ℕ) (at : ℕ) (same : lent ≡ bytes) where
  -- a reader at the end of the bytes
  pub row_ends : Ok None ≡ cut (drop at lent) at → row (drop at bytes) at ≡ end at
  row_ends e = row_over (drop at bytes) at (ap (λ xs. cut (drop at xs) at) (sym same) ∙ sym e)

  -- a reader at a record that cannot be cut
  pub row_breaks : (f : Fault) → Err f ≡ cut (drop at lent) at → row (drop at bytes) at ≡ broken f
  row_breaks f e = row_broken (drop at bytes) at f (ap (λ xs. cut (drop at xs) at) (sym same) ∙ sym e)

-- A reader over `bytes` has cut r at `at`, and now stands at `to`.
pub record Taken (bytes : List ℕ) (at : ℕ) (r : Record) (lent : List ℕ) (to : ℕ) : Type 0 where
  pub opens : row (drop at bytes) at ≡ next at r (row (drop to bytes) to)
  pub moves : to ≡ at + size r
  pub keeps : lent ≡ bytes
  pub fits : to ≤ length bytes

-- what the contract of `Reader::next` says where it answers a record
pub taken : {bytes before lent : List ℕ} {at to : ℕ} {o : Option Record} {r : Record}
    → before ≡ bytes → Ok o ≡ cut (drop at before) at → to ≡ at + moved (Ok o) → lent ≡ before → to ≤ length lent → o ≡ Some r
    → Taken bytes at r lent to
taken {bytes} {before} {lent} {at} {to} {o} {r} same answer moves keeps inside is =
    let m : to ≡ at + size r = moves ∙ ap (λ (x : Option Record). at + moved (Ok x)) is in
    let k : lent ≡ bytes = keeps ∙ same in
    let l = ap length k in
    let c : cut (drop at bytes) at ≡ Ok (Some r) = sym (ap (λ xs. cut (drop at xs) at) same) ∙ sym answer ∙ ap {B = Cutting} (λ (x : Option Record). Ok x) is in
    record {
      opens = row_of_cut (drop at bytes) at r c (simp length-drop (omega arith)) ∙ ap (λ xs. next at r (row xs (at + size r))) (drop-drop (size r) at bytes) ∙ ap (λ e. next at r (row (drop e bytes) e)) (sym m);
      moves = m;
      keeps = k;
      fits = omega arith;
    }
