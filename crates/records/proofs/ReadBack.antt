-- Cutting what was written gives the record back, and what is cut to a record is that record's writing.
use Rattle.std.proofs.Common.{◌≡◌, ℕ, ◌+◌, ◌<◌, ◌≤◌, List, [], ◌∷◌, ◌++◌, length, drop, Some, None, Ok, Err, sym, refl, ap, ◌∙◌, subst, ⊎_elim, arith, length-append}
use Rattle.std.proofs.lemmas.Bool.Decides.{nat_tests}
use Rattle.records.specs.declared.faults.Cause.TheVariants.{CutShort}
use Rattle.records.specs.declared.faults.Fault.{Fault}
use Rattle.records.specs.declared.kinds.Step.{Step as Action}
use Rattle.records.specs.declared.kinds.Step.TheVariants.{Const, Arith, Empty, Cons, Call, Return, Match, If}
use Rattle.records.specs.declared.kinds.Record.{Record}
use Rattle.records.specs.declared.kinds.Record.TheVariants.{ListType, Function, Step}
use Rattle.records.specs.Writing.{written, size, in_two}
use Rattle.records.specs.Cutting.{Cutting, cut, moved, whole, bytes_at}
use Rattle.records.specs.Inverse.{Bytes, Writable, Reads}
use Rattle.records.proofs.Numerals.{two_back, four_back}
use Rattle.records.proofs.Fronts.{front, length_front, front_then_drop, bytes_front}
use Rattle.records.proofs.Known.{Layout, known}

-- four fields of one byte
four : (xs : List ℕ) → length xs ≡ 4 → bytes_at xs 0 ≡ xs
four [] e = absurd (omega arith)
four (a ∷ []) e = absurd (omega arith)
four (a ∷ (b ∷ [])) e = absurd (omega arith)
four (a ∷ (b ∷ (c ∷ []))) e = absurd (omega arith)
four (a ∷ (b ∷ (c ∷ (d ∷ [])))) e = refl
four (a ∷ (b ∷ (c ∷ (d ∷ (x ∷ xs))))) e = absurd (omega arith)

abbrev Back : Record → List ℕ → ℕ → Type 0
Back r rest at = cut (written r ++ rest) at ≡ Ok (Some r)

back_step : (s : Action) → Writable (Step s) → (rest : List ℕ) (at : ℕ) → Back (Step s) rest at
back_step (Const d n) w rest at = grind (arith, nat_tests, four_back n)
back_step (Arith d op a b) w rest at = grind (arith, nat_tests)
back_step (Empty d t) w rest at = grind (arith, nat_tests)
back_step (Cons d t h l) w rest at = grind (arith, nat_tests)
back_step (Call d f slots) w rest at = let e : length slots ≡ 4 = omega (arith, w.sized) in subst (λ ss. Back (Step (Call d f ss)) rest at) (four slots e) (grind (arith, nat_tests))
back_step (Return a) w rest at = grind (arith, nat_tests)
back_step (Match a h l second) w rest at = grind (arith, nat_tests, two_back second)
back_step (If a second) w rest at = grind (arith, nat_tests, two_back second)

pub reads_back : (r : Record) → Writable r → (rest : List ℕ) (at : ℕ) → Back r rest at
reads_back (ListType t) w rest at = grind (arith, nat_tests, two_back t.amount)
reads_back (Function f) w rest at =
    let e : length f.params ≡ 4 = omega (arith, w.sized, length-append f.params (f.result ∷ (in_two f.entry ++ in_two f.remainder))) in
    subst (λ ps. Back (Function (record f { params = ps })) rest at) (four f.params e) (grind (arith, nat_tests, two_back f.entry, two_back f.remainder))
reads_back (Step s) w rest at = back_step s w rest at

-- the bytes begin with the writing of r
pub record Begins (xs : List ℕ) (r : Record) : Type 0 where
  pub writable : Writable r
  pub fits : size r ≤ length xs
  pub is : xs ≡ written r ++ drop (size r) xs

module _ (kind : ℕ) (layout : Layout kind) (body : List ℕ) (b : Bytes (kind ∷ body)) where
  -- where there are enough bytes of a known kind
  pub laid_out : layout.long ≤ length (kind ∷ body) → Begins (kind ∷ body) (layout.of (kind ∷ body))
  laid_out enough =
      let xs : List ℕ = kind ∷ body in
      let r : Record = layout.of xs in
      let n : ℕ = layout.long in
      let s : size r ≡ n = layout.sized xs in
      let w : written r ≡ front 0 n xs = layout.writes body b in
      let zero_n : 0 + n ≡ n = omega arith in
      record {
        writable = record { sized = ap length w ∙ length_front 0 n xs ∙ sym s; bytes = subst Bytes (sym w) (bytes_front 0 n xs b) };
        fits = omega arith;
        is = front_then_drop 0 n xs (omega arith) ∙ ap (λ f. f ++ drop (0 + n) xs) (sym w) ∙ ap (λ k. written r ++ drop k xs) (zero_n ∙ sym s);
      }

-- what it says of the bytes that a record was cut, and that it was not
whole_answers : (xs : List ℕ) (at : ℕ) (r q : Record) → whole xs at q ≡ Ok (Some r) → (q ≡ r) × (size q ≤ length xs)
whole_answers xs at r q e = (grind (arith, nat_tests), grind (arith, nat_tests))

pub whole_fails : (xs : List ℕ) (at : ℕ) (r : Record) (f : Fault) → whole xs at r ≡ Err f → (length xs < size r) × (f ≡ record { cause = CutShort; place = at })
whole_fails xs at r f e = (grind (arith, nat_tests), grind (arith, nat_tests))

pub cut_is_written : (xs : List ℕ) (at : ℕ) (r : Record) → Bytes xs → cut xs at ≡ Ok (Some r) → Begins xs r
cut_is_written [] at r b e = absurd (cc)
cut_is_written (kind ∷ body) at r b e =
    ⊎_elim
    (λ layout.
    let found = whole_answers (kind ∷ body) at r (layout.of (kind ∷ body)) (sym (layout.cuts body at) ∙ e) in
    let s : size (layout.of (kind ∷ body)) ≡ layout.long = layout.sized (kind ∷ body) in
    let enough = found.1 in
    subst (Begins (kind ∷ body)) found.0 (laid_out kind layout body b (omega arith)))
    (λ unknown. let u = unknown body at in absurd (cc))
    (known kind)

-- what is cut is there
pub moved_fits : (xs : List ℕ) (at : ℕ) → Bytes xs → moved (cut xs at) ≤ length xs
moved_fits xs at b = by_cases (cut xs at) refl
  where
    by_cases : (c : Cutting) → cut xs at ≡ c → moved c ≤ length xs
    by_cases (Ok (Some r)) e = let begins = cut_is_written xs at r b e in begins.fits
    by_cases (Ok None) e = omega arith
    by_cases (Err f) e = omega arith

pub cut_reads : (xs : List ℕ) (at : ℕ) → Bytes xs → Reads xs (cut xs at)
cut_reads xs at b =
    record {
      back = λ r behind w e. ap (λ ys. cut ys at) e ∙ reads_back r w behind at;
      only = λ r e. let begins = cut_is_written xs at r b e in (begins.writable, begins.is);
    }
