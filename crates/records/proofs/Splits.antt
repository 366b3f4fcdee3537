-- The row of a sheet that begins with the writing of records, and how far any sheet does.
use Rattle.std.proofs.Common.{◌≡◌, ℕ, zero, suc, ◌+◌, ◌≤◌, ◌⊎◌, List, [], ◌∷◌, ◌++◌, length, drop, Some, None, Ok, Err, sym, refl, ap, ◌∙◌, inl, inr, ⊎_elim, append_assoc, add-zero, arith, length-append, length-drop}
use lib.Seq.{drop-append_seam}
use Rattle.std.proofs.lemmas.Bool.Decides.{nat_tests}
use Rattle.records.specs.declared.faults.Fault.{Fault}
use Rattle.records.specs.declared.kinds.Record.{Record}
use Rattle.records.specs.declared.rounds.Tally.{Tally}
use Rattle.records.specs.Writing.{written, writing, size}
use Rattle.records.specs.Cutting.{Cutting, cut}
use Rattle.records.specs.Rows.{Row, next, row}
use Rattle.records.specs.FirstRound.{counted, tallied}
use Rattle.records.specs.Inverse.{Bytes, Writable}
use Rattle.records.specs.Sheets.{AllWritable, no_record, one_more, tally}
use Rattle.records.proofs.Positive.{size_positive}
use Rattle.records.proofs.Fronts.{bytes_drop}
use Rattle.records.proofs.Known.{known}
use Rattle.records.proofs.ReadBack.{reads_back, Begins, cut_is_written}
use Rattle.records.proofs.Rows.{row_of_cut}

-- these records from an offset on, and then the row at their end
abbrev pub along : List Record → ℕ → (ℕ → Row) → Row
along [] at then = then at
along (r ∷ rs) at then = next at r (along rs (at + size r) then)

-- the row of bytes that begin with the writing of r
row_begins_with : (r : Record) → Writable r → (rest : List ℕ) (at : ℕ) → row (written r ++ rest) at ≡ next at r (row rest (at + size r))
row_begins_with r w rest at =
    let s = w.sized in
    let long = length-append (written r) rest in
    row_of_cut (written r ++ rest) at r (reads_back r w rest at) (omega arith)
    ∙ ap (λ k. next at r (row (drop k (written r ++ rest)) (at + size r))) (sym s)
    ∙ ap (λ xs. next at r (row xs (at + size r))) (drop-append_seam (written r) rest)

pub row_of_writing : (rs : List Record) → AllWritable rs → (rest : List ℕ) (at : ℕ) → row (writing rs ++ rest) at ≡ along rs at (row rest)
row_of_writing [] no_record rest at = refl
row_of_writing (r ∷ rs) (one_more w ws) rest at =
    ap (λ xs. row xs at) (append_assoc (written r) (writing rs) rest)
    ∙ row_begins_with r w (writing rs ++ rest) at ∙ ap (next at r) (row_of_writing rs ws rest (at + size r))

pub tallied_along : (rs : List Record) → AllWritable rs → (at : ℕ) (then : ℕ → Row) (t : Tally) → tallied (along rs at then) t ≡ tallied (then (at + length (writing rs))) (tally t rs)
tallied_along [] no_record at then t = ap (λ e. tallied (then e) t) (sym (add-zero at))
tallied_along (r ∷ rs) (one_more w ws) at then t =
    let s = w.sized in
    let long = length-append (written r) (writing rs) in
    let e : at + size r + length (writing rs) ≡ at + length (written r ++ writing rs) = omega arith in
    tallied_along rs ws (at + size r) then (counted t r) ∙ ap (λ e. tallied (then e) (tally (counted t r) rs)) e

-- the sheet's records as far as they can be cut, and the bytes behind them
pub record Split (xs : List ℕ) (at : ℕ) : Type 0 where
  pub records : List Record
  pub writable : AllWritable records
  pub rest : List ℕ
  pub is : writing records ++ rest ≡ xs
  pub stops : (rest ≡ []) ⊎ ((f : Fault) × (cut rest (at + length (writing records)) ≡ Err f))

split_more : (xs : List ℕ) (at : ℕ) (r : Record) → Begins xs r → Split (drop (size r) xs) (at + size r) → Split xs at
split_more xs at r front tail =
    let rs = tail.records in
    let s = front.writable.sized in
    let long = length-append (written r) (writing rs) in
    let e : at + size r + length (writing rs) ≡ at + length (written r ++ writing rs) = omega arith in
    record {
      records = r ∷ rs;
      writable = one_more front.writable tail.writable;
      rest = tail.rest;
      is = append_assoc (written r) (writing rs) tail.rest ∙ ap (λ ys. written r ++ ys) tail.is ∙ sym front.is;
      stops = ⊎_elim inl (λ b. inr (b.0, ap (cut tail.rest) (sym e) ∙ b.1)) tail.stops;
    }

-- where bytes are left, something is cut or there is a fault
no_end : (kind : ℕ) (body : List ℕ) (at : ℕ) → cut (kind ∷ body) at ≡ Ok None → ⊥
no_end kind body at e =
    ⊎_elim
    (λ layout. let c = sym e ∙ layout.cuts body at in grind (arith, nat_tests, c))
    (λ unknown. let u = sym e ∙ unknown body at in cc)
    (known kind)

split_at : (xs : List ℕ) (at : ℕ) → Bytes xs → (c : Cutting) → cut xs at ≡ c → ((r : Record) → Begins xs r → Split (drop (size r) xs) (at + size r)) → Split xs at
split_at [] at b (Ok None) e behind = record { records = []; writable = no_record; rest = []; is = refl; stops = inl refl }
split_at (kind ∷ body) at b (Ok None) e behind = absurd (no_end kind body at e)
split_at xs at b (Ok (Some r)) e behind =
    let front = cut_is_written xs at r b e in
    split_more xs at r front (behind r front)
split_at xs at b (Err f) e behind =
    record { records = []; writable = no_record; rest = xs; is = refl; stops = inr (f, ap (cut xs) (add-zero at) ∙ e) }

-- by the length of the bytes, since a record takes some of them
pub split : (fuel : ℕ) (xs : List ℕ) (at : ℕ) → length xs ≤ fuel → Bytes xs → Split xs at
split zero [] at h b = record { records = []; writable = no_record; rest = []; is = refl; stops = inl refl }
split zero (x ∷ xs) at h b = absurd (omega arith)
split (suc fuel) xs at h b =
    split_at xs at b (cut xs at) refl
    (λ r front.
    let positive = size_positive r in
    let fits = front.fits in
    let less : length (drop (size r) xs) ≤ fuel = simp length-drop (omega arith) in
    split fuel (drop (size r) xs) (at + size r) less (bytes_drop (size r) xs b))
