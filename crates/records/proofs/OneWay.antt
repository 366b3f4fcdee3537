-- A sheet is the writing of one row of records at most, and the first round finds it or the place where there is none.
use Rattle.std.proofs.Common.{◌≡◌, ℕ, ◌+◌, ◌-◌, ◌<◌, ◌≤◌, List, [], ◌∷◌, ◌++◌, length, drop, replicate, Err, sym, refl, ap, ◌∙◌, subst, ⊎_elim, append-nil, zero-add, arith, length-append}
use lib.ListN.{length-replicate}
use lib.Seq.{drop-length, drop-append_seam}
use Rattle.std.proofs.lemmas.Bool.{cases_lt}
use Rattle.std.proofs.lemmas.Bool.Decides.{nat_tests}
use Rattle.records.specs.declared.faults.Cause.TheVariants.{TooLong, UnknownKind, CutShort}
use Rattle.records.specs.declared.faults.Fault.{Fault}
use Rattle.records.specs.declared.kinds.Record.{Record}
use Rattle.records.specs.Writing.{written, writing, size}
use Rattle.records.specs.Cutting.{cut}
use Rattle.records.specs.Rows.{Row, next, end, broken, row}
use Rattle.records.specs.FirstRound.{no_records, tallied, first_round}
use Rattle.records.specs.Inverse.{Bytes}
use Rattle.records.specs.Sheets.{AllWritable, tally, Whole, BeginsNone, no_such_kind, more_wanted, Refused, too_long, breaks_off, ReadInOneWay}
use Rattle.records.proofs.Fronts.{bytes_append, bytes_drop, bytes_zeros}
use Rattle.records.proofs.Known.{Layout, Unknown, known}
use Rattle.records.proofs.ReadBack.{reads_back, laid_out, whole_fails}
use Rattle.records.proofs.Rows.{row_broken}
use Rattle.records.proofs.Splits.{along, row_of_writing, tallied_along, Split, split}

-- the records of a row
abbrev listed : Row → List Record
listed (next at r rest) = r ∷ listed rest
listed (end at) = []
listed (broken f) = []

listed_along : (rs : List Record) (at : ℕ) → listed (along rs at (row [])) ≡ rs
listed_along [] at = refl
listed_along (r ∷ rs) at = ap (λ qs. r ∷ qs) (listed_along rs (at + size r))

listed_writing : (rs : List Record) → AllWritable rs → listed (row (writing rs) 0) ≡ rs
listed_writing rs ws = ap (λ xs. listed (row xs 0)) (sym (append-nil (writing rs))) ∙ ap listed (row_of_writing rs ws [] 0) ∙ listed_along rs 0

one_way : (rs qs : List Record) → AllWritable rs → AllWritable qs → writing qs ≡ writing rs → qs ≡ rs
one_way rs qs ws vs e = sym (listed_writing qs vs) ∙ ap (λ xs. listed (row xs 0)) e ∙ listed_writing rs ws

-- what is read of a sheet, by its split
read : (sheet : List ℕ) (s : Split sheet 0) → tallied (row sheet 0) no_records ≡ tallied (row s.rest (0 + length (writing s.records))) (tally no_records s.records)
read sheet s =
    ap (λ xs. tallied (row xs 0) no_records) (sym s.is)
    ∙ ap (λ r. tallied r no_records) (row_of_writing s.records s.writable s.rest 0)
    ∙ tallied_along s.records s.writable 0 (row s.rest) no_records

-- too few bytes of a known kind: zeros complete them
completes : (kind : ℕ) (layout : Layout kind) (rest : List ℕ) → Bytes (kind ∷ rest) → length (kind ∷ rest) < layout.long → BeginsNone kind rest CutShort
completes kind layout rest b less =
    let n : ℕ = layout.long - length (kind ∷ rest) in
    let more : List ℕ = replicate n 0 in
    let all : List ℕ = kind ∷ (rest ++ more) in
    let zeros : length more ≡ n = length-replicate n 0 in
    let joined : length (rest ++ more) ≡ length rest + length more = length-append rest more in
    let long : length all ≡ layout.long = omega arith in
    let r : Record = layout.of all in
    let s : size r ≡ layout.long = layout.sized all in
    let front = laid_out kind layout (rest ++ more) (bytes_append (kind ∷ rest) more b (bytes_zeros n)) (omega arith) in
    let none : drop (size r) all ≡ [] = ap (λ k. drop k all) (s ∙ sym long) ∙ drop-length all in
    more_wanted r more front.writable (omega arith) (sym (front.is ∙ ap (λ ys. written r ++ ys) none ∙ append-nil (written r)))

-- a kind byte that cuts to nothing is that of no record
stranger : (kind : ℕ) (rest : List ℕ) → Unknown kind → BeginsNone kind rest UnknownKind
stranger kind rest unknown = no_such_kind (λ r body w e.
    let back = sym (ap (λ xs. cut (xs ++ []) 0) e) ∙ reads_back r w [] 0 in
    let u = sym (unknown (body ++ []) 0) ∙ back in
    cc)

-- why the cut fails
fails : (kind : ℕ) (rest : List ℕ) (at : ℕ) (f : Fault) → Bytes (kind ∷ rest) → cut (kind ∷ rest) at ≡ Err f → (f.place ≡ at) × BeginsNone kind rest f.cause
fails kind rest at f b e =
    ⊎_elim
    (λ layout.
    let s : size (layout.of (kind ∷ rest)) ≡ layout.long = layout.sized (kind ∷ rest) in
    let short = whole_fails (kind ∷ rest) at (layout.of (kind ∷ rest)) f (sym (layout.cuts rest at) ∙ e) in
    let less = short.0 in
    (ap (λ (x : Fault). x.place) short.1, subst (λ (x : Fault). BeginsNone kind rest x.cause) (sym short.1) (completes kind layout rest b (omega arith))))
    (λ unknown.
    let g = sym e ∙ unknown rest at in
    let same : f ≡ record { cause = UnknownKind; place = at } = cc in
    (ap (λ (x : Fault). x.place) same, subst (λ (x : Fault). BeginsNone kind rest x.cause) (sym same) (stranger kind rest unknown)))
    (known kind)

refuses : (sheet : List ℕ) (rs : List Record) (rest : List ℕ) (f : Fault) → Bytes sheet → length sheet ≤ 4096 → AllWritable rs → writing rs ++ rest ≡ sheet →
    cut rest (0 + length (writing rs)) ≡ Err f → Refused sheet f
refuses sheet rs [] f b fits ws is e = absurd (cc)
refuses sheet rs (kind ∷ rest) f b fits ws is e =
    let behind : Bytes (kind ∷ rest) = subst Bytes (ap (drop (length (writing rs))) (sym is) ∙ drop-append_seam (writing rs) (kind ∷ rest)) (bytes_drop (length (writing rs)) sheet b) in
    let why = fails kind rest (0 + length (writing rs)) f behind e in
    let place : length (writing rs) ≡ f.place = sym (why.0 ∙ zero-add (length (writing rs))) in
    subst (λ p. Refused sheet (record { cause = f.cause; place = p })) place (breaks_off rs kind rest fits ws is why.1)

accepts : (sheet : List ℕ) (rs : List Record) → length sheet ≤ 4096 → AllWritable rs → writing rs ≡ sheet → Whole sheet (tally no_records rs)
accepts sheet rs fits ws is =
    record { short = fits; records = rs; writable = ws; is = is; only = λ qs vs e. one_way rs qs ws vs (e ∙ sym is); counts = refl }

by_split : (sheet : List ℕ) (s : Split sheet 0) → Bytes sheet → length sheet ≤ 4096 → ReadInOneWay sheet (tallied (row sheet 0) no_records)
by_split sheet s b fits =
    let rs = s.records in
    let at = 0 + length (writing rs) in
    ⊎_elim
    (λ none.
    let found = read sheet s ∙ ap (λ xs. tallied (row xs at) (tally no_records rs)) none in
    let is = sym (append-nil (writing rs)) ∙ ap (λ xs. writing rs ++ xs) (sym none) ∙ s.is in
    subst (ReadInOneWay sheet) (sym found) (accepts sheet rs fits s.writable is))
    (λ breaks.
    let f = breaks.0 in
    let found = read sheet s ∙ ap (λ r. tallied r (tally no_records rs)) (row_broken s.rest at f breaks.1) in
    subst (ReadInOneWay sheet) (sym found) (refuses sheet rs s.rest f b fits s.writable s.is breaks.1))
    s.stops

pub read_in_one_way : (sheet : List ℕ) → Bytes sheet → ReadInOneWay sheet (first_round sheet)
read_in_one_way sheet b =
    ⊎_elim
    (λ long. let refused : first_round sheet ≡ Err (record { cause = TooLong; place = 0 }) = grind (arith, nat_tests) in subst (ReadInOneWay sheet) (sym refused) (too_long long))
    (λ fits.
    let cut_up : first_round sheet ≡ tallied (row sheet 0) no_records = grind (arith, nat_tests) in
    subst (ReadInOneWay sheet) (sym cut_up) (by_split sheet (split (length sheet) sheet 0 (omega arith) b) b fits))
    (cases_lt 4096 (length sheet))
