-- The front of a list, byte by byte.
use Rattle.std.proofs.Common.{◌≡◌, ℕ, zero, suc, ◌+◌, ◌<◌, ◌≤◌, List, [], ◌∷◌, ◌++◌, length, drop, replicate, sym, refl, ap, ◌∙◌, add-zero, arith, lit<, drop-cons}
use Rattle.std.proofs.lemmas.List.{get_or-drop}
use Rattle.records.specs.Cutting.{byte}
use Rattle.records.specs.Inverse.{Bytes}

-- the n bytes from i on
abbrev pub front : ℕ → ℕ → List ℕ → List ℕ
front i zero xs = []
front i (suc n) xs = byte xs i ∷ front (i + 1) n xs

pub length_front : (i n : ℕ) (xs : List ℕ) → length (front i n xs) ≡ n
length_front i zero xs = refl
length_front i (suc n) xs = ap suc (length_front (i + 1) n xs)

pub front_then_drop : (i n : ℕ) (xs : List ℕ) → i + n ≤ length xs → drop i xs ≡ front i n xs ++ drop (i + n) xs
front_then_drop i zero xs fits = ap (λ k. drop k xs) (sym (add-zero i))
front_then_drop i (suc n) xs fits =
    let one : i + 1 ≡ suc i = omega arith in
    let more : i + 1 + n ≡ i + suc n = omega arith in
    drop-cons xs i 0 (omega arith)
    ∙ ap (λ r. byte xs i ∷ r) (ap (λ k. drop k xs) (sym one) ∙ front_then_drop (i + 1) n xs (omega arith) ∙ ap (λ k. front (i + 1) n xs ++ drop k xs) more)

bytes_cons : (x : ℕ) (xs : List ℕ) → x < 256 → Bytes xs → Bytes (x ∷ xs)
bytes_cons x xs hx hs zero = hx
bytes_cons x xs hx hs (suc k) = hs k

pub bytes_front : (i n : ℕ) (xs : List ℕ) → Bytes xs → Bytes (front i n xs)
bytes_front i zero xs h = λ k. lit< tt
bytes_front i (suc n) xs h = bytes_cons (byte xs i) (front (i + 1) n xs) (h i) (bytes_front (i + 1) n xs h)

pub bytes_append : (xs ys : List ℕ) → Bytes xs → Bytes ys → Bytes (xs ++ ys)
bytes_append [] ys hx hy = hy
bytes_append (x ∷ xs) ys hx hy = bytes_cons x (xs ++ ys) (hx 0) (bytes_append xs ys (λ i. hx (suc i)) hy)

pub bytes_drop : (n : ℕ) (xs : List ℕ) → Bytes xs → Bytes (drop n xs)
bytes_drop n xs h i = rw get_or-drop (h (n + i))

pub bytes_zeros : (n : ℕ) → Bytes (replicate n 0)
bytes_zeros zero k = lit< tt
bytes_zeros (suc n) zero = lit< tt
bytes_zeros (suc n) (suc k) = bytes_zeros n k
