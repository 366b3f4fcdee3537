-- How a word's bits stand in the row of flags: their number, reading one, turning one, and how a change of one flag
-- changes the number that are set. Assumes nothing.
use Rattle.std.proofs.Common.{◌≡◌, ℕ, zero, suc, ◌+◌, ◌*◌, ◌/◌, ◌%◌, ◌^◌, ◌<◌, ◌≤◌, Bool, true, false, cond, not, eqb, List, [], ◌∷◌, ◌++◌, length, get_or, take, set, replicate, sym, refl, ap, ◌∙◌, pow-suc, div-one, one-add, arith, length-append}
use lib.Bits.{bit_xor, xor_shr, xor_mod, xor_zero_r}
use Rattle.std.proofs.lemmas.Nat.{shr-shr, mod_below, div-add-mod'}
use Rattle.std.proofs.lemmas.List.{get_or_append_left, get_or-append_right, set-append_left, set-append_right, replicate-append-replicate}
use Rattle.bits.specs.Flags.{bit_of, bits, flags, flag, turned, how_many}

-- ---- one word

pub bits_length : (n word : ℕ) → length (bits n word) ≡ n
unfolding bits
bits_length zero word = refl
bits_length (suc n) word = ap suc (bits_length n (word / 2))

pub bits_read : (n word r : ℕ) → r < n → flag (bits n word) r ≡ bit_of word r
unfolding bits
bits_read zero word r h = absurd (omega arith)
bits_read (suc n) word zero h = ap (λ x. eqb (x % 2) 1) (sym (div-one word))
bits_read (suc n) word (suc r) h =
    bits_read n (word / 2) r (omega arith) ∙ ap (λ x. eqb (x % 2) 1) (shr-shr word 1 r ∙ ap (λ i. word / 2 ^ i) (one-add r))

low_bit_turned : (a : ℕ) → a < 2 → eqb (bit_xor a 1) 1 ≡ not (eqb a 1)
low_bit_turned zero h = refl
low_bit_turned (suc zero) h = refl
low_bit_turned (suc (suc a)) h = absurd (omega arith)

-- an exclusive or with one bit turns that flag
pub bits_turned : (n word r : ℕ) → r < n → bits n (bit_xor word (2 ^ r)) ≡ turned (bits n word) r
unfolding bits
bits_turned zero word r h = absurd (omega arith)
bits_turned (suc n) word zero h =
    let high : bit_xor word 1 / 2 ≡ word / 2 = xor_shr word 1 1 ∙ xor_zero_r (word / 2) in
    let low : eqb (bit_xor word 1 % 2) 1 ≡ not (eqb (word % 2) 1) =
    ap (λ x. eqb x 1) (xor_mod word 1 1) ∙ low_bit_turned (word % 2) (mod_below word 2 (omega arith)) in
    cc
bits_turned (suc n) word (suc r) h =
    let half : 2 ^ suc r / 2 ≡ 2 ^ r = omega (arith, pow-suc 2 r) in
    let even : 2 ^ suc r % 2 ≡ 0 = omega (arith, pow-suc 2 r) in
    let high : bit_xor word (2 ^ suc r) / 2 ≡ bit_xor (word / 2) (2 ^ r) = xor_shr word (2 ^ suc r) 1 ∙ ap (λ x. bit_xor (word / 2) x) half in
    let low : bit_xor word (2 ^ suc r) % 2 ≡ word % 2 = xor_mod word (2 ^ suc r) 1 ∙ ap (λ x. bit_xor (word % 2) x) even ∙ xor_zero_r (word % 2) in
    let rest = bits_turned n (word / 2) r (omega arith) in
    cc

bits_of_zero : (n : ℕ) → bits n 0 ≡ replicate n false
unfolding bits
bits_of_zero zero = refl
bits_of_zero (suc n) = ap (λ x. false ∷ x) (bits_of_zero n)

-- ---- a row of words

pub flags_length : (words : List ℕ) → length (flags words) ≡ length words * 32
unfolding flags
flags_length [] = refl
flags_length (word ∷ words) = length-append (bits 32 word) (flags words) ∙ omega (arith, bits_length 32 word, flags_length words)

pub flags_read : (words : List ℕ) (at r : ℕ) → at < length words → r < 32 → flag (flags words) (at * 32 + r) ≡ flag (bits 32 (get_or words at 0)) r
unfolding flags
flags_read [] at r h l = absurd (omega arith)
flags_read (word ∷ words) zero r h l =
    ap (λ i. flag (bits 32 word ++ flags words) i) (omega arith) ∙ get_or_append_left (bits 32 word) (flags words) false r (omega (arith, bits_length 32 word))
flags_read (word ∷ words) (suc at) r h l =
    get_or-append_right (bits 32 word) (flags words) 32 (suc at * 32 + r) false (bits_length 32 word) (omega arith)
    ∙ (ap (λ i. flag (flags words) i) (omega arith) ∙ flags_read words at r (omega arith) l)

-- a word whose bits differ in one place from those that stood there changes that flag alone
pub flags_written : (words : List ℕ) (at r word : ℕ) (b : Bool) → at < length words → r < 32
    → bits 32 word ≡ set (bits 32 (get_or words at 0)) r b → flags (set words at word) ≡ set (flags words) (at * 32 + r) b
unfolding flags
flags_written [] at r word b h l e = absurd (omega arith)
flags_written (first ∷ words) zero r word b h l e =
    ap (λ x. x ++ flags words) e
    ∙ (sym (set-append_left (bits 32 first) (flags words) r b (omega (arith, bits_length 32 first))) ∙ ap (λ i. set (bits 32 first ++ flags words) i b) (omega arith))
flags_written (first ∷ words) (suc at) r word b h l e =
    ap (λ x. bits 32 first ++ x) (flags_written words at r word b (omega arith) l e ∙ ap (λ i. set (flags words) i b) (omega arith))
    ∙ sym (set-append_right (bits 32 first) (flags words) 32 (suc at * 32 + r) b (bits_length 32 first) (omega arith))

-- each flag of the row is a bit of its word
pub flag_is_bit : (words : List ℕ) (at r place : ℕ) → place ≡ at * 32 + r → at < length words → r < 32 → flag (flags words) place ≡ bit_of (get_or words at 0) r
flag_is_bit words at r place there inside l =
    ap (λ i. flag (flags words) i) there ∙ flags_read words at r inside l ∙ bits_read 32 (get_or words at 0) r l

-- to turn a bit of a word is to turn its flag
pub flags_turned : (words : List ℕ) (place : ℕ) → place / 32 < length words →
    flags (set words (place / 32) (bit_xor (get_or words (place / 32) 0) (2 ^ (place % 32)))) ≡ turned (flags words) place
flags_turned words place inside =
    let word : ℕ = get_or words (place / 32) 0 in
    let r : place % 32 < 32 = mod_below place 32 (omega arith) in
    let there : place / 32 * 32 + place % 32 ≡ place = div-add-mod' place 32 in
    let old : flag (bits 32 word) (place % 32) ≡ flag (flags words) place =
    bits_read 32 word (place % 32) r ∙ sym (flag_is_bit words (place / 32) (place % 32) place (sym there) inside r) in
    let b = not (flag (flags words) place) in
    flags_written words (place / 32) (place % 32) (bit_xor word (2 ^ (place % 32))) b inside r
    (bits_turned 32 word (place % 32) r ∙ ap (λ x. set (bits 32 word) (place % 32) (not x)) old)
    ∙ ap (λ i. set (flags words) i b) there

pub flags_of_zeros : (n : ℕ) → flags (replicate n 0) ≡ replicate (n * 32) false
unfolding flags
flags_of_zeros zero = refl
flags_of_zeros (suc n) =
    ap (λ x. x ++ flags (replicate n 0)) (bits_of_zero 32)
    ∙ (ap (λ x. replicate 32 false ++ x) (flags_of_zeros n)
    ∙ (replicate-append-replicate 32 (n * 32) false ∙ ap (λ (i : ℕ). replicate i false) (omega arith)))

-- ---- how many are set

pub many_at_most : (row : List Bool) → how_many row ≤ length row
many_at_most [] = omega arith
many_at_most (true ∷ row) = omega (arith, many_at_most row)
many_at_most (false ∷ row) = omega (arith, many_at_most row)

pub many_in_none : (n : ℕ) → how_many (replicate n false) ≡ 0
many_in_none zero = refl
many_in_none (suc n) = omega (arith, many_in_none n)

pub many_in_all : (row : List Bool) → ((j : ℕ) → j < length row → flag row j ≡ true) → how_many row ≡ length row
many_in_all [] h = refl
many_in_all (one ∷ row) h =
    let first : one ≡ true = h 0 (omega arith) in
    let rest : how_many row ≡ length row = many_in_all row (λ j lt. h (suc j) (omega arith)) in
    rw first (omega arith)

-- one flag written: the number that are set moves by the difference
pub many_written : (row : List Bool) (place : ℕ) (b : Bool) → place < length row
    → how_many (set row place b) + cond (flag row place) 1 0 ≡ how_many row + cond b 1 0
many_written [] place b h = absurd (omega arith)
many_written (one ∷ row) zero b h = omega arith
many_written (one ∷ row) (suc place) b h = omega (arith, many_written row place b (omega arith))

pub many_one_more : (row : List Bool) (n : ℕ) → how_many (take (suc n) row) ≡ cond (flag row n) 1 0 + how_many (take n row)
many_one_more [] zero = omega arith
many_one_more [] (suc n) = omega arith
many_one_more (one ∷ row) zero = omega arith
many_one_more (one ∷ row) (suc n) = omega (arith, many_one_more row n)
