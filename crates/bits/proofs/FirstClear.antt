-- The first clear flag is the first clear bit of the first word that has one. Assumes nothing.
use Rattle.std.proofs.Common.{◌≡◌, ℕ, ◌+◌, ◌-◌, ◌*◌, ◌/◌, ◌%◌, ◌^◌, ◌<◌, ◌≤◌, true, false, List, length, get_or, position, Some, None, ap, ◌∙◌, ⊎_elim, w32, arith, eq-eqb, ne_eqb}
use Rattle.std.specs.Int.{bit_at, trailing_ones}
use Rattle.std.specs.List.{position_or_len}
use Rattle.std.proofs.lemmas.Bool.{cases_lt}
use Rattle.std.proofs.lemmas.Bool.Decides.{nat_tests}
use Rattle.std.proofs.lemmas.List.Quantifiers.{position-Some}
use Rattle.std.proofs.lemmas.List.Sums.{fails_before_first}
use Rattle.std.proofs.lemmas.Nat.Bits.{bit_at_ones, bit_at-trailing_ones}
use Rattle.bits.specs.Flags.{bit_of, flags, flag, is_not_full, FirstClear, AllSet}
use Rattle.bits.proofs.Rows.{flags_length, flag_is_bit}

bit_of_full : (word r : ℕ) → is_not_full word ≡ false → r < 32 → bit_of word r ≡ true
bit_of_full word r full l =
    let ones : word ≡ 2 ^ 32 - 1 = grind (arith, nat_tests) in
    eq-eqb (bit_at word r) 1 (ap (λ w. bit_at w r) ones ∙ bit_at_ones 32 r l)

-- the flags of a full word are set
flag_of_full : (words : List ℕ) (place : ℕ) → place / 32 < length words → is_not_full (get_or words (place / 32) 0) ≡ false → flag (flags words) place ≡ true
flag_of_full words place inside full =
    flag_is_bit words (place / 32) (place % 32) place (omega arith) inside (omega arith)
    ∙ bit_of_full (get_or words (place / 32) 0) (place % 32) full (omega arith)

pub found_clear : (words : List ℕ) (at : ℕ) → position is_not_full words ≡ Some at → get_or words at 0 < 2 ^ 32
    → FirstClear (flags words) (at * 32 + trailing_ones w32 (get_or words at 0))
found_clear words at found fits =
    let word : ℕ = get_or words at 0 in
    let ones : ℕ = trailing_ones w32 word in
    let first = position-Some is_not_full words at 0 found in
    let inside : at < length words = first.0 in
    let not_full : is_not_full word ≡ true = first.1 in
    let less : word + 1 < 2 ^ 32 = grind (arith, nat_tests) in
    let bit = bit_at-trailing_ones w32 word less in
    let short : ones < 32 = bit.0 in
    let clear : bit_at word ones ≡ 0 = bit.1 in
    record {
      inside = omega (arith, flags_length words);
      clear = flag_is_bit words at ones (at * 32 + ones) (omega arith) inside short ∙ ne_eqb (bit_at word ones) 1 (λ q. omega arith);
      set_before = λ j before. ⊎_elim
          (λ passed. flag_of_full words j (omega arith) (first.2 (j / 32) passed))
          (λ same. flag_is_bit words at (j % 32) j (omega arith) inside (omega arith) ∙ eq-eqb (bit_at word (j % 32)) 1 (bit.2 (j % 32) (omega arith)))
          (cases_lt (j / 32) at);
    }

pub all_set : (words : List ℕ) → position is_not_full words ≡ None → AllSet (flags words)
all_set words none =
    let past_all : length words ≤ position_or_len is_not_full words = grind (arith, nat_tests) in
    record {
      everywhere = λ j inside.
          let within : j / 32 < length words = omega (arith, flags_length words) in
          flag_of_full words j within (fails_before_first is_not_full words (j / 32) 0 (omega arith));
    }
