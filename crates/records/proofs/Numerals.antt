-- Two and four bytes stand for a number, and the number for them.
use Rattle.std.proofs.Common.{◌≡◌, ℕ, ◌+◌, ◌*◌, ◌/◌, ◌%◌, ◌<◌, [], ◌∷◌, arith}
use Rattle.records.specs.Writing.{in_two, in_four}
use Rattle.records.specs.Cutting.{two_bytes, four_bytes}

pub two_back : (n : ℕ) → two_bytes (n / 256) (n % 256) ≡ n
two_back n = omega arith

pub four_back : (n : ℕ) → four_bytes (n / 0x1000000) (n / 0x10000 % 256) (n / 256 % 256) (n % 256) ≡ n
four_back n = omega arith

pub two_split : (high low : ℕ) → low < 256 → in_two (two_bytes high low) ≡ high ∷ (low ∷ [])
two_split high low l =
    let h : (high * 256 + low) / 256 ≡ high = omega arith in
    let r : (high * 256 + low) % 256 ≡ low = omega arith in
    cc

pub four_split : (a b c d : ℕ) → b < 256 → c < 256 → d < 256 → in_four (four_bytes a b c d) ≡ a ∷ (b ∷ (c ∷ (d ∷ [])))
four_split a b c d hb hc hd =
    let n = four_bytes a b c d in
    let e3 : n / 0x1000000 ≡ a = omega arith in
    let e2 : n / 0x10000 % 256 ≡ b = omega arith in
    let e1 : n / 256 % 256 ≡ c = omega arith in
    let e0 : n % 256 ≡ d = omega arith in
    cc
