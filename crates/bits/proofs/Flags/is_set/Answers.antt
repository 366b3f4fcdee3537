use Rattle.std.proofs.Common.{ℕ, ◌/◌, ◌%◌, false, eqb, sym, ap, ◌∙◌, arith}
use Rattle.std.proofs.lemmas.List.{get_or_past}
use Rattle.std.proofs.lemmas.Nat.Bits.{shr_and_one}
use Rattle.bits.specs.Flags.{bit_of, flags}
use Rattle.bits.proofs.Rows.{flags_length, flag_is_bit}
use Rattle.bits.proofs.Flags.is_set.Goals as goal

pub returns-in_default : goal.returns-in_default
returns-in_default c =
    let words = c.args.self.now.words in
    let past = c.in_default.ensures.lookup.3 in
    sym (get_or_past (flags words) c.args.place false (omega (arith, flags_length words)))

pub returns : goal.returns
returns c =
    let words = c.args.self.now.words in
    let place : ℕ = c.args.place in
    let found = c.in-Some.ensures.lookup.3 in
    ap (λ b. eqb b 1) (shr_and_one c.in-Some.field-0.now (place % 32))
    ∙ ap (λ w. bit_of w (place % 32)) (found.1 0)
    ∙ sym (flag_is_bit words (place / 32) (place % 32) place (omega arith) found.0 (omega arith))
