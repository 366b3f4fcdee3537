use Rattle.std.proofs.Common.{◌≡◌, ℕ, ◌*◌, ◌/◌, ◌%◌, ◌^◌, not, get_or, set, bit_xor, rules, sym, ap, ◌∙◌, arith}
use Rattle.std.proofs.lemmas.List.{set_past}
use Rattle.bits.specs.Flags.{flags, flag}
use Rattle.bits.proofs.Rows.{flags_length, flags_turned}
use Rattle.bits.proofs.Flags.turn.Goals as goal

pub returns-then-at-lt-ROW_WORDS : goal.returns-then-at-lt-ROW_WORDS
returns-then-at-lt-ROW_WORDS c =
    let words = c.args.self.now.words in
    let at : ℕ = c.args.place / 32 in
    let bit : 1 * 2 ^ (c.args.place % 32) % 2 ^ 32 ≡ 2 ^ (c.args.place % 32) = search rules in
    ap (λ b. flags (set words at (bit_xor (get_or words at 0) b))) bit
    ∙ flags_turned words c.args.place (omega (arith, c.args.self.now.long))

pub returns-else-at-lt-ROW_WORDS : goal.returns-else-at-lt-ROW_WORDS
returns-else-at-lt-ROW_WORDS c =
    let words = c.args.self.now.words in
    sym (set_past (flags words) c.args.place (not (flag (flags words) c.args.place)) (omega (arith, flags_length words, c.args.self.now.long)))
