use Rattle.std.proofs.Common.{◌≡◌, suc, ◌+◌, ◌-◌, ◌++◌, rules, sym, ◌∙◌, arith}
use Rattle.std.proofs.Output.{has_written_append, has_written_of_eq}
use Rattle.sheet.specs.Sheets.{sheet_tables}
use Rattle.check_text.specs.Reports.{amounts, amount_text}
use Rattle.check_text.proofs.Amounts.{amount_more, amounts_end, amounts_full}
use Rattle.check_text.proofs.asking.AmountsDisplay.fmt.Goals as goal

pub loop-preserved : goal.loop-preserved
loop-preserved g c = λ plain.
    let so_far = c.loop.invariant plain in
    let less = c.loop-test.true in
    let left : 32 - c.loop.counter ≡ suc (32 - (c.loop.counter + 1)) = omega arith in (
      so_far.0 ++ amount_text c.loop.t c.in-Some.node,
      has_written_append _ _ _ _ _ _ so_far.1 (search rules),
      amount_more (sheet_tables c.args.self.now.sheet.now).types so_far.0 (amounts (sheet_tables c.args.self.now.sheet.now).types c.args.self.now.of) (32 - c.loop.counter) c.loop.t so_far.2
          (32 - (c.loop.counter + 1)) c.in-Some.node left c.in-Some.ensures,
    )

pub returns-in_default-clause-writes : goal.returns-in_default-clause-writes
returns-in_default-clause-writes g c = λ plain _.
    let so_far = c.loop.invariant plain in
    let less = c.loop-test.true in
    let left : 32 - c.loop.counter ≡ suc (32 - (c.loop.counter + 1)) = omega arith in
    has_written_of_eq _ _ _ _ _
    (amounts_end (sheet_tables c.args.self.now.sheet.now).types so_far.0 (amounts (sheet_tables c.args.self.now.sheet.now).types c.args.self.now.of) (32 - c.loop.counter) c.loop.t so_far.2
    (32 - (c.loop.counter + 1)) left (sym c.in_default.is ∙ c.list_type.ensures))
    so_far.1

pub returns-after-loop-clause-writes : goal.returns-after-loop-clause-writes
returns-after-loop-clause-writes g c = λ plain _.
    let so_far = c.loop.invariant plain in
    let over = c.loop-test.false in
    has_written_of_eq _ _ _ _ _
    (amounts_full (sheet_tables c.args.self.now.sheet.now).types so_far.0 (amounts (sheet_tables c.args.self.now.sheet.now).types c.args.self.now.of) (32 - c.loop.counter) c.loop.t so_far.2 (omega arith))
    so_far.1
