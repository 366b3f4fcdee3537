use Rattle.std.proofs.Common.{rules}
use Rattle.std.proofs.Output.{has_written_append, has_written_of_eq}
use Rattle.check_text.specs.Reports.{numbered_line}
use Rattle.check_text.proofs.Said.{said_more}
use Rattle.check_text.proofs.tables.TableDisplay.fmt.Goals as goal

pub loop-i-preserved : goal.loop-i-preserved
loop-i-preserved g c = λ plain.
    has_written_of_eq _ _ _ _ _ (said_more (λ n e. numbered_line n (g.T.Entry.record_of e)) c.args.self.now.first c.args.self.now.entries.now c.loop-i.i c.entry-item.result c.entry-item.result c.loop-i-test.true c.entry-item.is)
    (has_written_append _ _ _ _ _ _ (c.loop-i.invariant plain) (search rules))
