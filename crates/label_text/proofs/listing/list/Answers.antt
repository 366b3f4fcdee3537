use Rattle.std.proofs.Common.{◌++◌, ap, ◌∙◌}
use Rattle.label_text.specs.declared.walk.Walk.{Walk}
use Rattle.label_text.specs.Entries.{left}
use Rattle.label_text.proofs.Lines.{entry_lines, lines_in_sheet}
use Rattle.label_text.proofs.listing.list.Goals as goal

pub loop-entry-init : goal.loop-entry-init
loop-entry-init c =
    ap (λ text. text ++ entry_lines (left c.into_iter-entry-iterator.result.reader c.into_iter-entry-iterator.result.numbering)) c.new-text.ensures.bytes
    ∙ ap (λ (w : Walk). entry_lines (left w.reader w.numbering)) c.into_iter-entry-iterator.ensures.into_iter_gives
    ∙ ap entry_lines c.new-entry-items.ensures ∙ lines_in_sheet c.args.bytes.now
