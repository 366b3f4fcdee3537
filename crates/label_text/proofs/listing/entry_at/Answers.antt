use Rattle.std.proofs.Common.{◌≡◌, eqb, rules}
use Rattle.std.specs.Iterator.{YieldsFirst}
use Rattle.std.specs.List.{find}
use Rattle.std.specs.Option.{option_map}
use Rattle.std.proofs.lemmas.Iterator.Consumers.{YieldsList-from_first}
use Rattle.std.proofs.lemmas.Iterator.Search.{find_from_yields_List}
use Rattle.std.proofs.lemmas.Iterator.Adapters.{option_map_id}
use borrow.Author.Tests.{tests}
use Rattle.label_text.specs.declared.entries.Entry.{Entry}
use Rattle.label_text.specs.declared.walk.Walk.{Walk}
use Rattle.label_text.specs.Entries.{entries_in, left}
use Rattle.label_text.proofs.listing.entry_at.Goals as goal

pub returns : goal.returns
returns c =
    let found : option_map (λ (e : Entry). e) c.find.result ≡ find (λ (e : Entry). eqb e.at c.args.place) (entries_in c.args.bytes.now) =
    find_from_yields_List {steps = YieldsFirst (λ (w : Walk). left w.reader w.numbering)} {s = c.new.result} (λ (e : Entry). eqb e.at c.args.place) c.find.new.self _ c.find.result c.find.ensures.ran
    (YieldsList-from_first (λ (e : Entry). e) (λ (w : Walk). left w.reader w.numbering) {s = c.new.result} (entries_in c.args.bytes.now) c.new.ensures) (λ x b q k. search (rules, tests)) in
    rw option_map_id at found
