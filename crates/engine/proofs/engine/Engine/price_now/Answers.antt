use Rattle.std.proofs.Common.{◌+◌, ◌≤◌, sym, ap, ◌∙◌, subst, rules}
use Rattle.plain.specs.States.{main_function}
use Rattle.standing.specs.Serving.{price as price_at}
use Rattle.inner.specs.declared.kept.State.TheVariants.{Open}
use Rattle.inner.specs.Kinds.{function_in}
use Rattle.inner.specs.Meant.{sheet_of}
use Rattle.inner.specs.Serving.{greatest_price}
use Rattle.inner.proofs.Moments.{open_moment}
use Rattle.inner.proofs.Prices.{open_sheet, first_known, price_fits, brought_turned}
use Rattle.inner.proofs.States.{told_same}
use Rattle.engine.specs.Service.{cells_of, capacity_of}
use Rattle.engine.proofs.engine.Engine.price_now.Goals as goal

pub function-entry-requires : goal.function-entry-requires
function-entry-requires g c =
    let M = g.S.Meaning in
    let e = c.args.self.now in
    let l = open_sheet (capacity_of M e) (cells_of M e) e.inner c.requires.in_service.serving (told_same e.inner.state Open _ c.ne.ensures c.if-ne.false) in
    record { known = first_known e.inner.sheet l.0 l.1 }

pub brought-requires : goal.brought-requires
brought-requires g c =
    let M = g.S.Meaning in
    let e = c.args.self.now in
    subst (λ n. n ≤ greatest_price) (brought_turned e.inner.inputs.items)
    (price_fits (capacity_of M e) (cells_of M e) e.inner (M.within e.store c.requires.in_service.ok) (M.small e.store c.requires.in_service.ok) c.requires.in_service.serving
    (told_same e.inner.state Open _ c.ne.ensures c.if-ne.false))

pub overflow_add-result : goal.overflow_add-result
overflow_add-result g c =
    let M = g.S.Meaning in
    let e = c.args.self.now in
    let few : c.brought.result ≤ greatest_price =
    subst (λ n. n ≤ greatest_price) (brought_turned e.inner.inputs.items ∙ sym c.brought.ensures)
    (price_fits (capacity_of M e) (cells_of M e) e.inner (M.within e.store c.requires.in_service.ok) (M.small e.store c.requires.in_service.ok) c.requires.in_service.serving
    (told_same e.inner.state Open _ c.ne.ensures c.if-ne.false)) in
    search rules

pub returns : goal.returns
returns g c =
    let M = g.S.Meaning in
    let e = c.args.self.now in
    let i = e.inner in
    let p = told_same i.state Open _ c.ne.ensures c.if-ne.false in
    let l = open_sheet (capacity_of M e) (cells_of M e) i c.requires.in_service.serving p in
    let main = ap (λ f. f.signature.entry) (c.function-entry.ensures ∙ ap (λ o. function_in o 0) l.1) in
    ap (λ n. n + c.brought.result) main ∙
    (ap (λ n. (main_function (sheet_of l.0)).signature.entry + n) (c.brought.ensures ∙ sym (brought_turned i.inputs.items)) ∙
    sym (ap price_at (open_moment i l.0 p l.1)))
