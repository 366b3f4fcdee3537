use Rattle.std.proofs.Common.{◌≡◌, ℕ, List, eqb, map, reverse, sym, ap, ◌∙◌, rules, tests, ne_eqb}
use Rattle.std.proofs.lemmas.Iterator.{YieldsList-from_slice, YieldsList-from_zip}
use Rattle.std.proofs.lemmas.Iterator.Search.{all_from_yields_List}
use Rattle.std.proofs.lemmas.List.{length-map, reverse-reverse}
use Rattle.plain.specs.Feeding.{same_numbers}
use Rattle.standing.specs.declared.frames.Input.{Input}
use Rattle.inner.proofs.Funding.{compared, same_length}
use Rattle.inner.proofs.kept.Inner.are_parameters.Goals as goal

-- the numbers of the entries, first pushed first, beside those of the parameters
told : (xs : List Input) {ys zs : List ℕ} → ys ≡ zs →
    same_numbers (map (λ (x : Input). x.of) xs) ys ≡ same_numbers (map (λ (x : Input). x.of) (reverse (reverse xs))) zs
told xs {ys = ys} same =
    ap (λ ws. same_numbers (map (λ (x : Input). x.of) ws) ys) (sym (reverse-reverse xs)) ∙ ap (same_numbers (map (λ (x : Input). x.of) (reverse (reverse xs)))) same

pub returns-then-len-params : goal.returns-then-len-params
returns-then-len-params c =
    let xs = c.args.self.now.inputs.items in
    let ys = c.parameters-params.result.now in
    let chain = YieldsList-from_zip {s = c.zip.result} (YieldsList-from_slice xs cc) (YieldsList-from_slice ys cc) in
    let by_call = all_from_yields_List (λ (p : Input × ℕ). eqb p.0.of p.1) c.all.new.self _ c.all.result c.all.ensures.ran chain (λ x b q k. search (rules, tests)) in
    by_call ∙
    (compared (λ (x : Input). x.of) xs ys (sym c.len.ensures.value ∙ c.if-len-params.true) ∙
    told xs c.parameters-params.ensures)

pub returns-else-len-params : goal.returns-else-len-params
returns-else-len-params c =
    let xs = c.args.self.now.inputs.items in
    let ys = c.parameters-params.result.now in
    ne_eqb _ _ c.if-len-params.false ∙
    (sym (same_length (map (λ (x : Input). x.of) xs) ys (λ e. c.if-len-params.false (c.len.ensures.value ∙ (sym (length-map xs (λ (x : Input). x.of)) ∙ e)))) ∙
    told xs c.parameters-params.ensures)
