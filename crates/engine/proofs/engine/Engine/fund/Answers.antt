use Rattle.std.proofs.Common.{◌≡◌, ◌<◌, ◌≤◌, Bool, map, reverse, take, Some, sym, refl, ap, ◌∙◌, subst}
use Rattle.cells.specs.Cells.{free}
use Rattle.rules.specs.declared.functions.FunctionEntry.{FunctionEntry}
use Rattle.plain.specs.Feeding.{same_numbers}
use Rattle.plain.specs.States.{main_function}
use Rattle.sheet.specs.declared.passed.Sheet.{Sheet as LoadedSheet}
use Rattle.standing.specs.declared.frames.Input.{Input}
use Rattle.standing.specs.Serving.{are_parameters, price}
use Rattle.standing.specs.Stepping.{word_frame}
use Rattle.inner.specs.declared.kept.Inner.{Inner}
use Rattle.inner.specs.declared.kept.State.TheVariants.{Open}
use Rattle.inner.specs.Changes.{started}
use Rattle.inner.specs.Kinds.{function_in}
use Rattle.inner.specs.Meant.{sheet_of, input_stack, moment}
use Rattle.inner.proofs.Excluded.{fund_excluded}
use Rattle.inner.proofs.States.{told_same, told_other}
use Rattle.inner.proofs.Funding.{funds_does, fund_mistaken_does, fund_unpaid_does}
use Rattle.inner.specs.Serving.{Does}
use Rattle.plain.specs.Calls.{Answer, fund}
use Rattle.engine.proofs.Calls.{call_made}
use Rattle.inner.proofs.Prices.{open_sheet, first_known}
use Rattle.engine.specs.declared.engine.Engine.{Engine}
use Rattle.engine.specs.Service.{cells_of, capacity_of, InService, CallMade}
use Rattle.engine.proofs.engine.Engine.fund.Given.{Over}
use Rattle.engine.proofs.engine.Engine.fund.Goals as goal

-- the sheet of an engine that is Open
sheet_there : (g : Over) (e : Engine g.row.S.Denot) → InService g.S.Meaning e → e.inner.state ≡ Open → (s : LoadedSheet) × (e.inner.sheet ≡ Some s)
sheet_there g e v p = open_sheet (capacity_of g.S.Meaning e) (cells_of g.S.Meaning e) e.inner v.serving p

-- function 0 of what is kept is that of the sheet
its_main : (i : Inner) (s : LoadedSheet) (f : FunctionEntry) → i.sheet ≡ Some s → f ≡ function_in i.sheet 0 → f ≡ main_function (sheet_of s)
its_main i s f p e = e ∙ ap (λ o. function_in o 0) p

-- so its parameters are those that the sheet asks for
its_parameters : (i : Inner) (s : LoadedSheet) (f : FunctionEntry) (told : Bool) → f ≡ main_function (sheet_of s) →
    told ≡ same_numbers (map (λ (x : Input). x.of) (reverse (input_stack i))) (take f.signature.count f.signature.params) →
    are_parameters (sheet_of s) (input_stack i) ≡ told
its_parameters i s f told e is =
    sym (subst (λ (x : FunctionEntry). told ≡ same_numbers (map (λ (y : Input). y.of) (reverse (input_stack i))) (take x.signature.count x.signature.params)) e is)

pub function-main-requires : goal.function-main-requires
function-main-requires g c =
    let l = sheet_there g c.args.self.now c.requires.in_service (told_same c.args.self.now.inner.state Open _ c.ne.ensures c.if-ne.false) in
    record { known = first_known c.args.self.now.inner.sheet l.0 l.1 }

-- the complete outcome, from what funding does on words and cells
made_by : (g : Over) (e f : Engine g.row.S.Denot) (a : Answer) → InService g.S.Meaning e → g.S.Meaning.ok f.store → capacity_of g.S.Meaning f ≡ capacity_of g.S.Meaning e →
    Does (capacity_of g.S.Meaning e) (cells_of g.S.Meaning e) e.inner fund a (cells_of g.S.Meaning f) f.inner → CallMade g.S.Meaning e fund a f
made_by g e f a v kept same d = call_made g.S.Meaning e f fund a v (record { ok = kept; capacity = same; does = d })

pub returns-then-ne : goal.returns-then-ne
returns-then-ne g c =
    made_by g c.args.self.now c.args.self.now _ c.requires.in_service c.requires.in_service.ok refl
    (fund_excluded (capacity_of g.S.Meaning c.args.self.now) (cells_of g.S.Meaning c.args.self.now) c.args.self.now.inner c.requires.in_service.serving.kept c.requires.in_service.serving.fits
    (told_other c.args.self.now.inner.state Open _ c.ne.ensures c.if-ne.true))

pub returns-then-not-are_parameters : goal.returns-then-not-are_parameters
returns-then-not-are_parameters g c =
    let i = c.args.self.now.inner in
    let l = sheet_there g c.args.self.now c.requires.in_service (told_same c.args.self.now.inner.state Open _ c.ne.ensures c.if-ne.false) in
    let main = its_main i l.0 c.function-main.result l.1 c.function-main.ensures in
    made_by g c.args.self.now c.args.self.now _ c.requires.in_service c.requires.in_service.ok refl
    (fund_mistaken_does (capacity_of g.S.Meaning c.args.self.now) (cells_of g.S.Meaning c.args.self.now) i c.requires.in_service.serving.kept c.requires.in_service.serving.fits _ i
    (record {
      is_open = (told_same c.args.self.now.inner.state Open _ c.ne.ensures c.if-ne.false);
      sheet = l.0;
      loaded = l.1;
      others = its_parameters i l.0 c.function-main.result c.are_parameters.result main c.are_parameters.ensures ∙ c.if-not-are_parameters.true;
      same = record { inner = refl; cells = refl };
    }))

pub returns-then-free-price : goal.returns-then-free-price
returns-then-free-price g c =
    let i = c.args.self.now.inner in
    let l = sheet_there g c.args.self.now c.requires.in_service (told_same c.args.self.now.inner.state Open _ c.ne.ensures c.if-ne.false) in
    let main = its_main i l.0 c.function-main.result l.1 c.function-main.ensures in
    let asked : c.price_now-price.result ≡ price (moment i) = c.price_now-price.ensures in
    let told : c.free.result ≡ free (capacity_of g.S.Meaning c.args.self.now) (cells_of g.S.Meaning c.args.self.now) = c.free.ensures in
    let less : c.free.result < c.price_now-price.result = c.if-free-price.true in
    let fewer : free (capacity_of g.S.Meaning c.args.self.now) (cells_of g.S.Meaning c.args.self.now) < c.price_now-price.result = subst (λ n. n < c.price_now-price.result) told less in
    made_by g c.args.self.now c.args.self.now _ c.requires.in_service c.requires.in_service.ok refl
    (fund_unpaid_does (capacity_of g.S.Meaning c.args.self.now) (cells_of g.S.Meaning c.args.self.now) i c.requires.in_service.serving.kept c.requires.in_service.serving.fits c.price_now-price.result _ i
    (record {
      is_open = (told_same c.args.self.now.inner.state Open _ c.ne.ensures c.if-ne.false);
      sheet = l.0;
      loaded = l.1;
      parameters = its_parameters i l.0 c.function-main.result c.are_parameters.result main c.are_parameters.ensures ∙ c.if-not-are_parameters.false;
      its_price = asked;
      unpaid = subst (λ n. free (capacity_of g.S.Meaning c.args.self.now) (cells_of g.S.Meaning c.args.self.now) < n) asked fewer;
      same = record { inner = refl; cells = refl };
    }))

pub returns : goal.returns
returns g c =
    let i = c.args.self.now.inner in
    let l = sheet_there g c.args.self.now c.requires.in_service (told_same c.args.self.now.inner.state Open _ c.ne.ensures c.if-ne.false) in
    let main = its_main i l.0 c.function-main.result l.1 c.function-main.ensures in
    let asked : c.price_now-price.result ≡ price (moment i) = c.price_now-price.ensures in
    let told : c.free.result ≡ free (capacity_of g.S.Meaning c.args.self.now) (cells_of g.S.Meaning c.args.self.now) = c.free.ensures in
    let enough : c.price_now-price.result ≤ c.free.result = c.if-free-price.false in
    let left : c.price_now-price.result ≤ free (capacity_of g.S.Meaning c.args.self.now) (cells_of g.S.Meaning c.args.self.now) = subst (λ n. c.price_now-price.result ≤ n) told enough in
    made_by g c.args.self.now _ _ c.requires.in_service c.requires.in_service.ok refl
    (funds_does (capacity_of g.S.Meaning c.args.self.now) (cells_of g.S.Meaning c.args.self.now) i c.requires.in_service.serving.kept _ c.start.new.self
    (record {
      is_open = (told_same c.args.self.now.inner.state Open _ c.ne.ensures c.if-ne.false);
      sheet = l.0;
      loaded = l.1;
      parameters = its_parameters i l.0 c.function-main.result c.are_parameters.result main c.are_parameters.ensures ∙ c.if-not-are_parameters.false;
      paid = subst (λ n. n ≤ free (capacity_of g.S.Meaning c.args.self.now) (cells_of g.S.Meaning c.args.self.now)) asked left;
      inner = c.start.ensures ∙
          (ap (λ (x : FunctionEntry). started i (word_frame x.body c.argument_slots-slots.result 0)) main ∙
          ap (λ (S : _). started i (word_frame (main_function (sheet_of l.0)).body S 0)) c.argument_slots-slots.ensures);
      cells = refl;
    }))
