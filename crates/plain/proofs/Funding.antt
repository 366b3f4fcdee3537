-- An accepted fund makes a funded run; the law of amounts.
use Rattle.std.proofs.Common.{◌≡◌, ℕ, ◌≤◌, Bool, true, false, leb, List, [], ◌∷◌, map, reverse, take, refl, subst, arith, leb-true}
use Rattle.rules.specs.Types.{type_of}
use Rattle.rules.specs.Lawful.{Lawful}
use Rattle.rules.specs.Rules.{parameters}
use Rattle.rules.proofs.Truth.{impossible}
use Rattle.plain.specs.Calls.{Refusal, accepted}
use Rattle.plain.specs.States.{Sheet, main_function, Entry, State, open_with, entries_nodes, free, price_of, served}
use Rattle.plain.specs.Feeding.{unless_refused, are_parameters, first_frame}
use Rattle.plain.specs.Paid.{no_caller, paid}
use Rattle.plain.specs.Funded.{EntriesTyped, Funded}
use Rattle.plain.specs.Law.{spare_at, FundingPays, AFundedRunNeverLacksACell}
use Rattle.plain.proofs.Starts.{begin}
use Rattle.plain.proofs.Callable.{all_callable}
use Rattle.plain.proofs.Entries.{same_lists, Arguments, arguments}
use Rattle.plain.proofs.Runs.{steps_keep_what_is_paid, makes_funded}

-- a call that is accepted after two tests has passed both
two_tests : (a b : Bool) (r q : Refusal) (s t : State) → (unless_refused a r s (unless_refused b q s (served accepted t))).answer ≡ accepted → (a ≡ true) × (b ≡ true)
two_tests true true r q s t e = (refl, refl)
two_tests true false r q s t e = impossible (cc)
two_tests false b r q s t e = impossible (cc)

-- an accepted fund leaves the run that it begins
pub begins : (a b : Bool) (r q : Refusal) (s t : State) → (unless_refused a r s (unless_refused b q s (served accepted t))).answer ≡ accepted →
    (unless_refused a r s (unless_refused b q s (served accepted t))).after ≡ t
begins true true r q s t e = refl
begins true false r q s t e = impossible (cc)
begins false b r q s t e = impossible (cc)

-- with the parameters on the stack and the price free, the run is funded
pub tested_pays : (s : Sheet) (es : List Entry) (capacity : ℕ) → Lawful s.bytes s.tables → EntriesTyped s.tables.types es →
    entries_nodes es ≤ capacity → are_parameters s es ≡ true → leb (price_of s es) (free capacity (open_with s es)) ≡ true →
    Funded s (spare_at capacity s es) capacity (first_frame s es ∷ [])
tested_pays s es capacity lawful typed within right enough =
    let cheap = leb-true (price_of s es) (free capacity (open_with s es)) enough in
    let g = (main_function s).signature in
    let same = same_lists (map (λ e. e.type_number) (reverse es)) (take g.count g.params) right in
    let given : Arguments s.tables.types es (parameters s.tables.types g) (map (λ e. e.value) (reverse es)) =
    subst (λ ns. Arguments s.tables.types es (map (type_of s.tables.types) ns) (map (λ e. e.value) (reverse es))) same (arguments typed) in
    let it = all_callable lawful 0 lawful.form.some_function in
    let x = begin given.typed it.few in
    record { within = omega arith; pays = paid x.filled it.continues no_caller (omega arith) (omega arith) }

pub funding_pays : FundingPays
funding_pays s es capacity lawful typed within e =
    let tests = two_tests (are_parameters s es) (leb (price_of s es) (free capacity (open_with s es))) _ _ _ _ e in
    tested_pays s es capacity lawful typed within tests.0 tests.1

pub a_funded_run_never_lacks_a_cell : AFundedRunNeverLacksACell
a_funded_run_never_lacks_a_cell s es capacity n f fs lawful typed within e run =
    let funded = makes_funded lawful run (funding_pays s es capacity lawful typed within e) in
    (funded, steps_keep_what_is_paid s (spare_at capacity s es) capacity f fs lawful funded)
