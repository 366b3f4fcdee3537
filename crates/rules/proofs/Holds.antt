-- The verdict accepts exactly the lawful sheets.
use Rattle.std.proofs.Common.{◌≡◌, ℕ, zero, suc, ◌<◌, List, [], ◌∷◌, length, get_or, Ok, Err, Result, sym, refl, ap, ◌∙◌, subst, arith}
use Rattle.records.specs.declared.faults.Fault.{Fault}
use Rattle.records.specs.declared.rounds.Tally.{Tally}
use Rattle.records.specs.Rows.{row}
use Rattle.records.specs.FirstRound.{first_round}
use Rattle.rules.specs.declared.functions.FunctionEntry.{FunctionEntry}
use Rattle.rules.specs.Programs.{Tables, program, no_function}
use Rattle.rules.specs.Rules.{FunctionDerives}
use Rattle.rules.specs.Lawful.{Lawful}
use Rattle.rules.specs.SecondRound.{no_tables, gathered}
use Rattle.rules.specs.ThirdRound.{Answer, between, bodies_pass}
use Rattle.rules.specs.Verdict.{after_third, after_second, after_first, verdict}
use Rattle.rules.specs.Law.{CheckAcceptsWhatTheRulesDerive}
use Rattle.rules.proofs.Chains.{Each, each_none, each_more}
use Rattle.rules.proofs.Cuts.{fetch_end, whole_chain, first_whole, first_passes}
use Rattle.rules.proofs.Gathers.{gathered_adds, adds_gathered}
use Rattle.rules.proofs.PassedDerives.{passed_derives}
use Rattle.rules.proofs.DerivesPassed.{derives_passed}
use Rattle.rules.proofs.Lower.{lower_none, adds_lower}
use Rattle.rules.proofs.FormGained.{formed}
use Rattle.rules.proofs.FormMet.{form_whole, form_layout, form_adds}

module _ (bytes : List ℕ) (t : Tables) where
  each_at : {fs : List FunctionEntry} → Each bytes t fs → (f : ℕ) → f < length fs → FunctionDerives (program bytes t) (get_or fs f no_function)
  each_at each_none f h = absurd (omega arith)
  each_at (each_more k ks) zero h = k
  each_at (each_more k ks) (suc f) h = each_at ks f (omega arith)

  all_each : (fs : List FunctionEntry) → ((f : ℕ) → f < length fs → FunctionDerives (program bytes t) (get_or fs f no_function)) → Each bytes t fs
  all_each [] all = each_none
  all_each (f ∷ fs) all = each_more (all 0 (omega arith)) (all_each fs (λ i h. all (suc i) (omega arith)))

  after_third_passed : (v : Answer) (u : Tables) → after_third v u ≡ Ok t → (u ≡ t) × (v ≡ Ok tt)
  after_third_passed (Ok tt) u q = (cc, refl)
  after_third_passed (Err f) u q = cc

  record RoundsPass : Type 0 where
    tally : Tally
    first : first_round bytes ≡ Ok tally
    second : gathered (row bytes 0) no_tables ≡ Ok t
    third : bodies_pass t (row bytes 0) between ≡ Ok tt

  second_passed : (v : Result Tables Fault) → gathered (row bytes 0) no_tables ≡ v → after_second v (row bytes 0) ≡ Ok t →
      (gathered (row bytes 0) no_tables ≡ Ok t) × (bodies_pass t (row bytes 0) between ≡ Ok tt)
  second_passed (Err f) e q = cc
  second_passed (Ok u) e q =
      let k = after_third_passed (bodies_pass u (row bytes 0) between) u q in
      (e ∙ ap (λ (x : Tables). Ok x) k.0, subst (λ (x : Tables). bodies_pass x (row bytes 0) between ≡ Ok tt) k.0 k.1)

  first_passed : (v : Result Tally Fault) → first_round bytes ≡ v → after_first v (row bytes 0) ≡ Ok t → RoundsPass
  first_passed (Err f) e q = cc
  first_passed (Ok u) e q =
      let k = second_passed (gathered (row bytes 0) no_tables) refl q in record { tally = u; first = e; second = k.0; third = k.1 }

  accepted_lawful : verdict bytes ≡ Ok t → Lawful bytes t
  accepted_lawful q =
      let rounds = first_passed (first_round bytes) refl q in
      let w = first_whole bytes rounds.tally rounds.first in
      let chain = whole_chain bytes w.0 in
      let adds = gathered_adds bytes chain no_tables t rounds.second in
      let lower = adds_lower adds lower_none in
      let laid = passed_derives bytes t lower chain rounds.third in
      let k = formed bytes t w.1 lower laid.layout adds in
      record {
        form = k.form;
        derives = each_at (subst (λ fs. Each bytes t fs) (sym k.entries_are) laid.each);
      }

  lawful_accepted : Lawful bytes t → verdict bytes ≡ Ok t
  lawful_accepted l =
      let form = l.form in
      let w = form_whole bytes t form in
      let chain = whole_chain bytes w in
      let stop = fetch_end bytes (length bytes) (omega arith) in
      let first = first_passes bytes w form.short in
      let second = adds_gathered bytes (form_adds bytes t form) (row bytes 0) chain stop in
      let third = derives_passed bytes t form.lower (form_layout bytes t form) (all_each t.functions l.derives) (row bytes 0) chain stop in
      ap (λ v. after_first v (row bytes 0)) first.1 ∙ ap (λ v. after_second v (row bytes 0)) second ∙ ap (λ v. after_third v t) third

pub check_accepts_what_the_rules_derive : CheckAcceptsWhatTheRulesDerive
check_accepts_what_the_rules_derive bytes t = (accepted_lawful bytes t, lawful_accepted bytes t)
