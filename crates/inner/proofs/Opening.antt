-- That loading, giving up and asking do what they do on words. Rests on the moments of each state.
use Rattle.std.proofs.Common.{◌≡◌, ℕ, true, false, List, [], reverse, Some, None, Option, sym, refl, ap, ◌∙◌, subst, arith}
use Rattle.records.specs.declared.faults.Fault.{Fault}
use Rattle.rules.specs.Verdict.{verdict}
use Rattle.cells.specs.Cells.{Map, empty, count, free}
use Rattle.plain.specs.Calls.{Request, Answer, accepted, bad_sheet, excluded, refused_with, counted, in_phase, load, abandon, ask_price, ask_free, ask_held, ask_state}
use Rattle.sheet.specs.declared.passed.Sheet.{Sheet as LoadedSheet}
use Rattle.sheet.specs.Sheets.{sheet_tables}
use Rattle.standing.specs.Moments.{open_with}
use Rattle.standing.specs.Serving.{done, loaded, load_on_words, abandon_on_words, price}
use Rattle.inner.specs.declared.kept.Inner.{Inner}
use Rattle.inner.specs.declared.kept.State.{State}
use Rattle.inner.specs.declared.kept.State.TheVariants.{Bare, Open, Running, Done}
use Rattle.inner.specs.Meant.{moment, moment_in, sheet_of, phase_of, admits_load, Loaded, WellKept}
use Rattle.inner.specs.Changes.{opened, opened_with, abandoned, abandoned_in}
use Rattle.inner.proofs.Outcomes.{Same, Loads, LoadRefused, LoadExcluded}
use Rattle.inner.specs.Serving.{PriceFits, Does}
use Rattle.inner.proofs.Keeping.{opened_kept, opened_with_kept}
use Rattle.inner.proofs.Moments.{bare_moment, open_moment, running_moment, done_moment}
use Rattle.inner.proofs.Stepping.{told_alters, same_unaltered, is_there}
use Rattle.inner.proofs.Excluded.{load_excluded, phase_kept}

false_is_true : false ≡ true → ⊥
false_is_true e = let z : ◌≡◌ {A = ℕ} 0 1 = cc in omega arith

load_at : (a : State) (o : Option LoadedSheet) (i : Inner) (m : Map) (bytes : List ℕ) → admits_load a ≡ true →
    load_on_words (moment_in a o i) m bytes ≡ loaded bytes (verdict bytes) (moment_in a o i) m
load_at Bare o i m bytes h = refl
load_at Open None i m bytes h = refl
load_at Open (Some s) i m bytes h = refl
load_at Running o i m bytes h = absurd (false_is_true h)
load_at Done o i m bytes h = absurd (false_is_true h)

-- nothing is entered, so what is entered brings nothing
pub open_fits : (i : Inner) (s : LoadedSheet) (n : Map) → i.state ≡ Open → i.sheet ≡ Some s → i.inputs.items ≡ [] → PriceFits (moment i) n
open_fits i s n p q none =
    subst (λ w. PriceFits w n) (sym (open_moment i s p q ∙ ap (λ xs. open_with (sheet_of s) (reverse xs)) none)) (omega arith)

module _ (capacity : ℕ) (m : Map) (i : Inner) (kept : WellKept i) where
  pub loads_does : (bytes : List ℕ) (n : Map) (j : Inner) → Loads m i bytes n j → Does capacity m i (load bytes) accepted n j
  loads_does bytes n j x =
      let s = x.sheet in
      let k = opened_with i s in
      subst (λ y. Does capacity m i (load bytes) accepted n y) (sym x.inner)
      (record {
        kept = opened_with_kept i kept s;
        fits = open_fits k s n refl refl refl;
        did =
            sym (load_at i.state i.sheet i m bytes x.admitted ∙
            (ap (λ v. loaded bytes v (moment i) m) x.passed ∙
            (ap (λ b. done accepted (open_with (record { bytes = b; tables = sheet_tables s }) []) empty) (sym x.copied) ∙
            ap (λ c. done accepted (moment k) c) (sym x.cells))));
        unaltered = told_alters accepted tt;
      })

  module _ (fits : PriceFits (moment i) m) where
    -- what is the same behind a call
    pub same_does : {n : Map} {j : Inner} (r : Request) (a : Answer) → Same m i n j → Does capacity m i r a m i → Does capacity m i r a n j
    same_does {n} {j} r a same d = subst (λ y. Does capacity m i r a n y) (sym same.inner) (subst (λ c. Does capacity m i r a c i) (sym same.cells) d)

    pub load_refused_does : (bytes : List ℕ) (f : Fault) (n : Map) (j : Inner) → LoadRefused m i bytes f n j →
        Does capacity m i (load bytes) (refused_with (bad_sheet f)) n j
    load_refused_does bytes f n j x =
        same_does (load bytes) (refused_with (bad_sheet f)) x.same
        (record {
          kept = kept;
          fits = fits;
          did = sym (load_at i.state i.sheet i m bytes x.admitted ∙ ap (λ v. loaded bytes v (moment i) m) x.failed);
          unaltered = same_unaltered m i _;
        })

    pub load_excluded_does : (bytes : List ℕ) (n : Map) (j : Inner) → LoadExcluded m i n j → Does capacity m i (load bytes) (refused_with excluded) n j
    load_excluded_does bytes n j x =
        same_does (load bytes) (refused_with excluded) x.same
        (load_excluded capacity m i kept fits bytes (λ q. false_is_true (sym x.not_admitted ∙ ap admits_load q))
        (λ q. false_is_true (sym x.not_admitted ∙ ap admits_load q)))

    pub price_does : Does capacity m i ask_price (counted (price (moment i))) m i
    price_does = record { kept = kept; fits = fits; did = refl; unaltered = same_unaltered m i _ }

    pub free_does : Does capacity m i ask_free (counted (free capacity m)) m i
    free_does = record { kept = kept; fits = fits; did = refl; unaltered = same_unaltered m i _ }

    pub held_does : Does capacity m i ask_held (counted (count m)) m i
    held_does = record { kept = kept; fits = fits; did = refl; unaltered = same_unaltered m i _ }

    pub state_does : Does capacity m i ask_state (in_phase (phase_of i.state)) m i
    state_does =
        record { kept = kept; fits = fits; did = ap (λ p. done (in_phase p) (moment i) m) (sym (phase_kept i kept)); unaltered = same_unaltered m i _ }

    -- giving up where there is a sheet
    from_loaded : (s : LoadedSheet) → i.sheet ≡ Some s → abandon_on_words (moment i) ≡ done accepted (open_with (sheet_of s) []) empty →
        Does capacity m i abandon accepted empty (opened i)
    from_loaded s q e =
        record {
          kept = opened_kept i kept (is_there q);
          fits = open_fits (opened i) s empty refl q refl;
          did = ap (λ w. done accepted w empty) (open_moment (opened i) s refl q) ∙ sym e;
          unaltered = told_alters accepted tt;
        }

    -- giving up, by state and sheet
    abandon_at : (a : State) (o : Option LoadedSheet) → i.state ≡ a → i.sheet ≡ o → Loaded a o → Does capacity m i abandon accepted empty (abandoned_in a i)
    abandon_at Bare o p q there =
        let was = bare_moment i p in
        record {
          kept = kept;
          fits = subst (λ w. PriceFits w empty) (sym was) tt;
          did = ap (λ w. done accepted w empty) was ∙ sym (ap abandon_on_words was);
          unaltered = told_alters accepted tt;
        }
    abandon_at Open None p q there = absurd (let z : ◌≡◌ {A = ℕ} 0 1 = cc in omega arith)
    abandon_at Open (Some s) p q there = from_loaded s q (ap abandon_on_words (open_moment i s p q))
    abandon_at Running None p q there = absurd (let z : ◌≡◌ {A = ℕ} 0 1 = cc in omega arith)
    abandon_at Running (Some s) p q there = from_loaded s q (ap abandon_on_words (running_moment i s p q))
    abandon_at Done None p q there = absurd (let z : ◌≡◌ {A = ℕ} 0 1 = cc in omega arith)
    abandon_at Done (Some s) p q there = from_loaded s q (ap abandon_on_words (done_moment i s p q))

    pub abandon_does : (n : Map) (j : Inner) → j ≡ abandoned i → n ≡ empty → Does capacity m i abandon accepted n j
    abandon_does n j e c =
        subst (λ y. Does capacity m i abandon accepted n y) (sym e)
        (subst (λ x. Does capacity m i abandon accepted x (abandoned i)) (sym c) (abandon_at i.state i.sheet refl refl kept.loaded))
