-- Where a run leads from an outcome, and what the slots of a step had where it led to an end.
use Rattle.std.proofs.Common.{◌≡◌, ℕ, zero, suc, Bool, true, false, cond, List, [], ◌∷◌, Some, None, Option, sym, refl, subst}
use Rattle.rules.specs.Programs.{Program}
use Rattle.plain.specs.Values.{Value, num, empty, node}
use Rattle.plain.specs.Slots.{Slots, value_in, after_use}
use Rattle.plain.specs.Reading.{Frame, Outcome, goes_on, ends, refused, stuck, with_number, with_value, with_list, with_values, step}
use Rattle.plain.specs.Funded.{Makes, makes_none, makes_one}
use Rattle.plain.specs.Evaluation.{Taken, none_taken, one_taken}

module _ (p : Program) where
  -- from this outcome, so many steps more lead to one that ends the run with v
  pub data Leads : ℕ → Outcome → Value → Type 0 where
    leads_end : {v : Value} → Leads zero (ends v) v
    leads_on : {n : ℕ} {gs : List Frame} {v : Value} → Leads n (step p gs) v → Leads (suc n) (goes_on gs) v

  -- so a run makes its steps and then ends, and the other way round
  pub run_leads : {n : ℕ} {fs gs : List Frame} {v : Value} → Makes p n fs gs → step p gs ≡ ends v → Leads n (step p fs) v
  run_leads {v = v} makes_none last = subst (λ o. Leads zero o v) (sym last) leads_end
  run_leads {n} {v = v} (makes_one e run) last = subst (λ o. Leads n o v) (sym e) (leads_on (run_leads run last))

  pub led_run : {n : ℕ} {o : Outcome} {v : Value} → Leads n o v → (fs : List Frame) → step p fs ≡ o →
      (gs : List Frame) × Makes p n fs gs × (step p gs ≡ ends v)
  led_run leads_end fs e = (fs, makes_none, e)
  led_run (leads_on {gs = gs} l) fs e = let x = led_run l gs refl in (x.0, makes_one e x.1, x.2)

  -- an end is with its own value
  pub ends_with : {n : ℕ} {u v : Value} → Leads n (ends u) v → u ≡ v
  ends_with leads_end = refl

  -- what is stuck or refused leads to no end
  stuck_leads : {n : ℕ} {v : Value} → Leads n stuck v → ⊥
  stuck_leads l = elim l [ ]

  refused_leads : {n : ℕ} {v : Value} → Leads n refused v → ⊥
  refused_leads l = elim l [ ]

  module _ {n : ℕ} {v : Value} where
    -- a step that leads to an end has found its number, its value or its list
    pub number_found : (x : Option Value) (k : ℕ → Outcome) → Leads n (with_number x k) v → (m : ℕ) × (x ≡ Some (num m)) × Leads n (k m) v
    number_found None k l = absurd (stuck_leads l)
    number_found (Some (num m)) k l = (m, refl, l)
    number_found (Some empty) k l = absurd (stuck_leads l)
    number_found (Some (node x y)) k l = absurd (stuck_leads l)

    pub value_found : (x : Option Value) (k : Value → Outcome) → Leads n (with_value x k) v → (u : Value) × (x ≡ Some u) × Leads n (k u) v
    value_found None k l = absurd (stuck_leads l)
    value_found (Some u) k l = (u, refl, l)

    pub list_found : {R : Type 0} (x : Option Value) (z : Outcome) (k : Value → Value → Outcome) → Leads n (with_list x z k) v →
        (x ≡ Some empty → Leads n z v → R) → ((h t : Value) → x ≡ Some (node h t) → Leads n (k h t) v → R) → R
    list_found None z k l on_none on_some = absurd (stuck_leads l)
    list_found (Some (num m)) z k l on_none on_some = absurd (stuck_leads l)
    list_found (Some empty) z k l on_none on_some = on_none refl l
    list_found (Some (node h t)) z k l on_none on_some = on_some h t refl l

    pub values_found : (is : List ℕ) (S : Slots) (k : List Value → Slots → Outcome) → Leads n (with_values S is k) v →
        (vs : List Value) × (T : Slots) × Taken S is vs T × Leads n (k vs T) v
    values_found [] S k l = ([], S, none_taken, l)
    values_found (i ∷ is) S k l =
        let x = value_found (value_in S i) _ l in
        let more = values_found is (after_use S i) _ x.2 in
        (x.0 ∷ more.0, more.1, one_taken x.1 more.2, more.3)

    pub allowed : (t : Bool) (o : Outcome) → Leads n (cond t refused o) v → (t ≡ false) × Leads n o v
    allowed true o l = absurd (refused_leads l)
    allowed false o l = (refl, l)

    -- and where it finds it, it leads where that leads
    pub on_number : {x : Option Value} {m : ℕ} (k : ℕ → Outcome) → x ≡ Some (num m) → Leads n (k m) v → Leads n (with_number x k) v
    on_number k e l = subst (λ y. Leads n (with_number y k) v) (sym e) l

    pub on_value : {x : Option Value} {u : Value} (k : Value → Outcome) → x ≡ Some u → Leads n (k u) v → Leads n (with_value x k) v
    on_value k e l = subst (λ y. Leads n (with_value y k) v) (sym e) l

    pub on_empty : {x : Option Value} (z : Outcome) (k : Value → Value → Outcome) → x ≡ Some empty → Leads n z v → Leads n (with_list x z k) v
    on_empty z k e l = subst (λ y. Leads n (with_list y z k) v) (sym e) l

    pub on_node : {x : Option Value} {h t : Value} (z : Outcome) (k : Value → Value → Outcome) → x ≡ Some (node h t) → Leads n (k h t) v →
        Leads n (with_list x z k) v
    on_node z k e l = subst (λ y. Leads n (with_list y z k) v) (sym e) l

    pub on_values : {is : List ℕ} {S T : Slots} {vs : List Value} (k : List Value → Slots → Outcome) → Taken S is vs T → Leads n (k vs T) v →
        Leads n (with_values S is k) v
    on_values k none_taken l = l
    on_values k (one_taken at more) l = on_value _ at (on_values _ more l)
