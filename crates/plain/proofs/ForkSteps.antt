-- Match and If on a run that is paid for.
use Rattle.std.proofs.Common.{◌≡◌, ℕ, zero, suc, ◌+◌, List, ◌∷◌, length, Some, ap, arith}
use Rattle.records.specs.declared.kinds.Step.{Step as Action}
use Rattle.records.specs.declared.kinds.Step.TheVariants.{Match, If}
use Rattle.records.specs.declared.kinds.Record.TheVariants.{Step}
use Rattle.records.specs.Writing.{step_size}
use Rattle.rules.specs.Types.{Ty, number, list}
use Rattle.rules.specs.Programs.{Program}
use Rattle.rules.specs.Branches.{Branch, Forking, is_match, is_if}
use Rattle.rules.specs.Contexts.{Context, in_slot, used, bound, Uses, Binds}
use Rattle.rules.specs.Rules.{Derives}
use Rattle.rules.proofs.Reached.{branch_forks}
use Rattle.plain.specs.Values.{nodes}
use Rattle.plain.specs.Slots.{Slots, after_use, slots_nodes}
use Rattle.plain.specs.Reading.{Frame, frame, frames_nodes, goes_on, unless_zero}
use Rattle.plain.specs.Charges.{taken_apart}
use Rattle.plain.specs.Paid.{Continues, paid}
use Rattle.plain.proofs.Values.{covers_itself}
use Rattle.plain.proofs.Uses.{Used, use_slot, bind_slot, number_at, binds_beside}
use Rattle.plain.proofs.Outcomes.{fields_at, Good, good_on, Before, GoesWell, by_number, by_list}

-- behind a step that forks, its first branch continues, and at `second` the other
first_branch : {p : Program} {B : Ty} {n w o e b second : ℕ} {Γ : Context} {a : Action} → Branch p w o e → p.fetched o ≡ Some (Step a) → Forking a second →
    Derives p B n Γ b (o + step_size a) (p.fetched (o + step_size a)) → Continues p B n Γ b (o + step_size a)
first_branch {p} {w} {second} br at forking k = record { waiting = suc w; end = second; branch = (branch_forks p br at forking).0; derives = k }

second_branch : {p : Program} {B : Ty} {n w o e b second : ℕ} {Γ : Context} {a : Action} → Branch p w o e → p.fetched o ≡ Some (Step a) → Forking a second →
    Derives p B n Γ b second (p.fetched second) → Continues p B n Γ b second
second_branch {p} {w} {e} br at forking k = record { waiting = w; end = e; branch = (branch_forks p br at forking).1; derives = k }

module _ (p : Program) (A : Ty) (r spare purse : ℕ) {B : Ty} {n : ℕ} {Γ : Context} {b o : ℕ} {S : Slots} {w : ℕ} {fs : List Frame} where
  pub match_goes_well : {i h l second m : ℕ} {e : Ty} → Before p A r spare purse B n Γ b o S w fs (Match i h l second) → in_slot Γ i ≡ Some (list e m) →
      (h ≡ l → ⊥) → Binds (used Γ i) h → Binds (used Γ i) l → Derives p B n (used Γ i) b (o + 6) (p.fetched (o + 6)) →
      Derives p B n (bound (bound (used Γ i) h e) l (list e m)) (b + (1 + m)) second (p.fetched second) →
      GoesWell p A r spare purse (Match i h l second) o S w fs
  match_goes_well {i} {h} {l} {m = m} {e = e} c has differ bh bl k₁ k₂ =
      let x = use_slot c.filled i (record { of = list e m; has = has; covering = covers_itself (list e m) }) in
      let fields = fields_at c.branch c.stands in
      by_list p A r spare purse _ _ x.there x.typed
      (λ q none.
      let back = ap taken_apart q in
      good_on (λ t. elim t.call [ ]) (omega arith)
      (paid x.filled (first_branch c.branch c.stands is_match k₁) c.suspended (omega arith) c.few)
      (omega arith))
      (λ y ys q hy hys count brought.
      let back = ap taken_apart q in
      let u = bind_slot x.filled fields.1 bh hy in
      let v = bind_slot u.filled fields.2 (binds_beside (used Γ i) h l (Some e) differ bl) hys in
      good_on (λ t. elim t.call [ ]) (omega arith)
      (paid v.filled (second_branch c.branch c.stands is_match k₂) c.suspended (omega arith) c.few)
      (omega arith))

  pub if_goes_well : {i second : ℕ} → Before p A r spare purse B n Γ b o S w fs (If i second) → Uses Γ i number →
      Derives p B n (used Γ i) b (o + 4) (p.fetched (o + 4)) → Derives p B n (used Γ i) b second (p.fetched second) →
      GoesWell p A r spare purse (If i second) o S w fs
  if_goes_well {i} {second} c u k₁ k₂ =
      let x = use_slot c.filled i u in
      let m = number_at i x in
      by_number p A r spare purse _ m.1 (go x m.2 m.0)
    where
      go : (x : Used Γ S i number) → nodes x.value ≡ 0 → (m : ℕ) →
          Good p A r spare purse (If i second) S (suc (length fs)) (slots_nodes S + frames_nodes fs)
          (goes_on (frame (unless_zero m (o + 4) second) (after_use S i) w ∷ fs))
      go x none zero =
          good_on (λ t. elim t.call [ ]) (omega arith)
          (paid x.filled (second_branch c.branch c.stands is_if k₂) c.suspended (omega arith) c.few)
          (omega arith)
      go x none (suc m) =
          good_on (λ t. elim t.call [ ]) (omega arith)
          (paid x.filled (first_branch c.branch c.stands is_if k₁) c.suspended (omega arith) c.few)
          (omega arith)
