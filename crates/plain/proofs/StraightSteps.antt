-- Const, Arith, Empty and Cons on a run that is paid for.
use Rattle.std.proofs.Common.{ℕ, ◌+◌, ◌-◌, ◌≤◌, List, arith}
use Rattle.records.specs.declared.kinds.Step.TheVariants.{Const, Arith, Empty, Cons}
use Rattle.rules.specs.Types.{Ty, number, list}
use Rattle.rules.specs.Programs.{Program}
use Rattle.rules.specs.Branches.{is_const, is_arith, is_empty, is_cons}
use Rattle.rules.specs.Contexts.{Context, used, bound, Uses, Binds}
use Rattle.rules.specs.Rules.{Derives}
use Rattle.plain.specs.Values.{num, empty, is_num, is_empty as has_none, is_node}
use Rattle.plain.specs.Slots.{Slots}
use Rattle.plain.specs.Reading.{Frame, computed}
use Rattle.plain.specs.Paid.{paid}
use Rattle.plain.proofs.Uses.{use_slot, bind_slot, number_at}
use Rattle.plain.proofs.Outcomes.{fields_at, onward, good_on, Before, GoesWell, by_value, by_number}

module _ (p : Program) (A : Ty) (r spare purse : ℕ) {B : Ty} {n : ℕ} {Γ : Context} {b o : ℕ} {S : Slots} {w : ℕ} {fs : List Frame} where
  pub const_goes_well : {d m : ℕ} → Before p A r spare purse B n Γ b o S w fs (Const d m) → Binds Γ d →
      Derives p B n (bound Γ d number) b (o + 6) (p.fetched (o + 6)) → GoesWell p A r spare purse (Const d m) o S w fs
  const_goes_well {d} {m} c may k =
      let x = bind_slot {v = num m} c.filled (fields_at c.branch c.stands) may is_num in
      good_on (λ t. elim t.call [ ]) (omega arith)
      (paid x.filled (onward c.branch c.stands is_const k) c.suspended (omega arith) c.few)
      (omega arith)

  pub arith_goes_well : {d op i j : ℕ} → Before p A r spare purse B n Γ b o S w fs (Arith d op i j) → Uses Γ i number → Uses (used Γ i) j number →
      Binds (used (used Γ i) j) d → Derives p B n (bound (used (used Γ i) j) d number) b (o + 5) (p.fetched (o + 5)) →
      GoesWell p A r spare purse (Arith d op i j) o S w fs
  arith_goes_well {d} {op} {i} {j} c ui uj may k =
      let x = use_slot c.filled i ui in
      let y = use_slot x.filled j uj in
      let m = number_at i x in
      let l = number_at j y in
      let z = bind_slot {v = num (computed op m.0 l.0)} y.filled (fields_at c.branch c.stands).0 may is_num in
      by_number p A r spare purse _ m.1 (by_number p A r spare purse _ l.1
      (good_on (λ t. elim t.call [ ]) (omega arith)
      (paid z.filled (onward c.branch c.stands is_arith k) c.suspended (omega arith) c.few)
      (omega arith)))

  pub empty_goes_well : {d t : ℕ} (e : Ty) (a : ℕ) → Before p A r spare purse B n Γ b o S w fs (Empty d t) → Binds Γ d →
      Derives p B n (bound Γ d (list e a)) b (o + 3) (p.fetched (o + 3)) → GoesWell p A r spare purse (Empty d t) o S w fs
  empty_goes_well e a c may k =
      let x = bind_slot {t = list e a} {v = empty} c.filled (fields_at c.branch c.stands).0 may has_none in
      good_on (λ t. elim t.call [ ]) (omega arith)
      (paid x.filled (onward c.branch c.stands is_empty k) c.suspended (omega arith) c.few)
      (omega arith)

  pub cons_goes_well : {d t h l a : ℕ} {e : Ty} → Before p A r spare purse B n Γ b o S w fs (Cons d t h l) → Uses Γ h e → Uses (used Γ h) l (list e a) →
      Binds (used (used Γ h) l) d → 1 + a ≤ b →
      Derives p B n (bound (used (used Γ h) l) d (list e a)) (b - (1 + a)) (o + 5) (p.fetched (o + 5)) →
      GoesWell p A r spare purse (Cons d t h l) o S w fs
  cons_goes_well {h} {l} c uh ul may pays k =
      let x = use_slot c.filled h uh in
      let y = use_slot x.filled l ul in
      let z = bind_slot y.filled (fields_at c.branch c.stands).0 may (is_node x.typed y.typed) in
      by_value p A r spare purse _ x.there (by_value p A r spare purse _ y.there
      (good_on (λ t. elim t.call [ ]) (omega arith)
      (paid z.filled (onward c.branch c.stands is_cons k) c.suspended (omega arith) c.few)
      (omega arith)))
