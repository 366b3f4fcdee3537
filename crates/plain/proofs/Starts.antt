-- The slots with which a function starts fit the context in which its body does.
use Rattle.std.proofs.Common.{◌≡◌, ℕ, zero, suc, ◌+◌, ◌<◌, ◌≤◌, List, length, replicate, Some, None, sym, refl, ◌∙◌, subst, le_refl, arith, get_or-set_other}
use Rattle.rules.specs.Limits.{slot_count}
use Rattle.rules.specs.Types.{Ty}
use Rattle.rules.specs.Contexts.{Context, in_slot, NoList, is_vacant, filled_from, starting}
use Rattle.plain.specs.Values.{Value, all_nodes, all_potential, HaveTypes, no_values, one_value}
use Rattle.plain.specs.Slots.{Slots, put_from, starting_slots, slots_nodes}
use Rattle.plain.specs.Fitting.{both_vacant, Fits, fits_none, fits_more, Filled, slots_potential}
use Rattle.plain.proofs.Uses.{bind_slot}

-- slots with values put in, one for each type
pub record Begun (Γ Δ : Context) (S T : Slots) (ts : List Ty) (vs : List Value) : Type 0 where
  pub filled : Filled Δ T
  pub brings : slots_potential Δ T ≡ slots_potential Γ S + all_potential ts vs
  pub counts : slots_nodes T ≡ slots_nodes S + all_nodes vs

begin_from : {Γ : Context} {S : Slots} {ts : List Ty} {vs : List Value} (i : ℕ) → Filled Γ S → HaveTypes ts vs → i + length ts ≤ slot_count →
    ((k : ℕ) → i ≤ k → in_slot Γ k ≡ None) → Begun Γ (filled_from i ts Γ) S (put_from i vs S) ts vs
begin_from i r no_values few vacant = record { filled = r; brings = omega arith; counts = omega arith }
begin_from {Γ} i r (one_value {t} {ts = ts} h hs) few vacant =
    let inside : i < slot_count = omega arith in
    let b = bind_slot r inside (subst NoList (sym (vacant i (le_refl i))) is_vacant) h in
    let rest : i + 1 + length ts ≤ slot_count = omega arith in
    let k = begin_from (i + 1) b.filled hs rest (λ k more. get_or-set_other Γ i k (Some t) None (λ e. omega arith) ∙ vacant k (omega arith)) in
    record { filled = k.filled; brings = omega arith; counts = omega arith }

vacant_fits : (n : ℕ) → Fits (replicate n None) (replicate n None)
vacant_fits zero = fits_none
vacant_fits (suc n) = fits_more both_vacant (vacant_fits n)

vacant_at : (n k : ℕ) → in_slot (replicate n None) k ≡ None
vacant_at zero k = refl
vacant_at (suc n) zero = refl
vacant_at (suc n) (suc k) = vacant_at n k

pub begin : {ts : List Ty} {vs : List Value} → HaveTypes ts vs → length ts ≤ slot_count →
    Begun (replicate slot_count None) (starting ts) (replicate slot_count None) (starting_slots vs) ts vs
begin h few =
    begin_from 0 (record { fits = vacant_fits slot_count; width = refl }) h (omega arith) (λ k more. vacant_at slot_count k)
