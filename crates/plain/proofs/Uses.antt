-- Using and binding slots of a frame, as the rules have it.
use Rattle.std.proofs.Common.{◌≡◌, ℕ, ◌+◌, ◌<◌, ◌≤◌, List, [], ◌∷◌, length, set, Some, None, Option, sym, refl, ap, ◌∙◌, arith, length-set, get_or-set_other}
use Rattle.rules.specs.Limits.{slot_count}
use Rattle.rules.specs.Types.{Ty, number}
use Rattle.rules.specs.Contexts.{Context, in_slot, left_of, used, bound, Uses, Binds, Passes, pass_none, pass_one}
use Rattle.plain.specs.Values.{Value, num, empty, node, nodes, all_nodes, potential, all_potential, HasType, HaveTypes, no_values, one_value}
use Rattle.plain.specs.Slots.{Slots, value_in, left_value, after_use, put, slots_nodes}
use Rattle.plain.specs.Reading.{Outcome, with_value, with_values}
use Rattle.plain.specs.Fitting.{both_filled, Filled, slots_potential}
use Rattle.plain.proofs.Values.{covered}
use Rattle.plain.proofs.Slots.{fits_at, fits_set, potential_set, nodes_set, filled_inside, value_there, left_fits, left_bare, no_list_bare}

-- a use finds a value of the wanted type, and takes its nodes and what it brings along out of the slots
pub record Used (Γ : Context) (S : Slots) (i : ℕ) (t : Ty) : Type 0 where
  pub value : Value
  pub there : value_in S i ≡ Some value
  pub typed : HasType t value
  pub filled : Filled (used Γ i) (after_use S i)
  pub brings : slots_potential (used Γ i) (after_use S i) + potential t value ≤ slots_potential Γ S
  pub counts : slots_nodes (after_use S i) + nodes value ≡ slots_nodes S

pub use_slot : {Γ : Context} {S : Slots} {t : Ty} → Filled Γ S → (i : ℕ) → Uses Γ i t → Used Γ S i t
use_slot {Γ} {S} {t} r i u =
    let p = value_there (fits_at r.fits i) u.has in
    let c = covered p.2 u.covering in
    let inside = filled_inside S i p.1 in
    let k = potential_set r.fits i (left_of (in_slot Γ i)) (left_value (value_in S i)) inside in
    let l = nodes_set S i (left_value (value_in S i)) inside in
    let z = left_bare (fits_at r.fits i) in
    record {
      value = p.0;
      there = p.1;
      typed = c.0;
      filled = record { fits = fits_set r.fits i (left_fits (fits_at r.fits i)); width = length-set S i (left_value (value_in S i)) ∙ r.width };
      brings = omega arith;
      counts = omega arith;
    }

-- a binding puts a value of the type into the slot
pub record Bound (Γ : Context) (S : Slots) (d : ℕ) (t : Ty) (v : Value) : Type 0 where
  pub filled : Filled (bound Γ d t) (put S d v)
  pub brings : slots_potential (bound Γ d t) (put S d v) ≡ slots_potential Γ S + potential t v
  pub counts : slots_nodes (put S d v) ≡ slots_nodes S + nodes v

pub bind_slot : {Γ : Context} {S : Slots} {d : ℕ} {t : Ty} {v : Value} → Filled Γ S → d < slot_count → Binds Γ d → HasType t v → Bound Γ S d t v
bind_slot {S} {d} {t} {v} r h b typed =
    let inside : d < length S = rw r.width h in
    let k = potential_set r.fits d (Some t) (Some v) inside in
    let l = nodes_set S d (Some v) inside in
    let z = no_list_bare (fits_at r.fits d) b in
    record {
      filled = record { fits = fits_set r.fits d (both_filled typed); width = length-set S d (Some v) ∙ r.width };
      brings = omega arith;
      counts = omega arith;
    }

-- a Number slot has a number, which has no nodes
pub number_at : {Γ : Context} {S : Slots} → (i : ℕ) (u : Used Γ S i number) → (n : ℕ) × (value_in S i ≡ Some (num n)) × (nodes u.value ≡ 0)
number_at {S} i u = go u.value u.there u.typed
  where
    go : (v : Value) → value_in S i ≡ Some v → HasType number v → (n : ℕ) × (value_in S i ≡ Some (num n)) × (nodes v ≡ 0)
    go (num n) q h = (n, q, refl)
    go empty q h = elim h [ ]
    go (node x y) q h = elim h [ ]

-- another slot's binding leaves a slot as it may be bound
pub binds_beside : (Γ : Context) (h l : ℕ) (x : Option Ty) → (h ≡ l → ⊥) → Binds Γ l → Binds (set Γ h x) l
binds_beside Γ h l x differ b = rw (get_or-set_other Γ h l x None (λ e. differ (sym e))) b

-- the arguments of a call
pub record Passed (Γ Δ : Context) (S : Slots) (is : List ℕ) (ts : List Ty) : Type 0 where
  pub values : List Value
  pub behind : Slots
  pub reads : (k : List Value → Slots → Outcome) → with_values S is k ≡ k values behind
  pub typed : HaveTypes ts values
  pub filled : Filled Δ behind
  pub brings : slots_potential Δ behind + all_potential ts values ≤ slots_potential Γ S
  pub counts : slots_nodes behind + all_nodes values ≡ slots_nodes S

pub pass_slots : {Γ Δ : Context} {is : List ℕ} {ts : List Ty} → Passes Γ is ts Δ → {S : Slots} → Filled Γ S → Passed Γ Δ S is ts
pass_slots pass_none {S} r =
    record { values = []; behind = S; reads = λ k. refl; typed = no_values; filled = r; brings = omega arith; counts = omega arith }
pass_slots (pass_one {i} {is} u more) {S} r =
    let x = use_slot r i u in
    let y = pass_slots more x.filled in
    record {
      values = x.value ∷ y.values;
      behind = y.behind;
      reads = λ k. ap (λ o. with_value o (λ v. with_values (after_use S i) is (λ vs T. k (v ∷ vs) T))) x.there ∙
          y.reads (λ vs T. k (x.value ∷ vs) T);
      typed = one_value x.typed y.typed;
      filled = y.filled;
      brings = omega arith;
      counts = omega arith;
    }
