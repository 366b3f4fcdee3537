-- What may follow from a step on a run that is paid for, and how what is found in a slot decides it.
use Rattle.std.proofs.Common.{◌≡◌, ℕ, suc, ◌+◌, ◌≤◌, List, length, Some, Option, sym, refl, subst}
use Rattle.records.specs.declared.kinds.Step.{Step as Action}
use Rattle.records.specs.declared.kinds.Record.TheVariants.{Step}
use Rattle.records.specs.Writing.{step_size}
use Rattle.rules.specs.Types.{Ty, list}
use Rattle.rules.specs.Programs.{Program}
use Rattle.rules.specs.Branches.{Branch, Fields, Straight}
use Rattle.rules.specs.Contexts.{Context}
use Rattle.rules.specs.Rules.{Derives}
use Rattle.rules.proofs.Reached.{branch_step, branch_onward}
use Rattle.plain.specs.Values.{Value, num, empty, node, nodes, potential, HasType, is_empty, is_node}
use Rattle.plain.specs.Slots.{Slots, slots_nodes}
use Rattle.plain.specs.Reading.{Frame, frame_limit, frames_nodes, Outcome, goes_on, ends, refused, with_number, with_value, with_list, act}
use Rattle.plain.specs.Charges.{charge, given_back, purse_after}
use Rattle.plain.specs.Fitting.{Filled, slots_potential}
use Rattle.plain.specs.Paid.{Continues, Suspended, Paid}
use Rattle.plain.specs.Funded.{TooDeep}

-- the step that a branch has come to has its fields in their ranges
pub fields_at : {p : Program} {w o e : ℕ} {a : Action} → Branch p w o e → p.fetched o ≡ Some (Step a) → Fields p a
fields_at {p} {a} br at =
    let x = branch_step p br in
    let at_first = x.stands in
    let same : x.step ≡ a = cc in
    subst (λ y. Fields p y) same x.fields

-- behind a step that goes straight on, its branch continues
pub onward : {p : Program} {B : Ty} {n w o e b : ℕ} {Γ : Context} {a : Action} → Branch p w o e → p.fetched o ≡ Some (Step a) → Straight a →
    Derives p B n Γ b (o + step_size a) (p.fetched (o + step_size a)) → Continues p B n Γ b (o + step_size a)
onward {p} {w} {e} br at straight k = record { waiting = w; end = e; branch = branch_onward p br at straight; derives = k }

module _ (p : Program) (A : Ty) (r spare purse : ℕ) where
  -- the purse pays for the step, and what follows is paid for again
  pub data Good (a : Action) (S : Slots) (depth held : ℕ) : Outcome → Type 0 where
    good_on : {gs : List Frame} → (TooDeep a depth → ⊥) → spare + charge a ≤ purse → Paid p A r spare (purse_after a S purse) gs →
        frames_nodes gs + given_back a S ≡ held + charge a → Good a S depth held (goes_on gs)
    good_end : {v : Value} → (TooDeep a depth → ⊥) → HasType A v → spare + charge a ≤ purse →
        spare + r + potential A v ≤ purse_after a S purse → nodes v + given_back a S ≡ held + charge a → Good a S depth held (ends v)
    good_refused : TooDeep a depth → Good a S depth held refused

  -- what a step may rely on that the newest frame has come to
  pub record Before (B : Ty) (n : ℕ) (Γ : Context) (b o : ℕ) (S : Slots) (w : ℕ) (fs : List Frame) (a : Action) : Type 0 where
    pub filled : Filled Γ S
    pub amount : ℕ
    pub suspended : Suspended p A r w B n amount fs
    pub enough : spare + b + slots_potential Γ S + amount ≤ purse
    pub few : suc (length fs) ≤ frame_limit
    pub waiting : ℕ
    pub end : ℕ
    pub branch : Branch p waiting o end
    pub stands : p.fetched o ≡ Some (Step a)

  -- the step does what may follow
  abbrev pub GoesWell : Action → ℕ → Slots → ℕ → List Frame → Type 0
  GoesWell a o S w fs = Good a S (suc (length fs)) (slots_nodes S + frames_nodes fs) (act p a o S w fs)

  module _ {a : Action} {S : Slots} {depth held : ℕ} where
    pub by_value : {x : Option Value} {v : Value} (k : Value → Outcome) → x ≡ Some v → Good a S depth held (k v) → Good a S depth held (with_value x k)
    by_value k e t = subst (λ y. Good a S depth held (with_value y k)) (sym e) t

    pub by_number : {x : Option Value} {n : ℕ} (k : ℕ → Outcome) → x ≡ Some (num n) → Good a S depth held (k n) → Good a S depth held (with_number x k)
    by_number k e t = subst (λ y. Good a S depth held (with_number y k)) (sym e) t

    pub by_list : {x : Option Value} {v : Value} {e : Ty} {m : ℕ} (z : Outcome) (k : Value → Value → Outcome) → x ≡ Some v → HasType (list e m) v →
        (x ≡ Some empty → nodes v ≡ 0 → Good a S depth held z) →
        ((h l : Value) → x ≡ Some (node h l) → HasType e h → HasType (list e m) l → nodes v ≡ 1 + nodes h + nodes l →
        potential (list e m) v ≡ m + potential e h + potential (list e m) l → Good a S depth held (k h l)) →
        Good a S depth held (with_list x z k)
    by_list z k q is_empty t u = subst (λ y. Good a S depth held (with_list y z k)) (sym q) (t q refl)
    by_list z k q (is_node {h = h} {l = l} x y) t u = subst (λ v. Good a S depth held (with_list v z k)) (sym q) (u h l q x y refl refl)
