-- The kinds of steps that end a branch or fork it: each finding agrees with its rule.
use Rattle.std.proofs.Common.{◌≡◌, ℕ, ◌+◌, ◌≤◌, true, not, eqb, leb, List, Some, sym, refl, ap, ◌∙◌, subst, ne_eqb, le-leb, leb-true}
use Rattle.records.specs.declared.kinds.Signature.{Signature}
use Rattle.records.specs.declared.kinds.Step.{Step as Action}
use Rattle.records.specs.declared.kinds.Step.TheVariants.{Return, Match, If}
use Rattle.records.specs.declared.kinds.Record.TheVariants.{Step}
use Rattle.rules.specs.declared.accounts.Slot.{Slot}
use Rattle.rules.specs.declared.accounts.Slot.TheVariants.{Vacant, Number, ListOf}
use Rattle.rules.specs.declared.accounts.Account.{Account}
use borrow.Author.Tests.{eqb-false, not-true}
use Rattle.rules.specs.Types.{Ty, number, list, type_record, type_of, ElementsLower}
use Rattle.rules.specs.Programs.{Tables, program, fetch}
use Rattle.rules.specs.Branches.{is_return, is_match, is_if}
use Rattle.rules.specs.Contexts.{Context, in_slot, used, bound, Uses, Binds, NoLists}
use Rattle.rules.specs.Rules.{Derives, derive_return, derive_match, derive_if}
use Rattle.rules.specs.Tests.{both}
use Rattle.rules.specs.Accounts.{list_type, slot_type, slot_of, is_filled, slot_covers, slot_at, with_slot, after_use, may_bind, any_list}
use Rattle.rules.specs.Findings.{find_return, find_opened, find_if}
use Rattle.rules.proofs.Truth.{split, join}
use Rattle.rules.proofs.Numbered.{slot_of_type}
use Rattle.rules.proofs.Contexts.{context_of, slot_at_type, use_context, bind_context, uses, uses_filled, uses_cover, binds, binds_may, no_lists, none_left}
use Rattle.rules.proofs.Ruled.{Ruled, rule_breaks, rule_forks, rule_ends, by_need, in_context}

module _ (bytes : List ℕ) (t : Tables) (g : Signature) where
  abbrev From : Context → ℕ → ℕ → Type 0
  From Γ b o = Derives (program bytes t) (type_of t.types g.result) g.remainder Γ b o (fetch bytes o)

  abbrev Here : Context → ℕ → ℕ → Action → Type 0
  Here Γ b o s = Derives (program bytes t) (type_of t.types g.result) g.remainder Γ b o (Some (Step s))

  -- what the rule for Return says
  return_parts : {Γ : Context} {b o a : ℕ} → Here Γ b o (Return a) → Uses Γ a (type_of t.types g.result) × NoLists (used Γ a) × (g.remainder ≤ b)
  return_parts (derive_return u n r) = (u, n, r)

  pub ruled_return : (c : Account) (o a : ℕ) → Ruled bytes t g c o (Return a) (find_return t.types g c a)
  ruled_return c o a =
      let ts = t.types in
      by_need bytes t g _ _ (is_filled (slot_at c a))
      (λ e₁. by_need bytes t g _ _ (slot_covers ts (slot_at c a) g.result)
      (λ e₂. by_need bytes t g _ _ (not (any_list (after_use c a).slots))
      (λ e₃. by_need bytes t g _ _ (leb g.remainder c.balance)
      (λ e₄. rule_ends is_return (derive_return (uses ts c a (type_of ts g.result) e₂)
      (subst NoLists (use_context ts c a) (no_lists ts (after_use c a).slots e₃)) (leb-true g.remainder c.balance e₄)))
      (λ r. le-leb g.remainder c.balance (return_parts r).2))
      (λ r. none_left ts (after_use c a).slots (subst NoLists (sym (use_context ts c a)) (return_parts r).1)))
      (λ r. uses_cover ts c a (return_parts r).0))
      (λ r. uses_filled ts c a (return_parts r).0)

  -- what the rule for If says
  if_parts : {Γ : Context} {b o a second : ℕ} → Here Γ b o (If a second) → Uses Γ a number × From (used Γ a) b (o + 4) × From (used Γ a) b second
  if_parts (derive_if u k l) = (u, k, l)

  pub ruled_if : (c : Account) (o a second : ℕ) → Ruled bytes t g c o (If a second) (find_if t.types c a second)
  ruled_if c o a second =
      let ts = t.types in
      let E = use_context ts c a in
      by_need bytes t g _ _ (is_filled (slot_at c a))
      (λ e₁. by_need bytes t g _ _ (slot_covers ts (slot_at c a) 0)
      (λ e₂. rule_forks is_if (λ k l. derive_if (uses ts c a number e₂) (in_context bytes t g E k) (in_context bytes t g E l))
      (λ r. (in_context bytes t g (sym E) (if_parts r).1, in_context bytes t g (sym E) (if_parts r).2)))
      (λ r. uses_cover ts c a (if_parts r).0))
      (λ r. uses_filled ts c a (if_parts r).0)

  -- what the rule for Match says, of a list with this element type and amount
  record MatchParts (Γ : Context) (b o a h l second : ℕ) (e : Ty) (n : ℕ) : Type 0 where
    differ : h ≡ l → ⊥
    may_h : Binds (used Γ a) h
    may_l : Binds (used Γ a) l
    one : From (used Γ a) b (o + 6)
    two : From (bound (bound (used Γ a) h e) l (list e n)) (b + (1 + n)) second

  match_list : {Γ : Context} {b o a h l second : ℕ} → Here Γ b o (Match a h l second) → (e : Ty) × (n : ℕ) × (in_slot Γ a ≡ Some (list e n))
  match_list (derive_match {n} {e} has d bh bl k k₂) = (e, n, has)

  match_parts : {Γ : Context} {b o a h l second n : ℕ} {e : Ty} → in_slot Γ a ≡ Some (list e n) → Here Γ b o (Match a h l second) →
      MatchParts Γ b o a h l second e n
  match_parts {Γ} {b} {o} {a} {h} {l} {second} {n} {e} has (derive_match {n = n₂} {e = e₂} has₂ d bh bl k k₂) =
      let x : e₂ ≡ e = cc in
      let y : n₂ ≡ n = cc in
      let z : MatchParts Γ b o a h l second e₂ n₂ = record { differ = d; may_h = bh; may_l = bl; one = k; two = k₂ } in
      subst (λ u. MatchParts Γ b o a h l second u n) x
      (subst (λ u. MatchParts Γ b o a h l second e₂ u) y z)

  apart : (h l : ℕ) → (h ≡ l → ⊥) → not (eqb h l) ≡ true
  apart h l differ = ap not (ne_eqb h l differ)

  module _ (lower : ElementsLower t.types) where
    ruled_opened : (c : Account) (o a h l second : ℕ) (x : Slot) → slot_at c a ≡ x →
        Ruled bytes t g c o (Match a h l second) (find_opened t.types x (after_use c a) h l second)
    ruled_opened c o a h l second Vacant e =
        rule_breaks (λ r. let f = (match_list r).2 in let k = slot_at_type t.types c a in let j = ap (slot_type t.types) e in cc)
    ruled_opened c o a h l second Number e =
        rule_breaks (λ r. let f = (match_list r).2 in let k = slot_at_type t.types c a in let j = ap (slot_type t.types) e in cc)
    ruled_opened c o a h l second (ListOf u) e =
        let ts = t.types in
        let v = after_use c a in
        let el = (type_record ts u).element in
        let has : in_slot (context_of ts c) a ≡ Some (list_type ts u) = slot_at_type ts c a ∙ ap (slot_type ts) e in
        let E = use_context ts c a in
        let F = bind_context ts (with_slot v h (slot_of el)) l (ListOf u) (list_type ts u) refl
        ∙ ap (λ Γ. bound Γ l (list_type ts u)) (bind_context ts v h (slot_of el) (type_of ts el) (slot_of_type ts lower el))
        ∙ ap (λ Γ. bound (bound Γ h (type_of ts el)) l (list_type ts u)) E in
        by_need bytes t g _ _ (both (not (eqb h l)) (both (may_bind v h) (may_bind v l)))
        (λ e₁.
        let f = split (not (eqb h l)) (both (may_bind v h) (may_bind v l)) e₁ in
        let f₂ = split (may_bind v h) (may_bind v l) f.1 in
        rule_forks is_match
        (λ k k₂. derive_match has (eqb-false h l (not-true (eqb h l) f.0))
        (subst (λ Γ. Binds Γ h) E (binds ts v h f₂.0)) (subst (λ Γ. Binds Γ l) E (binds ts v l f₂.1)) (in_context bytes t g E k) (in_context bytes t g F k₂))
        (λ r. let s = match_parts has r in (in_context bytes t g (sym E) s.one, in_context bytes t g (sym F) s.two)))
        (λ r. let s = match_parts has r in
        join (apart h l s.differ) (join (binds_may ts v h (subst (λ Γ. Binds Γ h) (sym E) s.may_h)) (binds_may ts v l (subst (λ Γ. Binds Γ l) (sym E) s.may_l))))

    pub ruled_match : (c : Account) (o a h l second : ℕ) →
        Ruled bytes t g c o (Match a h l second) (find_opened t.types (slot_at c a) (after_use c a) h l second)
    ruled_match c o a h l second = ruled_opened c o a h l second (slot_at c a) refl
