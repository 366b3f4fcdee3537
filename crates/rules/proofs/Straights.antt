-- The kinds of steps behind which a branch goes on, but for Call: each finding agrees with its rule.
use Rattle.std.proofs.Common.{◌≡◌, ℕ, ◌+◌, ◌-◌, ◌<◌, ◌≤◌, true, leb, List, Some, sym, refl, ap, ◌∙◌, subst, le-leb, leb-true}
use Rattle.records.specs.declared.kinds.Signature.{Signature}
use Rattle.records.specs.declared.kinds.Step.{Step as Action}
use Rattle.records.specs.declared.kinds.Step.TheVariants.{Const, Arith, Empty, Cons}
use Rattle.records.specs.declared.kinds.Record.TheVariants.{Step}
use Rattle.rules.specs.declared.accounts.Slot.TheVariants.{Number, ListOf}
use Rattle.rules.specs.declared.accounts.Account.{Account}
use Rattle.rules.specs.Types.{Ty, number, list, type_record, type_of, ElementsLower}
use Rattle.rules.specs.Programs.{Tables, program, fetch}
use Rattle.rules.specs.Branches.{is_const, is_arith, is_empty, is_cons}
use Rattle.rules.specs.Contexts.{Context, used, bound, Uses, Binds}
use Rattle.rules.specs.Rules.{Derives, derive_const, derive_arith, derive_empty, derive_cons}
use Rattle.rules.specs.Tests.{both}
use Rattle.rules.specs.Accounts.{list_type, is_filled, slot_covers, slot_at, after_use, may_bind}
use Rattle.rules.specs.Findings.{node_cost, find_const, find_arith, find_empty, find_cons}
use Rattle.rules.proofs.Truth.{split, join}
use Rattle.rules.proofs.Numbered.{type_of_list}
use Rattle.rules.proofs.Contexts.{context_of, uses_context, bind_context, uses, uses_filled, uses_cover, forth, back, binds, binds_may}
use Rattle.rules.proofs.Ruled.{Ruled, rule_onward, by_need, in_context}

module _ (bytes : List ℕ) (t : Tables) (g : Signature) where
  abbrev From : Context → ℕ → ℕ → Type 0
  From Γ b o = Derives (program bytes t) (type_of t.types g.result) g.remainder Γ b o (fetch bytes o)

  abbrev Here : Context → ℕ → ℕ → Action → Type 0
  Here Γ b o s = Derives (program bytes t) (type_of t.types g.result) g.remainder Γ b o (Some (Step s))

  -- what the rule for Const says
  const_parts : {Γ : Context} {b o d n : ℕ} → Here Γ b o (Const d n) → Binds Γ d × From (bound Γ d number) b (o + 6)
  const_parts (derive_const b k) = (b, k)

  pub ruled_const : (c : Account) (o d n : ℕ) → Ruled bytes t g c o (Const d n) (find_const c d)
  ruled_const c o d n =
      let ts = t.types in
      let E = bind_context ts c d Number number refl in
      by_need bytes t g _ _ (may_bind c d)
      (λ e. rule_onward is_const (λ k. derive_const (binds ts c d e) (in_context bytes t g E k)) (λ r. in_context bytes t g (sym E) (const_parts r).1))
      (λ r. binds_may ts c d (const_parts r).0)

  -- binding behind two uses
  may_behind : (c : Account) (i j d : ℕ) → Binds (used (used (context_of t.types c) i) j) d → may_bind (after_use (after_use c i) j) d ≡ true
  may_behind c i j d b = binds_may t.types (after_use (after_use c i) j) d (subst (λ Γ. Binds Γ d) (sym (uses_context t.types c i j)) b)

  binds_behind : (c : Account) (i j d : ℕ) → may_bind (after_use (after_use c i) j) d ≡ true → Binds (used (used (context_of t.types c) i) j) d
  binds_behind c i j d e = subst (λ Γ. Binds Γ d) (uses_context t.types c i j) (binds t.types (after_use (after_use c i) j) d e)

  -- what the rule for Arith says
  record ArithParts (Γ : Context) (b o d x y : ℕ) : Type 0 where
    use_x : Uses Γ x number
    use_y : Uses (used Γ x) y number
    may : Binds (used (used Γ x) y) d
    rest : From (bound (used (used Γ x) y) d number) b (o + 5)

  arith_parts : {Γ : Context} {b o d op x y : ℕ} → Here Γ b o (Arith d op x y) → ArithParts Γ b o d x y
  arith_parts (derive_arith ux uy b k) = record { use_x = ux; use_y = uy; may = b; rest = k }

  pub ruled_arith : (c : Account) (o d op x y : ℕ) → Ruled bytes t g c o (Arith d op x y) (find_arith t.types c d x y)
  ruled_arith c o d op x y =
      let ts = t.types in
      let E = bind_context ts (after_use (after_use c x) y) d Number number refl ∙ ap (λ Γ. bound Γ d number) (uses_context ts c x y) in
      by_need bytes t g _ _ (both (is_filled (slot_at c x)) (is_filled (slot_at (after_use c x) y)))
      (λ e₁. by_need bytes t g _ _ (both (slot_covers ts (slot_at c x) 0) (slot_covers ts (slot_at (after_use c x) y) 0))
      (λ e₂.
      let k₂ = split (slot_covers ts (slot_at c x) 0) (slot_covers ts (slot_at (after_use c x) y) 0) e₂ in
      by_need bytes t g _ _ (may_bind (after_use (after_use c x) y) d)
      (λ e₃. rule_onward is_arith
      (λ k. derive_arith (uses ts c x number k₂.0) (forth ts c x y (uses ts (after_use c x) y number k₂.1)) (binds_behind c x y d e₃) (in_context bytes t g E k))
      (λ r. in_context bytes t g (sym E) (arith_parts r).rest))
      (λ r. may_behind c x y d (arith_parts r).may))
      (λ r. join (uses_cover ts c x (arith_parts r).use_x) (uses_cover ts (after_use c x) y (back ts c x y (arith_parts r).use_y))))
      (λ r. join (uses_filled ts c x (arith_parts r).use_x) (uses_filled ts (after_use c x) y (back ts c x y (arith_parts r).use_y)))

  module _ (lower : ElementsLower t.types) where
    -- what the rule for Empty says, where t numbers a list type
    empty_parts : {Γ : Context} {b o d u : ℕ} → 0 < u → Here Γ b o (Empty d u) → Binds Γ d × From (bound Γ d (list_type t.types u)) b (o + 3)
    empty_parts {Γ} {b} {o} {d} {u} positive (derive_empty is may k) =
        (may, subst (λ x. From (bound Γ d x) b (o + 3)) (sym is ∙ type_of_list t.types lower u positive) k)

    pub ruled_empty : (c : Account) (o d u : ℕ) → 0 < u → Ruled bytes t g c o (Empty d u) (find_empty c d u)
    ruled_empty c o d u positive =
        let ts = t.types in
        let E = bind_context ts c d (ListOf u) (list_type ts u) refl in
        by_need bytes t g _ _ (may_bind c d)
        (λ e. rule_onward is_empty (λ k. derive_empty (type_of_list ts lower u positive) (binds ts c d e) (in_context bytes t g E k))
        (λ r. in_context bytes t g (sym E) (empty_parts positive r).1))
        (λ r. binds_may ts c d (empty_parts positive r).0)

    -- what the rule for Cons says
    record ConsParts (Γ : Context) (b o d h l : ℕ) (e : Ty) (a : ℕ) : Type 0 where
      use_h : Uses Γ h e
      use_l : Uses (used Γ h) l (list e a)
      may : Binds (used (used Γ h) l) d
      pays : 1 + a ≤ b
      rest : From (bound (used (used Γ h) l) d (list e a)) (b - (1 + a)) (o + 5)

    cons_parts : {Γ : Context} {b o d u h l : ℕ} → 0 < u → Here Γ b o (Cons d u h l) →
        ConsParts Γ b o d h l (type_of t.types (type_record t.types u).element) (type_record t.types u).amount
    cons_parts {Γ} {b} {o} {d} {u} {h} {l} positive (derive_cons {a} {e} is uh ul may pays k) =
        let q = sym is ∙ type_of_list t.types lower u positive in
        let i : e ≡ type_of t.types (type_record t.types u).element = cc in
        let j : a ≡ (type_record t.types u).amount = cc in
        let parts : ConsParts Γ b o d h l e a = record { use_h = uh; use_l = ul; may = may; pays = pays; rest = k } in
        subst (λ x. ConsParts Γ b o d h l x (type_record t.types u).amount) i
        (subst (λ x. ConsParts Γ b o d h l e x) j parts)

    pub ruled_cons : (c : Account) (o d u h l : ℕ) → 0 < u → Ruled bytes t g c o (Cons d u h l) (find_cons t.types c d u h l)
    ruled_cons c o d u h l positive =
        let ts = t.types in
        let e = type_of ts (type_record ts u).element in
        let is = type_of_list ts lower u positive in
        let E = bind_context ts (after_use (after_use c h) l) d (ListOf u) (list_type ts u) refl ∙ ap (λ Γ. bound Γ d (list_type ts u)) (uses_context ts c h l) in
        by_need bytes t g _ _ (both (is_filled (slot_at c h)) (is_filled (slot_at (after_use c h) l)))
        (λ e₁. by_need bytes t g _ _ (both (slot_covers ts (slot_at c h) (type_record ts u).element) (slot_covers ts (slot_at (after_use c h) l) u))
        (λ e₂.
        let k₂ = split (slot_covers ts (slot_at c h) (type_record ts u).element) (slot_covers ts (slot_at (after_use c h) l) u) e₂ in
        by_need bytes t g _ _ (may_bind (after_use (after_use c h) l) d)
        (λ e₃. by_need bytes t g _ _ (leb (node_cost ts u) c.balance)
        (λ e₄. rule_onward is_cons
        (λ k. derive_cons is (uses ts c h e k₂.0)
        (subst (λ x. Uses (used (context_of ts c) h) l x) is (forth ts c h l (uses ts (after_use c h) l (type_of ts u) k₂.1)))
        (binds_behind c h l d e₃) (leb-true (node_cost ts u) c.balance e₄) (in_context bytes t g E k))
        (λ r. in_context bytes t g (sym E) (cons_parts positive r).rest))
        (λ r. le-leb (node_cost ts u) c.balance (cons_parts positive r).pays))
        (λ r. may_behind c h l d (cons_parts positive r).may))
        (λ r. join (uses_cover ts c h (cons_parts positive r).use_h)
        (uses_cover ts (after_use c h) l (subst (λ x. Uses (context_of ts (after_use c h)) l x) (sym is) (back ts c h l (cons_parts positive r).use_l)))))
        (λ r. join (uses_filled ts c h (cons_parts positive r).use_h) (uses_filled ts (after_use c h) l (back ts c h l (cons_parts positive r).use_l)))
