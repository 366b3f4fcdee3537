-- Call: the finding agrees with the rule.
use Rattle.std.proofs.Common.{◌≡◌, ℕ, ◌+◌, ◌-◌, ◌≤◌, true, leb, List, take, Some, sym, refl, ap, subst, le-leb, leb-true}
use Rattle.records.specs.declared.kinds.Signature.{Signature}
use Rattle.records.specs.declared.kinds.Step.TheVariants.{Call}
use Rattle.records.specs.declared.kinds.Record.TheVariants.{Step}
use Rattle.rules.specs.declared.accounts.Account.{Account}
use Rattle.rules.specs.Types.{type_of, ElementsLower}
use Rattle.rules.specs.Programs.{Tables, program, fetch, signature_of}
use Rattle.rules.specs.Branches.{is_call}
use Rattle.rules.specs.Contexts.{Context, bound, Binds, Passes}
use Rattle.rules.specs.Rules.{parameters, Derives, derive_call}
use Rattle.rules.specs.Accounts.{slot_of, may_bind, all_filled, all_cover, after_uses}
use Rattle.rules.specs.Findings.{find_call}
use Rattle.rules.proofs.Numbered.{slot_of_type}
use Rattle.rules.proofs.Contexts.{context_of, bind_context, binds, binds_may, passes, passes_true}
use Rattle.rules.proofs.Ruled.{AccountDerives, Ruled, rule_onward, by_need, in_context}

module _ (bytes : List ℕ) (t : Tables) (g : Signature) (lower : ElementsLower t.types) where
  abbrev From : Context → ℕ → ℕ → Type 0
  From Γ b o = Derives (program bytes t) (type_of t.types g.result) g.remainder Γ b o (fetch bytes o)

  -- what the rule for a Call of k says, with the slots `is`
  record CallParts (c : Account) (o d : ℕ) (is : List ℕ) (k : Signature) : Type 0 where
    filled : all_filled c is ≡ true
    cover : all_cover t.types c is (take k.count k.params) ≡ true
    may : Binds (context_of t.types (after_uses c is)) d
    pays : k.entry ≤ c.balance
    rest : From (bound (context_of t.types (after_uses c is)) d (type_of t.types k.result)) (c.balance - k.entry + k.remainder) (o + 7)

  parts_of : (c : Account) (o d : ℕ) (slots : List ℕ) {Δ : Context} (k : Signature) →
      Passes (context_of t.types c) (take k.count slots) (parameters t.types k) Δ → Binds Δ d → k.entry ≤ c.balance →
      From (bound Δ d (type_of t.types k.result)) (c.balance - k.entry + k.remainder) (o + 7) → CallParts c o d (take k.count slots) k
  parts_of c o d slots k ps b pays r =
      let q = passes_true t.types c (take k.count slots) (take k.count k.params) ps in
      let E = sym q.behind in
      record {
        filled = q.filled;
        cover = q.cover;
        may = subst (λ Γ. Binds Γ d) E b;
        pays = pays;
        rest = in_context bytes t g (ap (λ Γ. bound Γ d (type_of t.types k.result)) E) r;
      }

  call_parts : (c : Account) {o d f : ℕ} {slots : List ℕ} → AccountDerives bytes t g c o (Some (Step (Call d f slots))) →
      CallParts c o d (take (signature_of t.functions f).count slots) (signature_of t.functions f)
  call_parts c {o} {d} {f} {slots} (derive_call k is ps b pays r) =
      subst (λ x. CallParts c o d (take x.count slots) x) (sym is) (parts_of c o d slots k ps b pays r)

  pub ruled_call : (c : Account) (o d f : ℕ) (slots : List ℕ) →
      Ruled bytes t g c o (Call d f slots) (find_call t.types (signature_of t.functions f) c d (take (signature_of t.functions f).count slots))
  ruled_call c o d f slots =
      let ts = t.types in
      let k = signature_of t.functions f in
      let is = take k.count slots in
      let E = bind_context ts (after_uses c is) d (slot_of k.result) (type_of ts k.result) (slot_of_type ts lower k.result) in
      by_need bytes t g _ _ (all_filled c is)
      (λ e₁. by_need bytes t g _ _ (all_cover ts c is (take k.count k.params))
      (λ e₂. by_need bytes t g _ _ (may_bind (after_uses c is) d)
      (λ e₃. by_need bytes t g _ _ (leb k.entry c.balance)
      (λ e₄. rule_onward is_call
      (λ r. derive_call k refl (passes ts c is (take k.count k.params) e₂) (binds ts (after_uses c is) d e₃)
      (leb-true k.entry c.balance e₄) (in_context bytes t g E r))
      (λ r. in_context bytes t g (sym E) (call_parts c r).rest))
      (λ r. le-leb k.entry c.balance (call_parts c r).pays))
      (λ r. binds_may ts (after_uses c is) d (call_parts c r).may))
      (λ r. (call_parts c r).cover))
      (λ r. (call_parts c r).filled)
