-- The amounts of a list type and of its element types: one amount more, and no more.
use Rattle.std.proofs.Common.{◌≡◌, ℕ, suc, List, [], ◌++◌, Some, None, Option, sym, refl, ap, ◌∙◌, append_assoc, append-nil}
use Rattle.records.specs.declared.kinds.NodeType.{NodeType}
use Rattle.sheet.specs.Sheets.{list_type_at}
use Rattle.check_text.specs.Reports.{about, said_along, amount_text, amounts_within}

module _ (ts : List NodeType) where
  none_within : (t : ℕ) → amounts_within 0 ts t ≡ []
  unfolding said_along
  none_within t = refl

  opens_within : (most t : ℕ) → amounts_within (suc most) ts t ≡ about (list_type_at ts t) (λ node. amount_text t node ++ amounts_within most ts node.element)
  unfolding said_along
  opens_within most t = refl

  opened : (most t : ℕ) (o : Option NodeType) → o ≡ list_type_at ts t → amounts_within (suc most) ts t ≡ about o (λ node. amount_text t node ++ amounts_within most ts node.element)
  opened most t o is = opens_within most t ∙ ap (λ x. about x (λ node. amount_text t node ++ amounts_within most ts node.element)) (sym is)

  -- what is written and what is left are the whole
  module _ (done whole : List ℕ) (most t : ℕ) (is : done ++ amounts_within most ts t ≡ whole) where
    pub amount_more : (left : ℕ) (node : NodeType) → most ≡ suc left → Some node ≡ list_type_at ts t → (done ++ amount_text t node) ++ amounts_within left ts node.element ≡ whole
    amount_more left node m found =
        append_assoc done (amount_text t node) (amounts_within left ts node.element) ∙ ap (λ l. done ++ l) (sym (opened left t (Some node) found))
        ∙ ap (λ k. done ++ amounts_within k ts t) (sym m) ∙ is

    pub amounts_end : (left : ℕ) → most ≡ suc left → None ≡ list_type_at ts t → done ≡ whole
    amounts_end left m missing =
        sym (append-nil done) ∙ ap (λ l. done ++ l) (sym (opened left t None missing)) ∙ ap (λ k. done ++ amounts_within k ts t) (sym m) ∙ is

    pub amounts_full : most ≡ 0 → done ≡ whole
    amounts_full m = sym (append-nil done) ∙ ap (λ l. done ++ l) (sym (none_within t)) ∙ ap (λ k. done ++ amounts_within k ts t) (sym m) ∙ is
