-- Tables in which each element type has a lower number, as they grow.
use Rattle.std.proofs.Common.{◌≡◌, ℕ, zero, suc, ◌-◌, ◌<◌, ◌≤◌, Bool, true, false, cond, ltb, List, [], ◌∷◌, ◌++◌, length, get_or, sym, refl, ap, ◌∙◌, subst, arith, ltb-false, ltb-true, ne_eqb}
use Rattle.std.proofs.lemmas.List.{get_or_append_left, get_or-append_right}
use Rattle.records.specs.declared.kinds.NodeType.{NodeType}
use Rattle.rules.specs.Types.{no_record, type_record, ElementsLower}
use Rattle.rules.specs.Programs.{Tables}
use Rattle.rules.proofs.Gathers.{Adds, adds_none, adds_type, adds_function, adds_step}

pub type_record_at : (ts : List NodeType) (t : ℕ) → 0 < t → type_record ts t ≡ get_or ts (t - 1) no_record
type_record_at ts t h = ap (λ b. cond b no_record (get_or ts (t - 1) no_record)) (ne_eqb t 0 (λ e. omega arith))

pub lower_none : ElementsLower []
lower_none t h = subst (λ x. x.element < t) (sym (type_record_at [] t h)) h

-- a type whose element is in the table already
pub lower_more : (ts : List NodeType) (x : NodeType) → ElementsLower ts → x.element ≤ length ts → ElementsLower (ts ++ (x ∷ []))
lower_more ts x lower small t h = subst (λ y. y.element < t) (sym (type_record_at (ts ++ (x ∷ [])) t h)) (go (ltb (t - 1) (length ts)) refl)
  where
    past : length ts ≤ t - 1 → (n : ℕ) → (get_or (x ∷ []) n no_record).element < t
    past f zero = let g : x.element < t = omega arith in g
    past f (suc n) = h

    go : (b : Bool) → ltb (t - 1) (length ts) ≡ b → (get_or (ts ++ (x ∷ [])) (t - 1) no_record).element < t
    go true e =
        subst (λ y. y.element < t) (type_record_at ts t h ∙ sym (get_or_append_left ts (x ∷ []) no_record (t - 1) (ltb-true (t - 1) (length ts) e))) (lower t h)
    go false e =
        let f = ltb-false (t - 1) (length ts) e in
        subst (λ y. y.element < t) (sym (get_or-append_right ts (x ∷ []) (length ts) (t - 1) no_record refl f)) (past f (t - 1 - length ts))

pub adds_lower : {bytes : List ℕ} {o : ℕ} {a u : Tables} → Adds bytes o a u → ElementsLower a.types → ElementsLower u.types
adds_lower (adds_none z n) lower = lower
adds_lower (adds_type {t = t} x f z n l k) lower = adds_lower k (lower_more t.types x lower l)
adds_lower (adds_function g f n s r k) lower = adds_lower k lower
adds_lower (adds_step s f n k) lower = adds_lower k lower
