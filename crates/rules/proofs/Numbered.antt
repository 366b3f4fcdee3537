-- Type numbers and the types that they stand for; the tests on types and fields decide what they are named for.
use Rattle.std.proofs.Common.{◌≡◌, ℕ, zero, suc, ◌<◌, ◌≤◌, true, false, cond, eqb, ltb, leb, List, [], ◌∷◌, length, Some, sym, refl, ap, ◌∙◌, subst, arith, ltb-true, lt-ltb, ne_eqb, eqb-true, le-leb, leb-true}
use Rattle.records.specs.declared.kinds.NodeType.{NodeType}
use Rattle.rules.specs.declared.accounts.Slot.TheVariants.{Number, ListOf}
use Rattle.rules.specs.Limits.{unused}
use Rattle.rules.specs.Types.{Ty, number, list, type_record, type_within, type_of, ElementsLower, Covers, number_covers, list_covers}
use Rattle.rules.specs.Branches.{Padded, no_fields, unused_field, used_field, ListType}
use Rattle.rules.specs.Tests.{covers, padded, is_list_type}
use Rattle.rules.specs.Accounts.{list_type, slot_type, slot_of}
use Rattle.rules.proofs.Truth.{split, join}

-- any depth from the number on is deep enough
same_within : (ts : List NodeType) → ElementsLower ts → (m n t : ℕ) → t ≤ m → t ≤ n → type_within m ts t ≡ type_within n ts t
same_within ts lower zero zero t h k = refl
same_within ts lower zero (suc n) zero h k = refl
same_within ts lower zero (suc n) (suc t) h k = absurd (omega arith)
same_within ts lower (suc m) zero zero h k = refl
same_within ts lower (suc m) zero (suc t) h k = absurd (omega arith)
same_within ts lower (suc m) (suc n) zero h k = refl
same_within ts lower (suc m) (suc n) (suc t) h k =
    let l = lower (suc t) (omega arith) in
    ap (λ x. list x (type_record ts (suc t)).amount) (same_within ts lower m n (type_record ts (suc t)).element (omega arith) (omega arith))

-- a number other than 0 stands for a list type
pub type_of_list : (ts : List NodeType) → ElementsLower ts → (t : ℕ) → 0 < t → type_of ts t ≡ list_type ts t
type_of_list ts lower zero h = absurd (omega arith)
type_of_list ts lower (suc t) h =
    let l = lower (suc t) h in
    ap (λ x. list x (type_record ts (suc t)).amount) (same_within ts lower t (type_record ts (suc t)).element (type_record ts (suc t)).element (omega arith) (omega arith))

pub slot_of_type : (ts : List NodeType) → ElementsLower ts → (t : ℕ) → slot_type ts (slot_of t) ≡ Some (type_of ts t)
slot_of_type ts lower zero = refl
slot_of_type ts lower (suc t) =
    let e : eqb (suc t) 0 ≡ false = ne_eqb (suc t) 0 (λ q. omega arith) in
    ap (λ b. slot_type ts (cond b Number (ListOf (suc t)))) e ∙ ap Some (sym (type_of_list ts lower (suc t) (omega arith)))

-- only 0 stands for Number
pub number_only : (ts : List NodeType) (t : ℕ) → type_of ts t ≡ number → t ≡ 0
number_only ts zero e = refl
number_only ts (suc t) e = cc

pub covers_true : (s t : Ty) → covers s t ≡ true → Covers s t
covers_true number number e = number_covers
covers_true number (list t b) e = cc
covers_true (list s a) number e = cc
covers_true (list s a) (list t b) e =
    let k = split (leb b a) (covers s t) e in list_covers (leb-true b a k.0) (covers_true s t k.1)

pub true_covers : {s t : Ty} → Covers s t → covers s t ≡ true
true_covers number_covers = refl
true_covers (list_covers {a} {b} h c) = join (le-leb b a h) (true_covers c)

pub list_type_true : (ts : List NodeType) (t : ℕ) → is_list_type ts t ≡ true → ListType ts t
list_type_true ts t e =
    let k = split (ltb 0 t) (leb t (length ts)) e in
    record { positive = ltb-true 0 t k.0; known = leb-true t (length ts) k.1 }

pub true_list_type : {ts : List NodeType} {t : ℕ} → ListType ts t → is_list_type ts t ≡ true
true_list_type {ts} {t} l = join (lt-ltb 0 t l.positive) (le-leb t (length ts) l.known)

pub padded_true : (limit n : ℕ) (xs : List ℕ) → padded limit n xs ≡ true → Padded limit n xs
padded_true limit zero [] e = no_fields
padded_true limit (suc n) [] e = cc
padded_true limit zero (x ∷ xs) e =
    let k = split (eqb x unused) (padded limit zero xs) e in
    subst (λ y. Padded limit zero (y ∷ xs)) (sym (eqb-true x unused k.0)) (unused_field (padded_true limit zero xs k.1))
padded_true limit (suc n) (x ∷ xs) e =
    let k = split (ltb x limit) (padded limit n xs) e in used_field (ltb-true x limit k.0) (padded_true limit n xs k.1)

pub true_padded : {limit n : ℕ} {xs : List ℕ} → Padded limit n xs → padded limit n xs ≡ true
true_padded no_fields = refl
true_padded (unused_field q) = true_padded q
true_padded {limit} (used_field {x = x} h q) = join (lt-ltb x limit h) (true_padded q)

-- padded fields are as many as are used
pub padded_count : (limit n : ℕ) (xs : List ℕ) → padded limit n xs ≡ true → n ≤ length xs
padded_count limit zero [] e = omega arith
padded_count limit (suc n) [] e = cc
padded_count limit zero (x ∷ xs) e = omega arith
padded_count limit (suc n) (x ∷ xs) e = let k = padded_count limit n xs (split (ltb x limit) (padded limit n xs) e).1 in omega arith
