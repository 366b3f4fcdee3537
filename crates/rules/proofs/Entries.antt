-- What a walk over the type table says, one turn at a time.
use Rattle.std.proofs.Common.{◌≡◌, ℕ, zero, suc, ◌<◌, ◌≤◌, false, eqb, leb, List, sym, refl, ap, ◌∙◌, arith, ne_eqb, le-leb}
use borrow.Author.Tests.{lt-leb}
use Rattle.records.specs.declared.kinds.NodeType.{NodeType}
use Rattle.rules.specs.Types.{number, type_record, type_of, ElementsLower}
use Rattle.rules.specs.Tests.{both, covers}
use Rattle.rules.specs.Accounts.{list_type}
use Rattle.rules.proofs.Numbered.{type_of_list}

-- covering, where a number is 0
pub number_covers_type : (ts : List NodeType) (t : ℕ) → covers number (type_of ts t) ≡ eqb t 0
number_covers_type ts zero = refl
number_covers_type ts (suc t) = sym (ne_eqb (suc t) 0 (λ e. omega arith))

pub covers_zero : (ts : List NodeType) (s t : ℕ) → s ≡ 0 → covers (type_of ts s) (type_of ts t) ≡ eqb t 0
covers_zero ts s t e = ap (λ x. covers (type_of ts x) (type_of ts t)) e ∙ number_covers_type ts t

pub list_covers_zero : (ts : List NodeType) (s t : ℕ) → t ≡ 0 → covers (list_type ts s) (type_of ts t) ≡ false
list_covers_zero ts s t e = ap (λ x. covers (list_type ts s) (type_of ts x)) e

pub covers_not_zero : (ts : List NodeType) → ElementsLower ts → (s t : ℕ) → 0 < s → t ≡ 0 → covers (type_of ts s) (type_of ts t) ≡ false
covers_not_zero ts lower s t h e = ap (λ x. covers x (type_of ts t)) (type_of_list ts lower s h) ∙ list_covers_zero ts s t e

-- covering of two lists: a and b are the records of s and t
module _ (ts : List NodeType) (lower : ElementsLower ts) (s t : ℕ) (a b : NodeType) (ea : a ≡ type_record ts s) (eb : b ≡ type_record ts t) where
  amounts : leb (type_record ts t).amount (type_record ts s).amount ≡ leb b.amount a.amount
  amounts = ap (λ x. leb x.amount (type_record ts s).amount) (sym eb) ∙ ap (λ x. leb b.amount x.amount) (sym ea)

  elements : covers (type_of ts (type_record ts s).element) (type_of ts (type_record ts t).element) ≡ covers (type_of ts a.element) (type_of ts b.element)
  elements = ap (λ x. covers (type_of ts x.element) (type_of ts (type_record ts t).element)) (sym ea) ∙ ap (λ x. covers (type_of ts a.element) (type_of ts x.element)) (sym eb)

  list_covers_list : 0 < t → covers (list_type ts s) (type_of ts t) ≡ both (leb b.amount a.amount) (covers (type_of ts a.element) (type_of ts b.element))
  list_covers_list k = ap (λ x. covers (list_type ts s) x) (type_of_list ts lower t k) ∙ ap (λ x. both x (covers (type_of ts (type_record ts s).element) (type_of ts (type_record ts t).element))) amounts
      ∙ ap (λ x. both (leb b.amount a.amount) x) elements

  pub list_short : 0 < t → a.amount < b.amount → covers (list_type ts s) (type_of ts t) ≡ false
  list_short k h = list_covers_list k ∙ ap (λ x. both x (covers (type_of ts a.element) (type_of ts b.element))) (lt-leb b.amount a.amount h)

  pub list_enough : 0 < t → b.amount ≤ a.amount → covers (list_type ts s) (type_of ts t) ≡ covers (type_of ts a.element) (type_of ts b.element)
  list_enough k h = list_covers_list k ∙ ap (λ x. both x (covers (type_of ts a.element) (type_of ts b.element))) (le-leb b.amount a.amount h)

  pub covers_short : 0 < s → 0 < t → a.amount < b.amount → covers (type_of ts s) (type_of ts t) ≡ false
  covers_short i k h = ap (λ x. covers x (type_of ts t)) (type_of_list ts lower s i) ∙ list_short k h

  pub covers_enough : 0 < s → 0 < t → b.amount ≤ a.amount → covers (type_of ts s) (type_of ts t) ≡ covers (type_of ts a.element) (type_of ts b.element)
  covers_enough i k h = ap (λ x. covers x (type_of ts t)) (type_of_list ts lower s i) ∙ list_enough k h
