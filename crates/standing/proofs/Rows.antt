-- Rows of located slots: what a use and a binding of a slot make of them, on words, on values, and in the cells. Rests on located
-- values and the plain slots.
use Rattle.std.proofs.Common.{◌≡◌, ℕ, zero, suc, ◌+◌, ◌<◌, ◌≤◌, List, [], ◌∷◌, length, set, Some, None, Option, sym, refl, ap, ◌∙◌, subst, le_of_suc-le-suc, not-suc-le-zero, arith}
use Rattle.records.specs.declared.kinds.NodeType.{NodeType}
use Rattle.cells.specs.declared.words.Words.{Words}
use Rattle.cells.specs.Cells.{Map, update}
use Rattle.rules.specs.Types.{Ty, list, type_of, type_record, ElementsLower}
use Rattle.rules.specs.Branches.{ListType}
use Rattle.rules.proofs.Numbered.{type_of_list}
use Rattle.rules.proofs.Truth.{impossible}
use Rattle.plain.specs.Values.{Value, num, empty, node, HasType}
use Rattle.plain.specs.Slots.{value_in, left_value, after_use, slot_nodes, slots_nodes}
use Rattle.plain.proofs.Slots.{filled_inside}
use Rattle.standing.specs.Located.{Located, a_number, value, word, Stored, stored_number, occurrences}
use Rattle.standing.specs.Rows.{LocatedSlot, vacant, with_number, with_list, Row, located_in, slot_words, row_words, slot_value, row_values, left_located, used_located, slot_occurrences, row_occurrences}
use Rattle.standing.specs.Rows.{Kept, kept_vacant, kept_number, kept_list, KeptRow, kept_none, kept_more}
use Rattle.standing.specs.Stepping.{slot_in, slot_word, left_slot, used_words}
use Rattle.standing.proofs.Lists.{map_at, map_set, map_length}
use Rattle.standing.proofs.Cells.{occurs_within, stored_beside}

-- ---- on words

left_words : (x : LocatedSlot) → slot_words (left_located x) ≡ left_slot (slot_words x)
left_words vacant = refl
left_words (with_number n) = refl
left_words (with_list t x) = refl

pub words_in_slot : (R : Row) (i : ℕ) → slot_in (row_words R) i ≡ slot_words (located_in R i)
words_in_slot R i = map_at slot_words R i vacant

pub words_after_use : (R : Row) (i : ℕ) → row_words (used_located R i) ≡ used_words (row_words R) i
words_after_use R i =
    map_set slot_words R i (left_located (located_in R i)) ∙
    ap (set (row_words R) i) (left_words (located_in R i) ∙ ap left_slot (sym (words_in_slot R i)))

-- ---- in the cells

pub occurrences_after_set : (c : ℕ) (R : Row) (i : ℕ) (v : LocatedSlot) → i < length R →
    row_occurrences c (set R i v) + slot_occurrences c (located_in R i) ≡ row_occurrences c R + slot_occurrences c v
occurrences_after_set c [] i v h = absurd (not-suc-le-zero h)
occurrences_after_set c (x ∷ R) zero v h = omega arith
occurrences_after_set c (x ∷ R) (suc i) v h = omega (arith, occurrences_after_set c R i v (le_of_suc-le-suc h))

left_occurrences : (c : ℕ) (x : LocatedSlot) → slot_occurrences c (left_located x) ≡ 0
left_occurrences c vacant = refl
left_occurrences c (with_number n) = refl
left_occurrences c (with_list t x) = refl

-- what a slot has moves out
pub occurrences_after_use : (c : ℕ) (R : Row) (i : ℕ) → i < length R →
    row_occurrences c (used_located R i) + slot_occurrences c (located_in R i) ≡ row_occurrences c R
occurrences_after_use c R i h =
    omega (arith, occurrences_after_set c R i (left_located (located_in R i)) h, left_occurrences c (located_in R i))

slot_within : (c : ℕ) (x : LocatedSlot) → slot_occurrences c x ≤ slot_nodes (slot_value x)
slot_within c vacant = omega arith
slot_within c (with_number n) = omega arith
slot_within c (with_list t x) = occurs_within c x

pub row_within : (c : ℕ) (R : Row) → row_occurrences c R ≤ slots_nodes (row_values R)
row_within c [] = omega arith
row_within c (x ∷ R) = omega (arith, slot_within c x, row_within c R)

-- what is put into a slot that has no nodes comes in
pub occurrences_after_binding : (c : ℕ) (R : Row) (d : ℕ) (v : LocatedSlot) → d < length R → slot_nodes (value_in (row_values R) d) ≡ 0 →
    row_occurrences c (set R d v) ≡ row_occurrences c R + slot_occurrences c v
occurrences_after_binding c R d v h bare =
    omega (arith, occurrences_after_set c R d v h, slot_within c (located_in R d), ap slot_nodes (map_at slot_value R d vacant), bare)

-- ---- what is kept

module _ {ts : List NodeType} {m : Map} where
  pub kept_at : {R : Row} → KeptRow ts m R → (i : ℕ) → Kept ts m (located_in R i)
  kept_at kept_none i = kept_vacant
  kept_at (kept_more x r) zero = x
  kept_at (kept_more x r) (suc i) = kept_at r i

  pub kept_set : {R : Row} {v : LocatedSlot} → KeptRow ts m R → (i : ℕ) → Kept ts m v → KeptRow ts m (set R i v)
  kept_set kept_none i y = kept_none
  kept_set (kept_more x r) zero y = kept_more y r
  kept_set (kept_more x r) (suc i) y = kept_more x (kept_set r i y)

  kept_left : {x : LocatedSlot} → Kept ts m x → Kept ts m (left_located x)
  kept_left kept_vacant = kept_vacant
  kept_left kept_number = kept_number
  kept_left (kept_list l h s) = kept_vacant

  pub kept_use : {R : Row} → KeptRow ts m R → (i : ℕ) → KeptRow ts m (used_located R i)
  kept_use r i = kept_set r i (kept_left (kept_at r i))

  slot_beside : {x : LocatedSlot} (k : ℕ) (entry : Option Words) → Kept ts m x → slot_occurrences k x ≡ 0 → Kept ts (update m k entry) x
  slot_beside k entry kept_vacant q = kept_vacant
  slot_beside k entry kept_number q = kept_number
  slot_beside k entry (kept_list l h s) q = kept_list l h (stored_beside k entry s q)

  -- a cell that a row does not have may change
  pub row_beside : {R : Row} (k : ℕ) (entry : Option Words) → KeptRow ts m R → row_occurrences k R ≡ 0 → KeptRow ts (update m k entry) R
  row_beside k entry kept_none q = kept_none
  row_beside k entry (kept_more x r) q = kept_more (slot_beside k entry x (omega arith)) (row_beside k entry r (omega arith))

-- ---- on values

-- a value of a list type is no number
list_goes : (e : Ty) (a : ℕ) (v : Value) → HasType (list e a) v → left_value (Some v) ≡ None
list_goes e a (num n) h = elim h [ ]
list_goes e a empty h = refl
list_goes e a (node x y) h = refl

-- a value of the type with a list type's number has a list type: that of the element type's number, with the amount
pub as_list : {ts : List NodeType} {t : ℕ} {v : Value} → ElementsLower ts → ListType ts t → HasType (type_of ts t) v →
    HasType (list (type_of ts (type_record ts t).element) (type_record ts t).amount) v
as_list {ts} {t} {v} lower l h = subst (λ y. HasType y v) (type_of_list ts lower t l.positive) h

module _ {ts : List NodeType} (lower : ElementsLower ts) {m : Map} where
  left_values : {x : LocatedSlot} → Kept ts m x → slot_value (left_located x) ≡ left_value (slot_value x)
  left_values kept_vacant = refl
  left_values kept_number = refl
  left_values (kept_list {x = x} l h s) = sym (list_goes _ _ (value x) (as_list lower l h))

  pub values_after_use : {R : Row} → KeptRow ts m R → (i : ℕ) → row_values (used_located R i) ≡ after_use (row_values R) i
  values_after_use {R} r i =
      map_set slot_value R i (left_located (located_in R i)) ∙
      ap (set (row_values R) i) (left_values (kept_at r i) ∙ ap left_value (sym (map_at slot_value R i vacant)))

-- what a slot has that is filled, as a located value
pub record Has (ts : List NodeType) (m : Map) (x : LocatedSlot) (v : Value) : Type 0 where
  pub located : Located
  pub is_value : value located ≡ v
  pub is_word : slot_word (slot_words x) ≡ word located
  pub stored : Stored m located
  pub counts : (c : ℕ) → slot_occurrences c x ≡ occurrences c located

has : {ts : List NodeType} {m : Map} {x : LocatedSlot} {v : Value} → Kept ts m x → slot_value x ≡ Some v → Has ts m x v
has kept_vacant q = impossible (cc)
has (kept_number {n}) q = record { located = a_number n; is_value = cc; is_word = refl; stored = stored_number; counts = λ c. refl }
has (kept_list {x = x} l h s) q = record { located = x; is_value = cc; is_word = refl; stored = s; counts = λ c. refl }

-- a use of slot i, which has the value v
pub record Taken (ts : List NodeType) (m : Map) (R : Row) (i : ℕ) (v : Value) : Type 0 where
  pub inside : i < length R
  pub there : slot_value (located_in R i) ≡ Some v
  pub located : Located
  pub is_value : value located ≡ v
  pub is_word : slot_word (slot_in (row_words R) i) ≡ word located
  pub stored : Stored m located
  pub rest : KeptRow ts m (used_located R i)
  pub counts : (c : ℕ) → row_occurrences c (used_located R i) + occurrences c located ≡ row_occurrences c R

pub taken : {ts : List NodeType} {m : Map} {R : Row} → KeptRow ts m R → (i : ℕ) (v : Value) → value_in (row_values R) i ≡ Some v → Taken ts m R i v
taken {R = R} r i v q =
    let there : slot_value (located_in R i) ≡ Some v = sym (map_at slot_value R i vacant) ∙ q in
    let x = has (kept_at r i) there in
    let inside : i < length R = rw (map_length slot_value R) at (filled_inside (row_values R) i q) in
    record {
      inside = inside;
      there = there;
      located = x.located;
      is_value = x.is_value;
      is_word = ap slot_word (words_in_slot R i) ∙ x.is_word;
      stored = x.stored;
      rest = kept_use r i;
      counts = λ c. omega (arith, occurrences_after_use c R i inside, x.counts c);
    }
