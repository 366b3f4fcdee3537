-- Match on words. Rests on rows and frames.
use Rattle.std.proofs.Common.{◌≡◌, ℕ, zero, suc, ◌+◌, ◌<◌, false, cond, eqb, List, ◌∷◌, map, length, set, Some, None, sym, refl, ap, ◌∙◌, subst, arith, length-set}
use Rattle.std.proofs.lemmas.Bool.{eq-eqb, ne_eqb}
use Rattle.records.specs.declared.kinds.NodeType.{NodeType}
use Rattle.records.specs.declared.kinds.Step.TheVariants.{Match}
use Rattle.cells.specs.Cells.{Map, without, one_if}
use Rattle.rules.specs.Limits.{slot_count}
use Rattle.rules.specs.Types.{Ty, list, type_record, type_of, ElementsLower}
use Rattle.rules.specs.Programs.{Program}
use Rattle.rules.specs.Branches.{ListType}
use Rattle.rules.specs.Contexts.{Context, in_slot, used, Binds}
use Rattle.rules.proofs.Numbered.{type_of_list}
use Rattle.rules.proofs.Truth.{impossible}
use Rattle.plain.specs.Values.{Value, num, empty, node, HasType, is_node}
use Rattle.plain.specs.Slots.{Slots, value_in, after_use}
use Rattle.plain.specs.Slots as plain_slots
use Rattle.plain.specs.Reading as plain
use Rattle.plain.specs.Fitting.{Filled}
use Rattle.plain.proofs.Values.{covers_itself}
use Rattle.plain.proofs.Slots.{filled_inside}
use Rattle.plain.proofs.Uses.{use_slot, bind_slot, binds_beside}
use Rattle.standing.specs.declared.frames.Slot.TheVariants.{ListOf}
use Rattle.standing.specs.Located.{Located, a_number, no_node, in_cell, value, word, node_words, Stored, one_where_same, occurrences}
use Rattle.standing.specs.Rows.{LocatedSlot, vacant, with_number, with_list, located_in, slot_words, row_words, slot_value, row_values, slot_occurrences, row_occurrences, used_located, Kept, kept_vacant, kept_number, kept_list}
use Rattle.standing.specs.Stepping.{slot_in, slot_word, slot_type, as_slot, used_words, words_in, taken_apart, word_frame, Effect, goes_on, effect}
use Rattle.standing.specs.Standing.{LocatedFrame, frame_words, frame_values, frames_occurrences, KeptFrames, StandsFor}
use Rattle.standing.proofs.Lists.{map_at, map_length}
use Rattle.standing.proofs.Cells.{one_here, stored_beside, held_after_removal, parts}
use Rattle.standing.proofs.Rows.{words_in_slot, words_after_use, values_after_use, occurrences_after_use, kept_at, kept_use, kept_set, row_beside, as_list}
use Rattle.standing.proofs.Bindings.{binding}
use Rattle.standing.proofs.Runs.{frames_beside, newest, goes_on_with, by_list}

-- a slot that has a list
pub record Listed (ts : List NodeType) (m : Map) (x : LocatedSlot) (v : Value) : Type 0 where
  pub of : ℕ
  pub located : Located
  pub is : x ≡ with_list of located
  pub is_value : value located ≡ v
  pub known : ListType ts of
  pub typed : HasType (type_of ts of) (value located)
  pub stored : Stored m located

pub listed : {ts : List NodeType} {m : Map} {x : LocatedSlot} {e : Ty} {a : ℕ} (v : Value) → Kept ts m x → slot_value x ≡ Some v → HasType (list e a) v → Listed ts m x v
listed v kept_vacant q h = impossible (cc)
listed (num i) (kept_number {n}) q h = elim h [ ]
listed empty (kept_number {n}) q h = impossible (cc)
listed (node x y) (kept_number {n}) q h = impossible (cc)
listed v (kept_list {t = t} {x = x} l h s) q g = record { of = t; located = x; is = refl; is_value = cc; known = l; typed = h; stored = s }

-- an element as a slot of its type
abbrev pub element_slot : ℕ → Located → LocatedSlot
element_slot t x = cond (eqb t 0) (with_number (word x)) (with_list t x)

pub record Element (ts : List NodeType) (m : Map) (t : ℕ) (x : Located) : Type 0 where
  pub keeps : Kept ts m (element_slot t x)
  pub words : slot_words (element_slot t x) ≡ as_slot t (word x)
  pub is_value : slot_value (element_slot t x) ≡ Some (value x)
  pub counts : (c : ℕ) → slot_occurrences c (element_slot t x) ≡ occurrences c x

pub element : {ts : List NodeType} {m : Map} (t : ℕ) (x : Located) → (0 < t → ListType ts t) → HasType (type_of ts t) (value x) → Stored m x → Element ts m t x
element zero (a_number n) known h s = record { keeps = kept_number; words = refl; is_value = refl; counts = λ c. refl }
element zero no_node known h s = elim h [ ]
element zero (in_cell c x y) known h s = elim h [ ]
element (suc t) x known h s =
    let no : eqb (suc t) 0 ≡ false = ne_eqb (suc t) 0 (λ e. omega arith) in
    record { keeps = rw no (kept_list (known (omega arith)) h s); words = rw no refl; is_value = rw no refl; counts = λ c. rw no refl }

-- the empty list, and a node
pub word_of_empty : (x : Located) → value x ≡ empty → word x ≡ 0
word_of_empty (a_number n) q = impossible (cc)
word_of_empty no_node q = refl
word_of_empty (in_cell c x y) q = impossible (cc)

pub nothing_of_empty : (c : ℕ) (x : Located) → value x ≡ empty → occurrences c x ≡ 0
nothing_of_empty c (a_number n) q = refl
nothing_of_empty c no_node q = refl
nothing_of_empty c (in_cell k x y) q = impossible (cc)

pub record ANode (x : Located) (h l : Value) : Type 0 where
  pub cell : ℕ
  pub first : Located
  pub others : Located
  pub is : x ≡ in_cell cell first others
  pub first_value : value first ≡ h
  pub others_value : value others ≡ l

pub a_node : {h l : Value} (x : Located) → value x ≡ node h l → ANode x h l
a_node (a_number n) q = impossible (cc)
a_node no_node q = impossible (cc)
a_node (in_cell c x y) q = record { cell = c; first = x; others = y; is = refl; first_value = cc; others_value = cc }

pub element_typed : {e : Ty} {a : ℕ} {h l : Value} → HasType (list e a) (node h l) → HasType e h
element_typed (is_node x y) = x

pub tail_typed : {e : Ty} {a : ℕ} {h l : Value} → HasType (list e a) (node h l) → HasType (list e a) l
tail_typed (is_node x y) = y

module _ (p : Program) (lower : ElementsLower p.types) (m : Map) (k : ℕ) (L : LocatedFrame) (Ls : List LocatedFrame)
    (kept : KeptFrames p.types m (L ∷ Ls)) (owned : (c : ℕ) → row_occurrences c L.row + frames_occurrences c Ls ≡ one_if (m c))
    {Γ : Context} (filled : Filled Γ (row_values L.row)) (a h l second : ℕ) {e : Ty} {n : ℕ} (has : in_slot Γ a ≡ Some (list e n)) where
  abbrev on_empty : plain.Outcome
  on_empty = plain.goes_on (plain.frame (L.next + 6) (after_use (row_values L.row) a) L.awaiting ∷ map frame_values Ls)

  abbrev on_node : Value → Value → plain.Outcome
  on_node x y = plain.goes_on (plain.frame second (plain_slots.put (plain_slots.put (after_use (row_values L.row) a) h x) l y) L.awaiting ∷ map frame_values Ls)

  abbrev words_on_empty : Effect
  words_on_empty = goes_on (word_frame (L.next + 6) (used_words (row_words L.row) a) L.awaiting ∷ map frame_words Ls) m

  abbrev words_on_node : Effect
  words_on_node =
      goes_on (word_frame second
      (taken_apart p.types (used_words (row_words L.row) a) h l (slot_type (slot_in (row_words L.row) a)) (words_in (m (slot_word (slot_in (row_words L.row) a)))))
      L.awaiting ∷ map frame_words Ls) (without m (slot_word (slot_in (row_words L.row) a)))

  its_slot : {v : Value} (x : Listed p.types m (located_in L.row a) v) → slot_in (row_words L.row) a ≡ ListOf (word x.located) x.of
  its_slot x = words_in_slot L.row a ∙ ap slot_words x.is

  counts_out : {v : Value} (x : Listed p.types m (located_in L.row a) v) → a < length L.row → (c : ℕ) →
      row_occurrences c (used_located L.row a) + occurrences c x.located ≡ row_occurrences c L.row
  counts_out x inside c = omega (arith, occurrences_after_use c L.row a inside, ap (slot_occurrences c) x.is)

  width_after_use : length (used_located L.row a) ≡ slot_count
  width_after_use = length-set L.row a _ ∙ (newest kept).width

  empty_case : a < length L.row → Listed p.types m (located_in L.row a) empty → StandsFor p.types words_on_empty on_empty
  empty_case inside x =
      let t = newest kept in
      goes_on_with (L.next + 6) (used_located L.row a) L.awaiting Ls (words_after_use L.row a) (values_after_use lower t.row a) width_after_use
      (kept_use t.row a) t.beneath
      (λ c. omega (arith, owned c, counts_out x inside c, nothing_of_empty c x.located x.is_value))

  node_case : a < length L.row → (y z : Value) → (x : Listed p.types m (located_in L.row a) (node y z)) → ANode x.located y z →
      Filled (used Γ a) (after_use (row_values L.row) a) → HasType e y → h < slot_count → l < slot_count → (h ≡ l → ⊥) → Binds (used Γ a) h → Binds (used Γ a) l →
      StandsFor p.types words_on_node (on_node y z)
  node_case inside y z x it filled_there ye hs ls differ bh bl =
      let R = L.row in
      let t = newest kept in
      let ts = p.types in
      let et = (type_record ts x.of).element in
      let typed : HasType (list (type_of ts et) (type_record ts x.of).amount) (node (value it.first) (value it.others)) =
      subst (λ v. HasType (list (type_of ts et) (type_record ts x.of).amount) (value v)) it.is (as_list lower x.known x.typed) in
      let stored : Stored m (in_cell it.cell it.first it.others) = subst (λ v. Stored m v) it.is x.stored in
      let part = parts stored in
      let known_element : 0 < et → ListType ts et =
      λ some. let less = lower x.of x.known.positive in let few = x.known.known in record { positive = some; known = omega arith } in
      let out : (c : ℕ) → row_occurrences c (used_located R a) + (one_where_same c it.cell + occurrences c it.first + occurrences c it.others) ≡ row_occurrences c R =
      λ c. omega (arith, counts_out x inside c, ap (occurrences c) it.is) in
      let mine : row_occurrences it.cell R + frames_occurrences it.cell Ls ≡ 1 = owned it.cell ∙ ap one_if part.held in
      let o₁ = out it.cell in
      let here = one_here it.cell in
      let first_stored = stored_beside it.cell None part.element (omega arith) in
      let others_stored = stored_beside it.cell None part.tail (omega arith) in
      let el = element {ts = ts} et it.first known_element (element_typed typed) first_stored in
      let tail_of : HasType (type_of ts x.of) (value it.others) =
      subst (λ v. HasType v (value it.others)) (sym (type_of_list ts lower x.of x.known.positive)) (tail_typed typed) in
      let rest = row_beside it.cell None (kept_use t.row a) (omega arith) in
      let v₁ = values_after_use lower t.row a in
      let w₁ = words_after_use R a in
      let x₁ = element_slot et it.first in
      let x₂ = with_list x.of it.others in
      let g₁ = binding (used_located R a) h x₁ v₁ filled_there hs bh in
      let R₂ = set (used_located R a) h x₁ in
      let v₂ : row_values R₂ ≡ plain_slots.put (after_use (row_values R) a) h y =
      g₁.values ∙ (ap (λ S. set S h (slot_value x₁)) v₁ ∙ ap (set (after_use (row_values R) a) h) (el.is_value ∙ ap Some it.first_value)) in
      let f₂ = bind_slot filled_there hs bh ye in
      let g₂ = binding R₂ l x₂ v₂ f₂.filled ls (binds_beside (used Γ a) h l (Some e) differ bl) in
      let slot = slot_in (row_words R) a in
      let slot_is : slot ≡ ListOf it.cell x.of = its_slot x ∙ ap (λ u. ListOf (word u) x.of) it.is in
      let read : words_in (m (slot_word slot)) ≡ node_words (word it.first) (word it.others) =
      ap (λ u. words_in (m (slot_word u))) slot_is ∙ ap words_in part.held in
      let apart_is : taken_apart ts (used_words (row_words R) a) h l (slot_type slot) (words_in (m (slot_word slot))) ≡
      set (set (used_words (row_words R) a) h (as_slot et (word it.first))) l (ListOf (word it.others) x.of) =
      ap (λ w. taken_apart ts (used_words (row_words R) a) h l (slot_type slot) w) read ∙
      ap (λ u. taken_apart ts (used_words (row_words R) a) h l (slot_type u) (node_words (word it.first) (word it.others))) slot_is in
      let words : row_words (set R₂ l x₂) ≡ taken_apart ts (used_words (row_words R) a) h l (slot_type slot) (words_in (m (slot_word slot))) =
      g₂.words ∙ (ap (λ S. set S l (ListOf (word it.others) x.of)) (g₁.words ∙ (ap (λ S. set S h (slot_words x₁)) w₁ ∙ ap (set (used_words (row_words R) a) h) el.words)) ∙ sym apart_is) in
      let values : row_values (set R₂ l x₂) ≡ plain_slots.put (plain_slots.put (after_use (row_values R) a) h y) l z =
      g₂.values ∙ (ap (λ S. set S l (Some (value it.others))) v₂ ∙ ap (λ v. set (plain_slots.put (after_use (row_values R) a) h y) l (Some v)) it.others_value) in
      let gone : without m it.cell ≡ without m (slot_word slot) = ap (λ u. without m (slot_word u)) (sym slot_is) in
      subst (λ n. StandsFor ts
      (goes_on (word_frame second (taken_apart ts (used_words (row_words R) a) h l (slot_type slot) (words_in (m (slot_word slot)))) L.awaiting ∷ map frame_words Ls) n) (on_node y z)) gone
      (goes_on_with second (set R₂ l x₂) L.awaiting Ls words values g₂.width
      (kept_set (kept_set rest h el.keeps) l (kept_list x.known tail_of others_stored)) (frames_beside it.cell None t.beneath (omega arith))
      (λ c. omega (arith, owned c, out c, g₁.counts c, el.counts c, g₂.counts c, held_after_removal m it.cell (node_words (word it.first) (word it.others)) c part.held)))

  pub match_stands : h < slot_count → l < slot_count → (h ≡ l → ⊥) → Binds (used Γ a) h → Binds (used Γ a) l →
      StandsFor p.types (effect p (Match a h l second) L.next (row_words L.row) L.awaiting (map frame_words Ls) m k)
      (plain.act p (Match a h l second) L.next (row_values L.row) L.awaiting (map frame_values Ls))
  match_stands hs ls differ bh bl =
      let u = use_slot filled a (record { of = list e n; has = has; covering = covers_itself (list e n) }) in
      let there : slot_value (located_in L.row a) ≡ Some u.value = sym (map_at slot_value L.row a vacant) ∙ u.there in
      let inside : a < length L.row = rw (map_length slot_value L.row) at (filled_inside (row_values L.row) a u.there) in
      by_list _ _ u.there (go u.value inside (listed u.value (kept_at (newest kept).row a) there u.typed) u.filled u.typed)
    where
      go : (v : Value) → a < length L.row → Listed p.types m (located_in L.row a) v → Filled (used Γ a) (after_use (row_values L.row) a) → HasType (list e n) v →
          StandsFor p.types (cond (eqb (slot_word (slot_in (row_words L.row) a)) 0) words_on_empty words_on_node) (plain.with_list (Some v) on_empty on_node)
      go (num i) inside x f typed = elim typed [ ]
      go empty inside x f typed =
          let zero_word : slot_word (slot_in (row_words L.row) a) ≡ 0 = ap slot_word (its_slot x) ∙ word_of_empty x.located x.is_value in
          subst (λ b. StandsFor p.types (cond b words_on_empty words_on_node) on_empty) (sym (eq-eqb (slot_word (slot_in (row_words L.row) a)) 0 zero_word)) (empty_case inside x)
      go (node y z) inside x f typed =
          let it = a_node x.located x.is_value in
          let stored : Stored m (in_cell it.cell it.first it.others) = subst (λ v. Stored m v) it.is x.stored in
          let its : slot_word (slot_in (row_words L.row) a) ≡ it.cell = ap slot_word (its_slot x) ∙ ap word it.is in
          let no : eqb (slot_word (slot_in (row_words L.row) a)) 0 ≡ false = ne_eqb (slot_word (slot_in (row_words L.row) a)) 0 (λ q. let one = (parts stored).from_one in omega arith) in
          subst (λ b. StandsFor p.types (cond b words_on_empty words_on_node) (on_node y z)) (sym no)
          (node_case inside y z x it f (element_typed typed) hs ls differ bh bl)
