-- Const, Arith, Empty, Cons and If on words. Rests on rows and frames.
use Rattle.std.proofs.Common.{◌≡◌, ℕ, ◌+◌, ◌<◌, List, ◌∷◌, map, length, set, Some, sym, refl, ap, ◌∙◌, subst, arith}
use Rattle.records.specs.declared.kinds.Step.{Step as Action}
use Rattle.records.specs.declared.kinds.Step.TheVariants.{Const, Arith, Empty, Cons, If}
use Rattle.cells.specs.Cells.{Map, put, one_if}
use Rattle.rules.specs.Limits.{slot_count}
use Rattle.rules.specs.Types.{Ty, number, list, type_of, ElementsLower}
use Rattle.rules.specs.Programs.{Program}
use Rattle.rules.specs.Branches.{ListType}
use Rattle.rules.specs.Contexts.{Context, used, Uses, Binds}
use Rattle.plain.specs.Values.{num, empty, node, HasType, is_empty, is_node}
use Rattle.plain.specs.Slots.{Slots, value_in, after_use, slot_nodes}
use Rattle.plain.specs.Slots as plain_slots
use Rattle.plain.specs.Reading as plain
use Rattle.plain.specs.Fitting.{Filled}
use Rattle.plain.proofs.Uses.{use_slot, number_at}
use Rattle.standing.specs.declared.frames.Slot.TheVariants.{Number, ListOf}
use Rattle.standing.specs.Located.{no_node, in_cell, value, word, node_words, stored_none}
use Rattle.standing.specs.Rows.{LocatedSlot, with_number, with_list, slot_words, row_words, slot_value, row_values, slot_occurrences, row_occurrences, used_located, Kept, kept_number, kept_list}
use Rattle.standing.specs.Stepping.{slot_in, slot_word, used_words, word_frame, goes_on, effect}
use Rattle.standing.specs.Standing.{LocatedFrame, frame_words, frame_values, frames_occurrences, KeptFrames, StandsFor}
use Rattle.standing.specs.Law.{Takeable}
use Rattle.standing.proofs.Lists.{map_length}
use Rattle.standing.proofs.Cells.{held_after_put, stored_new}
use Rattle.standing.proofs.Rows.{words_after_use, values_after_use, kept_set, row_beside, taken}
use Rattle.standing.proofs.Bindings.{word_of_number, nothing_of_number, binding}
use Rattle.standing.proofs.Runs.{frames_beside, newest, goes_on_with, by_value, by_number}

module _ (p : Program) (lower : ElementsLower p.types) (m : Map) (k : ℕ) (L : LocatedFrame) (Ls : List LocatedFrame)
    (kept : KeptFrames p.types m (L ∷ Ls)) (owned : (c : ℕ) → row_occurrences c L.row + frames_occurrences c Ls ≡ one_if (m c))
    {Γ : Context} (filled : Filled Γ (row_values L.row)) where
  abbrev Follows : Action → Type 0
  Follows a =
      StandsFor p.types (effect p a L.next (row_words L.row) L.awaiting (map frame_words Ls) m k)
      (plain.act p a L.next (row_values L.row) L.awaiting (map frame_values Ls))

  -- something without nodes goes into slot d
  binds : (o d : ℕ) (x : LocatedSlot) → d < slot_count → Binds Γ d → Kept p.types m x → ((c : ℕ) → slot_occurrences c x ≡ 0) →
      StandsFor p.types (goes_on (word_frame o (set (row_words L.row) d (slot_words x)) L.awaiting ∷ map frame_words Ls) m)
      (plain.goes_on (plain.frame o (set (row_values L.row) d (slot_value x)) L.awaiting ∷ map frame_values Ls))
  binds o d x small may keeps none =
      let n = newest kept in
      let b = binding L.row d x refl filled small may in
      goes_on_with o (set L.row d x) L.awaiting Ls b.words b.values b.width (kept_set n.row d keeps) n.beneath
      (λ c. omega (arith, b.counts c, none c, owned c))

  pub const_stands : (d n : ℕ) → d < slot_count → Binds Γ d → Follows (Const d n)
  const_stands d n small may = binds (L.next + 6) d (with_number n) small may kept_number (λ c. refl)

  pub empty_stands : (d t : ℕ) {e : Ty} {a : ℕ} → type_of p.types t ≡ list e a → ListType p.types t → d < slot_count → Binds Γ d → Follows (Empty d t)
  empty_stands d t is known small may =
      binds (L.next + 3) d (with_list t no_node) small may (kept_list known (subst (λ y. HasType y empty) (sym is) is_empty) stored_none) (λ c. refl)

  pub arith_stands : (d op a b : ℕ) → d < slot_count → Uses Γ a number → Uses (used Γ a) b number → Binds (used (used Γ a) b) d → Follows (Arith d op a b)
  arith_stands d op a b small ua ub may =
      let R = L.row in
      let n = newest kept in
      let x = use_slot filled a ua in
      let y = use_slot x.filled b ub in
      let i = number_at a x in
      let j = number_at b y in
      let s = taken n.row a (num i.0) i.1 in
      let v₁ = values_after_use lower n.row a in
      let t = taken s.rest b (num j.0) (ap (λ S. value_in S b) v₁ ∙ j.1) in
      let v₂ : row_values (used_located (used_located R a) b) ≡ after_use (after_use (row_values R) a) b = values_after_use lower s.rest b ∙ ap (λ S. after_use S b) v₁ in
      let w₁ = words_after_use R a in
      let w₂ : row_words (used_located (used_located R a) b) ≡ used_words (used_words (row_words R) a) b = words_after_use (used_located R a) b ∙ ap (λ S. used_words S b) w₁ in
      let c = plain.computed op i.0 j.0 in
      let first : slot_word (slot_in (row_words R) a) ≡ i.0 = s.is_word ∙ word_of_number s.located i.0 s.is_value in
      let second : slot_word (slot_in (used_words (row_words R) a) b) ≡ j.0 =
      ap (λ S. slot_word (slot_in S b)) (sym w₁) ∙ (t.is_word ∙ word_of_number t.located j.0 t.is_value) in
      let g = binding (used_located (used_located R a) b) d (with_number c) v₂ y.filled small may in
      let same : c ≡ plain.computed op (slot_word (slot_in (row_words R) a)) (slot_word (slot_in (used_words (row_words R) a) b)) =
      ap (λ z. plain.computed op z j.0) (sym first) ∙ ap (plain.computed op _) (sym second) in
      by_number _ i.1 (by_number _ j.1
      (goes_on_with (L.next + 5) (set (used_located (used_located R a) b) d (with_number c)) L.awaiting Ls
      (g.words ∙ (ap (λ S. set S d (Number c)) w₂ ∙ ap (λ z. set (used_words (used_words (row_words R) a) b) d (Number z)) same))
      (g.values ∙ ap (λ S. set S d (Some (num c))) v₂) g.width (kept_set t.rest d kept_number) n.beneath
      (λ e. omega (arith, g.counts e, owned e, s.counts e, t.counts e, nothing_of_number e s.located i.0 s.is_value, nothing_of_number e t.located j.0 t.is_value))))

  pub cons_stands : (d t h l : ℕ) {e : Ty} {a : ℕ} → Takeable m k → type_of p.types t ≡ list e a → ListType p.types t → d < slot_count →
      Uses Γ h e → Uses (used Γ h) l (list e a) → Binds (used (used Γ h) l) d → Follows (Cons d t h l)
  cons_stands d t h l {e} {a} takes is known small uh ul may =
      let R = L.row in
      let n = newest kept in
      let x = use_slot filled h uh in
      let y = use_slot x.filled l ul in
      let s = taken n.row h x.value x.there in
      let v₁ = values_after_use lower n.row h in
      let u = taken s.rest l y.value (ap (λ S. value_in S l) v₁ ∙ y.there) in
      let R₂ = used_located (used_located R h) l in
      let v₂ : row_values R₂ ≡ after_use (after_use (row_values R) h) l = values_after_use lower s.rest l ∙ ap (λ S. after_use S l) v₁ in
      let w₁ = words_after_use R h in
      let w₂ : row_words R₂ ≡ used_words (used_words (row_words R) h) l = words_after_use (used_located R h) l ∙ ap (λ S. used_words S l) w₁ in
      let made = in_cell k s.located u.located in
      let second : slot_word (slot_in (used_words (row_words R) h) l) ≡ word u.located = ap (λ S. slot_word (slot_in S l)) (sym w₁) ∙ u.is_word in
      let its_words = node_words (word s.located) (word u.located) in
      let same : put m k its_words ≡ put m k (node_words (slot_word (slot_in (row_words R) h)) (slot_word (slot_in (used_words (row_words R) h) l))) =
      ap (λ z. put m k (node_words z (word u.located))) (sym s.is_word) ∙ ap (λ z. put m k (node_words (slot_word (slot_in (row_words R) h)) z)) (sym second) in
      let none : row_occurrences k R + frames_occurrences k Ls ≡ 0 = owned k ∙ ap one_if takes.unheld in
      let cs = s.counts k in
      let cu = u.counts k in
      let stored = stored_new k takes.from_one s.stored u.stored (omega arith) (omega arith) in
      let typed : HasType (type_of p.types t) (node (value s.located) (value u.located)) =
      subst (λ z. HasType z (node (value s.located) (value u.located))) (sym is)
      (is_node (subst (λ v. HasType e v) (sym s.is_value) x.typed) (subst (λ v. HasType (list e a) v) (sym u.is_value) y.typed)) in
      let rest = row_beside k (Some its_words) u.rest (omega arith) in
      let g = binding R₂ d (with_list t made) v₂ y.filled small may in
      let values : node (value s.located) (value u.located) ≡ node x.value y.value =
      ap (λ z. node z (value u.located)) s.is_value ∙ ap (node x.value) u.is_value in
      by_value _ x.there (by_value _ y.there
      (subst (λ z. StandsFor p.types (goes_on (word_frame (L.next + 5) (set (used_words (used_words (row_words R) h) l) d (ListOf k t)) L.awaiting ∷ map frame_words Ls) z)
      (plain.goes_on (plain.frame (L.next + 5) (plain_slots.put (after_use (after_use (row_values R) h) l) d (node x.value y.value)) L.awaiting ∷ map frame_values Ls))) same
      (goes_on_with (L.next + 5) (set R₂ d (with_list t made)) L.awaiting Ls
      (g.words ∙ ap (λ S. set S d (ListOf k t)) w₂)
      (g.values ∙ (ap (λ S. set S d (Some (node (value s.located) (value u.located)))) v₂ ∙ ap (λ z. set (after_use (after_use (row_values R) h) l) d (Some z)) values))
      g.width (kept_set rest d (kept_list known typed stored)) (frames_beside k (Some its_words) n.beneath (omega arith))
      (λ c. omega (arith, g.counts c, owned c, s.counts c, u.counts c, held_after_put m k its_words c takes.unheld)))))

  pub if_stands : (a second : ℕ) → Uses Γ a number → Follows (If a second)
  if_stands a second ua =
      let R = L.row in
      let n = newest kept in
      let x = use_slot filled a ua in
      let i = number_at a x in
      let s = taken n.row a (num i.0) i.1 in
      let its : slot_word (slot_in (row_words R) a) ≡ i.0 = s.is_word ∙ word_of_number s.located i.0 s.is_value in
      let go = goes_on_with (plain.unless_zero i.0 (L.next + 4) second) (used_located R a) L.awaiting Ls (words_after_use R a) (values_after_use lower n.row a)
      (sym (map_length slot_value (used_located R a)) ∙ (ap length (values_after_use lower n.row a) ∙ x.filled.width)) s.rest n.beneath
      (λ e. omega (arith, owned e, s.counts e, nothing_of_number e s.located i.0 s.is_value)) in
      by_number _ i.1
      (subst (λ z. StandsFor p.types (goes_on (word_frame (plain.unless_zero z (L.next + 4) second) (used_words (row_words R) a) L.awaiting ∷ map frame_words Ls) m)
      (plain.goes_on (plain.frame (plain.unless_zero i.0 (L.next + 4) second) (after_use (row_values R) a) L.awaiting ∷ map frame_values Ls))) (sym its) go)
