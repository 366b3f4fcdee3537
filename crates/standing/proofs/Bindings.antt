-- A row with something put into a slot that may be bound, and what a number is on words and in the cells. Rests on rows and on how
-- slots fit a context.
use Rattle.std.proofs.Common.{◌≡◌, ℕ, ◌+◌, ◌<◌, length, set, sym, refl, ap, ◌∙◌, arith, length-set}
use Rattle.rules.specs.Limits.{slot_count}
use Rattle.rules.specs.Contexts.{Context, Binds}
use Rattle.rules.proofs.Truth.{impossible}
use Rattle.plain.specs.Values.{num}
use Rattle.plain.specs.Slots.{Slots, value_in, slot_nodes}
use Rattle.plain.specs.Fitting.{Filled}
use Rattle.plain.proofs.Slots.{fits_at, no_list_bare}
use Rattle.standing.specs.Located.{Located, a_number, no_node, in_cell, value, word, occurrences}
use Rattle.standing.specs.Rows.{LocatedSlot, Row, slot_words, row_words, slot_value, row_values, slot_occurrences, row_occurrences}
use Rattle.standing.proofs.Lists.{map_set, map_length}
use Rattle.standing.proofs.Rows.{occurrences_after_binding}

-- the word of a number, and what it has in the cells
pub word_of_number : (x : Located) (n : ℕ) → value x ≡ num n → word x ≡ n
word_of_number (a_number k) n q = cc
word_of_number no_node n q = impossible (cc)
word_of_number (in_cell c x y) n q = impossible (cc)

pub nothing_of_number : (c : ℕ) (x : Located) (n : ℕ) → value x ≡ num n → occurrences c x ≡ 0
nothing_of_number c (a_number k) n q = refl
nothing_of_number c no_node n q = refl
nothing_of_number c (in_cell k x y) n q = impossible (cc)

-- something is put into slot d, which may be bound
pub record Binding (R : Row) (d : ℕ) (x : LocatedSlot) : Type 0 where
  pub width : length (set R d x) ≡ slot_count
  pub words : row_words (set R d x) ≡ set (row_words R) d (slot_words x)
  pub values : row_values (set R d x) ≡ set (row_values R) d (slot_value x)
  pub counts : (c : ℕ) → row_occurrences c (set R d x) ≡ row_occurrences c R + slot_occurrences c x

pub binding : {Δ : Context} {S : Slots} (R : Row) (d : ℕ) (x : LocatedSlot) → row_values R ≡ S → Filled Δ S → d < slot_count → Binds Δ d → Binding R d x
binding {Δ} {S} R d x same filled_there small may =
    let wide : length R ≡ slot_count = sym (map_length slot_value R) ∙ (ap length same ∙ filled_there.width) in
    let inside : d < length R = omega arith in
    let bare : slot_nodes (value_in (row_values R) d) ≡ 0 = ap (λ T. slot_nodes (value_in T d)) same ∙ (no_list_bare (fits_at filled_there.fits d) may).1 in
    record {
      width = length-set R d x ∙ wide;
      words = map_set slot_words R d x;
      values = map_set slot_value R d x;
      counts = λ c. occurrences_after_binding c R d x inside bare;
    }
