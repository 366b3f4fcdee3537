-- Call and Return on words. Rests on rows and frames.
use Rattle.std.proofs.Common.{◌≡◌, ℕ, zero, suc, ◌+◌, ◌<◌, ◌≤◌, Bool, true, false, cond, leb, List, [], ◌∷◌, map, length, get_or, take, set, replicate, Some, None, sym, refl, ap, ◌∙◌, subst, le_refl, arith, length-set, get_or-set_other}
use Rattle.records.specs.declared.kinds.NodeType.{NodeType}
use Rattle.records.specs.declared.kinds.Step.TheVariants.{Call, Return}
use Rattle.cells.specs.Cells.{Map, one_if}
use Rattle.rules.specs.Limits.{slot_count}
use Rattle.rules.specs.Types.{Ty, ElementsLower}
use Rattle.rules.specs.Programs.{Program, no_function}
use Rattle.rules.specs.Contexts.{Context, used, Uses, Passes, pass_none, pass_one, NoLists}
use Rattle.plain.specs.Values.{Value}
use Rattle.plain.specs.Slots.{Slots, after_use, put_from, starting_slots, slots_nodes}
use Rattle.plain.specs.Reading as plain
use Rattle.plain.specs.Fitting.{Filled}
use Rattle.plain.specs.Paid.{Suspended, a_caller}
use Rattle.plain.proofs.Slots.{no_lists_bare}
use Rattle.plain.proofs.Uses.{use_slot}
use Rattle.standing.specs.declared.frames.Slot.TheVariants.{Vacant}
use Rattle.standing.specs.Rows.{vacant, Row, located_in, slot_words, row_words, slot_value, row_values, slot_occurrences, row_occurrences, used_located, Kept, kept_vacant, KeptRow, kept_none, kept_more}
use Rattle.standing.specs.Stepping.{slot_in, moved_out, left_behind, moved_in, starting_words, word_frame, Effect, goes_on, refused, handed_back, effect}
use Rattle.standing.specs.Standing.{LocatedFrame, located_frame, frame_words, frame_values, frames_occurrences, KeptFrames, one_frame, StandsFor, stands_on, stands_end, stands_refused}
use Rattle.standing.proofs.Lists.{map_set, map_length}
use Rattle.standing.proofs.Rows.{words_in_slot, words_after_use, values_after_use, occurrences_after_set, occurrences_after_use, row_within, kept_at, kept_set, taken}
use Rattle.standing.proofs.Bindings.{binding}
use Rattle.standing.proofs.Runs.{newest, goes_on_with, by_value}

-- ---- arguments move into the slots of a new frame

pub map_moved_in : {X Y : Type 0} (g : X → Y) (i : ℕ) (xs R : List X) → map g (moved_in i xs R) ≡ moved_in i (map g xs) (map g R)
map_moved_in g i [] R = refl
map_moved_in g i (x ∷ xs) R = map_moved_in g (i + 1) xs (set R i x) ∙ ap (moved_in (i + 1) (map g xs)) (map_set g R i x)

pub put_as_moved : (i : ℕ) (vs : List Value) (S : Slots) → moved_in i (map Some vs) S ≡ put_from i vs S
put_as_moved i [] S = refl
put_as_moved i (v ∷ vs) S = put_as_moved (i + 1) vs (set S i (Some v))

pub length_moved_in : {X : Type 0} (i : ℕ) (xs R : List X) → length (moved_in i xs R) ≡ length R
length_moved_in i [] R = refl
length_moved_in i (x ∷ xs) R = length_moved_in (i + 1) xs (set R i x) ∙ length-set R i x

pub moved_in_counts : (c i : ℕ) (xs R : Row) → i + length xs ≤ length R → ((k : ℕ) → i ≤ k → located_in R k ≡ vacant) →
    row_occurrences c (moved_in i xs R) ≡ row_occurrences c R + row_occurrences c xs
moved_in_counts c i [] R room free = omega arith
moved_in_counts c i (x ∷ xs) R room free =
    let wide = length-set R i x in
    let more = moved_in_counts c (i + 1) xs (set R i x) (omega arith) (λ k far. get_or-set_other R i k x vacant (λ e. omega arith) ∙ free k (omega arith)) in
    let inside : i < length R = omega arith in
    omega (arith, more, occurrences_after_set c R i x inside, ap (slot_occurrences c) (free i (le_refl i)))

pub moved_in_kept : {ts : List NodeType} {m : Map} (i : ℕ) {xs R : Row} → KeptRow ts m xs → KeptRow ts m R → KeptRow ts m (moved_in i xs R)
moved_in_kept i kept_none r = r
moved_in_kept i (kept_more x xs) r = moved_in_kept (i + 1) xs (kept_set r i x)

pub all_vacant : (n k : ℕ) → located_in (replicate n vacant) k ≡ vacant
all_vacant zero k = refl
all_vacant (suc n) zero = refl
all_vacant (suc n) (suc k) = all_vacant n k

pub vacant_kept : {ts : List NodeType} {m : Map} (n : ℕ) → KeptRow ts m (replicate n vacant)
vacant_kept zero = kept_none
vacant_kept (suc n) = kept_more kept_vacant (vacant_kept n)

pub vacant_counts : (c n : ℕ) → row_occurrences c (replicate n vacant) ≡ 0
vacant_counts c zero = refl
vacant_counts c (suc n) = omega (arith, vacant_counts c n)

-- the arguments have moved out of a row
pub record Moved (ts : List NodeType) (m : Map) (R : Row) (is : List ℕ) (types : List Ty) (Δ : Context) : Type 0 where
  pub moved : Row
  pub behind : Row
  pub values : List Value
  pub moved_words : row_words moved ≡ moved_out (row_words R) is
  pub behind_words : row_words behind ≡ left_behind (row_words R) is
  pub moved_values : row_values moved ≡ map Some values
  pub reads : (k : List Value → Slots → plain.Outcome) → plain.with_values (row_values R) is k ≡ k values (row_values behind)
  pub moved_kept : KeptRow ts m moved
  pub behind_kept : KeptRow ts m behind
  pub width : length behind ≡ length R
  pub as_many : length moved ≡ length types
  pub counts : (c : ℕ) → row_occurrences c behind + row_occurrences c moved ≡ row_occurrences c R

pub moving : {ts : List NodeType} {m : Map} {Γ Δ : Context} {is : List ℕ} {types : List Ty} → ElementsLower ts → Passes Γ is types Δ → (R : Row) →
    Filled Γ (row_values R) → KeptRow ts m R → Moved ts m R is types Δ
moving lower pass_none R filled kept =
    record {
      moved = [];
      behind = R;
      values = [];
      moved_words = refl;
      behind_words = refl;
      moved_values = refl;
      reads = λ k. refl;
      moved_kept = kept_none;
      behind_kept = kept;
      width = refl;
      as_many = refl;
      counts = λ c. omega arith;
    }
moving {Γ = Γ} lower (pass_one {i} {is} u more) R filled kept =
    let x = use_slot filled i u in
    let t = taken kept i x.value x.there in
    let v₁ = values_after_use lower kept i in
    let w₁ = words_after_use R i in
    let r = moving lower more (used_located R i) (subst (λ S. Filled (used Γ i) S) (sym v₁) x.filled) t.rest in
    record {
      moved = located_in R i ∷ r.moved;
      behind = r.behind;
      values = x.value ∷ r.values;
      moved_words = ap (λ y. y ∷ row_words r.moved) (sym (words_in_slot R i)) ∙ ap (λ ys. slot_in (row_words R) i ∷ ys) (r.moved_words ∙ ap (λ W. moved_out W is) w₁);
      behind_words = r.behind_words ∙ ap (λ W. left_behind W is) w₁;
      moved_values = ap (λ y. y ∷ row_values r.moved) t.there ∙ ap (λ ys. Some x.value ∷ ys) r.moved_values;
      reads = λ k. ap (λ o. plain.with_value o (λ v. plain.with_values (after_use (row_values R) i) is (λ vs T. k (v ∷ vs) T))) x.there ∙
          (ap (λ S. plain.with_values S is (λ vs T. k (x.value ∷ vs) T)) (sym v₁) ∙ r.reads (λ vs T. k (x.value ∷ vs) T));
      moved_kept = kept_more (kept_at kept i) r.moved_kept;
      behind_kept = r.behind_kept;
      width = r.width ∙ length-set R i _;
      as_many = ap suc r.as_many;
      counts = λ c. omega (arith, r.counts c, occurrences_after_use c R i t.inside);
    }

module _ (p : Program) (lower : ElementsLower p.types) (m : Map) (k : ℕ) (L : LocatedFrame) (Ls : List LocatedFrame)
    (kept : KeptFrames p.types m (L ∷ Ls)) (owned : (c : ℕ) → row_occurrences c L.row + frames_occurrences c Ls ≡ one_if (m c))
    {Γ : Context} (filled : Filled Γ (row_values L.row)) where
  pub call_stands : (d f : ℕ) (slots : List ℕ) {types : List Ty} {Δ : Context} →
      Passes Γ (take (get_or p.functions f no_function).signature.count slots) types Δ → length types ≤ slot_count →
      StandsFor p.types (effect p (Call d f slots) L.next (row_words L.row) L.awaiting (map frame_words Ls) m k)
      (plain.act p (Call d f slots) L.next (row_values L.row) L.awaiting (map frame_values Ls))
  call_stands d f slots passes few =
      subst (λ n. StandsFor p.types (cond (leb plain.frame_limit (n + 1)) refused on_words) (cond (leb plain.frame_limit (length (map frame_values Ls) + 1)) plain.refused on_values))
      (map_length frame_values Ls ∙ sym (map_length frame_words Ls)) (go (leb plain.frame_limit (length (map frame_values Ls) + 1)))
    where
      on_words : Effect
      on_words =
          goes_on (word_frame (get_or p.functions f no_function).body (starting_words (moved_out (row_words L.row) (take (get_or p.functions f no_function).signature.count slots))) d ∷
          (word_frame (L.next + 7) (left_behind (row_words L.row) (take (get_or p.functions f no_function).signature.count slots)) L.awaiting ∷ map frame_words Ls)) m

      on_values : plain.Outcome
      on_values =
          plain.with_values (row_values L.row) (take (get_or p.functions f no_function).signature.count slots)
          (λ vs T. plain.goes_on (plain.entered (get_or p.functions f no_function) vs d ∷ plain.frame (L.next + 7) T L.awaiting ∷ map frame_values Ls))

      made : StandsFor p.types on_words on_values
      made =
          let n = newest kept in
          let x = moving lower passes L.row filled n.row in
          let A = moved_in 0 x.moved (replicate slot_count vacant) in
          let g = get_or p.functions f no_function in
          let room : 0 + length x.moved ≤ length (replicate slot_count vacant) = let q = x.as_many in omega arith in
          let words : row_words A ≡ starting_words (moved_out (row_words L.row) (take (get_or p.functions f no_function).signature.count slots)) =
          map_moved_in slot_words 0 x.moved (replicate slot_count vacant) ∙ ap (λ xs. moved_in 0 xs (replicate slot_count Vacant)) x.moved_words in
          let values : row_values A ≡ starting_slots x.values =
          map_moved_in slot_value 0 x.moved (replicate slot_count vacant) ∙
          (ap (λ xs. moved_in 0 xs (replicate slot_count None)) x.moved_values ∙ put_as_moved 0 x.values (replicate slot_count None)) in
          subst (λ o. StandsFor p.types on_words o) (sym (x.reads _))
          (stands_on (record {
            located = located_frame g.body A d ∷ (located_frame (L.next + 7) x.behind L.awaiting ∷ Ls);
            as_words = ap (λ W. word_frame g.body W d ∷ (word_frame (L.next + 7) (row_words x.behind) L.awaiting ∷ map frame_words Ls)) words ∙
                ap (λ W. word_frame g.body (starting_words (moved_out (row_words L.row) (take (get_or p.functions f no_function).signature.count slots))) d ∷ (word_frame (L.next + 7) W L.awaiting ∷ map frame_words Ls)) x.behind_words;
            as_values = ap (λ S. plain.frame g.body S d ∷ (plain.frame (L.next + 7) (row_values x.behind) L.awaiting ∷ map frame_values Ls)) values;
            kept = one_frame (length_moved_in 0 x.moved (replicate slot_count vacant)) (moved_in_kept 0 x.moved_kept (vacant_kept slot_count))
                (one_frame (x.width ∙ n.width) x.behind_kept n.beneath);
            owned = λ c. omega (arith, owned c, x.counts c, moved_in_counts c 0 x.moved (replicate slot_count vacant) room (λ j far. all_vacant slot_count j), vacant_counts c slot_count);
          }))

      go : (b : Bool) → StandsFor p.types (cond b refused on_words) (cond b plain.refused on_values)
      go true = stands_refused
      go false = made

pub return_stands : (p : Program) → ElementsLower p.types → (m : Map) (k : ℕ) (L : LocatedFrame) (Ls : List LocatedFrame) →
    KeptFrames p.types m (L ∷ Ls) → ((c : ℕ) → row_occurrences c L.row + frames_occurrences c Ls ≡ one_if (m c)) →
    {Γ : Context} → Filled Γ (row_values L.row) → {A B : Ty} {r n amount : ℕ} → Suspended p A r L.awaiting B n amount (map frame_values Ls) →
    (a : ℕ) → Uses Γ a B → NoLists (used Γ a) →
    StandsFor p.types (effect p (Return a) L.next (row_words L.row) L.awaiting (map frame_words Ls) m k)
    (plain.act p (Return a) L.next (row_values L.row) L.awaiting (map frame_values Ls))
return_stands p lower m k L Ls kept owned {Γ} filled suspended a u none =
    let n = newest kept in
    let x = use_slot filled a u in
    let t = taken n.row a x.value x.there in
    let bare : slots_nodes (row_values (used_located L.row a)) ≡ 0 =
    ap slots_nodes (values_after_use lower n.row a) ∙ no_lists_bare none x.filled.fits in
    by_value _ x.there (go Ls n.beneath owned suspended x.value t.there
    (λ c. omega (arith, occurrences_after_use c L.row a t.inside, row_within c (used_located L.row a), bare)) (kept_at n.row a))
  where
    go : (Ms : List LocatedFrame) → KeptFrames p.types m Ms → ((c : ℕ) → row_occurrences c L.row + frames_occurrences c Ms ≡ one_if (m c)) →
        {A B : Ty} {r n amount : ℕ} → Suspended p A r L.awaiting B n amount (map frame_values Ms) → (v : Value) →
        slot_value (located_in L.row a) ≡ Some v → ((c : ℕ) → slot_occurrences c (located_in L.row a) ≡ row_occurrences c L.row) → Kept p.types m (located_in L.row a) →
        StandsFor p.types (handed_back (map frame_words Ms) L.awaiting (slot_in (row_words L.row) a) m) (plain.handed_back (map frame_values Ms) L.awaiting v)
    go [] keeps own waits v there all keep =
        stands_end (record {
          located = located_in L.row a;
          as_words = sym (words_in_slot L.row a);
          as_value = there;
          kept = keep;
          owned = λ c. omega (arith, own c, all c);
        })
    go (M ∷ Ms) keeps own (a_caller balance caller may inside continues beneath is) v there all keep =
        let n = newest keeps in
        let x = located_in L.row a in
        let g = binding M.row L.awaiting x refl caller inside may in
        goes_on_with M.next (set M.row L.awaiting x) M.awaiting Ms
        (g.words ∙ ap (set (row_words M.row) L.awaiting) (sym (words_in_slot L.row a)))
        (g.values ∙ ap (set (row_values M.row) L.awaiting) there) g.width (kept_set n.row L.awaiting keep) n.beneath
        (λ c. omega (arith, own c, all c, g.counts c))
