-- A step of a funded run finds what it needs. Rests on the rules that derive it, and on the rows that stand for its slots.
use Rattle.std.proofs.Common.{◌≡◌, ℕ, ◌<◌, ◌≤◌, List, [], ◌∷◌, map, length, is_some, Some, Option, sym, ap, ◌∙◌, subst, arith}
use Rattle.records.specs.declared.kinds.Step.{Step as Action}
use Rattle.records.specs.declared.kinds.Step.TheVariants.{Match}
use Rattle.records.specs.declared.kinds.Record.{Record}
use Rattle.records.specs.declared.kinds.Record.TheVariants.{Step}
use Rattle.cells.specs.Cells.{Map, free}
use Rattle.rules.specs.Limits.{slot_count}
use Rattle.rules.specs.Types.{Ty, list}
use Rattle.rules.specs.Programs.{Program}
use Rattle.rules.specs.Branches.{ListType}
use Rattle.rules.specs.Contexts.{Context, in_slot}
use Rattle.rules.specs.Lawful.{Lawful}
use Rattle.rules.specs.Rules.{Derives, derive_const, derive_arith, derive_empty, derive_cons, derive_call, derive_return, derive_match, derive_if}
use Rattle.rules.proofs.Reached.{branch_step, derives_step}
use Rattle.rules.proofs.Truth.{impossible}
use Rattle.plain.specs.Values.{Value, num, empty, node, HasType}
use Rattle.plain.specs.Charges.{charge}
use Rattle.plain.specs.Reading as plain
use Rattle.plain.specs.States.{Sheet, program_of}
use Rattle.plain.specs.Paid.{Suspended, no_caller, a_caller, Paid, paid}
use Rattle.plain.specs.Funded.{Funded}
use Rattle.plain.proofs.Values.{covers_itself}
use Rattle.plain.proofs.Uses.{use_slot}
use Rattle.standing.specs.declared.frames.Slot.{Slot}
use Rattle.standing.specs.declared.frames.Slot.TheVariants.{ListOf}
use Rattle.standing.specs.Located.{word, Stored}
use Rattle.standing.specs.Rows.{LocatedSlot, vacant, located_in, slot_words, row_words, slot_value}
use Rattle.standing.specs.Stepping.{slot_in, slot_word, slot_type}
use Rattle.standing.specs.Standing.{LocatedFrame, frame_words, frame_values, KeptFrames, RunStands}
use Rattle.standing.specs.Ready.{TakenApart, Ready, AStepFindsWhatItNeeds}
use Rattle.standing.proofs.Lists.{map_at, map_length}
use Rattle.standing.proofs.Cells.{parts}
use Rattle.standing.proofs.Rows.{words_in_slot, kept_at}
use Rattle.standing.proofs.Runs.{newest}
use Rattle.standing.proofs.ForkSteps.{Listed, listed, word_of_empty, a_node}
use Rattle.standing.proofs.Room.{a_cell_is_free_where_a_node_is_made}

-- the rule for a Match has a list type in its slot
list_there : {p : Program} {A : Ty} {n : ℕ} {Γ : Context} {b o a h l second : ℕ} {x : Option Record} → Derives p A n Γ b o x → x ≡ Some (Step (Match a h l second)) →
    (e : Ty) × (k : ℕ) × (in_slot Γ a ≡ Some (list e k))
list_there (derive_const may next) q = impossible (cc)
list_there (derive_arith ux uy may next) q = impossible (cc)
list_there (derive_empty is may next) q = impossible (cc)
list_there (derive_cons is uh ul may pays next) q = impossible (cc)
list_there (derive_call g is passes may pays next) q = impossible (cc)
list_there (derive_return u none left) q = impossible (cc)
list_there {Γ = Γ} {a = a} (derive_match {a = a₂} {n = k} {e = e} has differ bh bl first later) q =
    let same : a₂ ≡ a = cc in (e, k, subst (λ j. in_slot Γ j ≡ Some (list e k)) same has)
list_there (derive_if u first later) q = impossible (cc)

-- a list that is not empty has its first cell
node_held : (s : Sheet) (m : Map) (x : LocatedSlot) (v : Value) → Listed s.tables.types m x v → {e : Ty} {k : ℕ} → HasType (list e k) v → (w : Slot) → w ≡ slot_words x →
    (slot_word w ≡ 0 → ⊥) → TakenApart s m w
node_held s m x (num n) it h w is nz = elim h [ ]
node_held s m x empty it h w is nz = absurd (nz (ap slot_word (is ∙ ap slot_words it.is) ∙ word_of_empty it.located it.is_value))
node_held s m x (node y z) it h w is nz =
    let nd = a_node it.located it.is_value in
    let part = parts (subst (λ u. Stored m u) nd.is it.stored) in
    let its : w ≡ ListOf nd.cell it.of = is ∙ (ap slot_words it.is ∙ ap (λ u. ListOf (word u) it.of) nd.is) in
    record {
      known = subst (λ t. ListType s.tables.types t) (sym (ap slot_type its)) it.known;
      held = ap (λ u. is_some (m (slot_word u))) its ∙ ap is_some part.held;
    }

awaited_there : {p : Program} {A B : Ty} {r n w amount : ℕ} {fs : List plain.Frame} → Suspended p A r w B n amount fs → 0 < length fs → w < slot_count
awaited_there no_caller h = absurd (omega arith)
awaited_there (a_caller balance caller may inside continues beneath is) h = inside

module _ (s : Sheet) (spare capacity : ℕ) (m : Map) (lawful : Lawful s.bytes s.tables) where
  paid_ready : (L : LocatedFrame) (Ls : List LocatedFrame) {A : Ty} {r purse : ℕ} → KeptFrames s.tables.types m (L ∷ Ls) →
      Paid (program_of s) A r spare purse (map frame_values (L ∷ Ls)) →
      ((a : Action) → (program_of s).fetched L.next ≡ Some (Step a) → charge a ≤ free capacity m) →
      Ready s capacity m (frame_words L) (map frame_words Ls)
  paid_ready L Ls kept (paid filled continues suspended enough few) room =
      let n = newest kept in
      let first = branch_step (program_of s) continues.branch in
      let long = map_length frame_values Ls in
      let longer = map_length frame_words Ls in
      record {
        action = first.step;
        fetched = first.stands;
        stands = derives_step continues.derives;
        fields = first.fields;
        room = room first.step first.stands;
        width = map_length slot_words L.row ∙ n.width;
        few = omega arith;
        awaited = λ some. awaited_there suspended (omega arith);
        a_node = λ a h l second is nz.
            let t = list_there continues.derives (first.stands ∙ ap (λ y. Some (Step y)) is) in
            let u = use_slot filled a (record { of = list t.0 t.1; has = t.2; covering = covers_itself (list t.0 t.1) }) in
            let there : slot_value (located_in L.row a) ≡ Some u.value = sym (map_at slot_value L.row a vacant) ∙ u.there in
            node_held s m (located_in L.row a) u.value (listed u.value (kept_at n.row a) there u.typed) u.typed (slot_in (row_words L.row) a) (words_in_slot L.row a) nz;
      }

pub a_step_finds_what_it_needs : AStepFindsWhatItNeeds
a_step_finds_what_it_needs s spare capacity m f fs values lawful numbered funded stands =
    go stands.located stands.as_words stands.kept
    (subst (λ vs. Funded s spare capacity vs) (sym stands.as_values) funded)
    (subst (λ vs. RunStands s.tables.types m (f ∷ fs) vs) (sym stands.as_values) stands)
  where
    go : (Ls : List LocatedFrame) → map frame_words Ls ≡ f ∷ fs → KeptFrames s.tables.types m Ls → Funded s spare capacity (map frame_values Ls) →
        RunStands s.tables.types m (f ∷ fs) (map frame_values Ls) → Ready s capacity m f fs
    go [] q kept funds standing = impossible (cc)
    go (L ∷ Ls) q kept funds standing =
        let head : frame_words L ≡ f = cc in
        let tail : map frame_words Ls ≡ fs = cc in
        let ready = paid_ready s spare capacity m lawful L Ls kept funds.pays
        (λ a at. a_cell_is_free_where_a_node_is_made s spare capacity m (f ∷ fs) (frame_values L) (map frame_values Ls) a lawful funds numbered standing at) in
        subst (λ g. Ready s capacity m g fs) head (subst (λ gs. Ready s capacity m (frame_words L) gs) tail ready)
