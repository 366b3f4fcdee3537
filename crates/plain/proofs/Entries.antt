-- The entries of an input stack in the order in which they were pushed: their types, nodes, and what they bring along.
use Rattle.std.proofs.Common.{◌≡◌, ℕ, ◌+◌, true, eqb, List, [], ◌∷◌, map, reverse, refl, arith, eqb-true}
use mathlib.Core.List.{reverse_aux}
use Rattle.records.specs.declared.kinds.NodeType.{NodeType}
use Rattle.rules.specs.Types.{Ty, type_of}
use Rattle.rules.proofs.Truth.{impossible, split}
use Rattle.plain.specs.Values.{Value, all_nodes, all_potential, HaveTypes, no_values, one_value}
use Rattle.plain.specs.States.{Entry, entries_nodes, entries_potential}
use Rattle.plain.specs.Feeding.{same_numbers}
use Rattle.plain.specs.Funded.{EntriesTyped, no_entries, one_entry}

pub same_lists : (xs ys : List ℕ) → same_numbers xs ys ≡ true → xs ≡ ys
same_lists [] [] e = refl
same_lists [] (y ∷ ys) e = impossible (cc)
same_lists (x ∷ xs) [] e = impossible (cc)
same_lists (x ∷ xs) (y ∷ ys) e =
    let k = split (eqb x y) (same_numbers xs ys) e in
    let first = eqb-true x y k.0 in
    let rest = same_lists xs ys k.1 in
    cc

-- the entries turned round, in front of those that are already
turned_typed : {ts : List NodeType} {es ds : List Entry} → EntriesTyped ts es → EntriesTyped ts ds → EntriesTyped ts (reverse_aux es ds)
turned_typed no_entries done = done
turned_typed (one_entry h hs) done = turned_typed hs (one_entry h done)

turned_nodes : (es ds : List Entry) → entries_nodes (reverse_aux es ds) ≡ entries_nodes es + entries_nodes ds
turned_nodes [] ds = omega arith
turned_nodes (e ∷ es) ds = let k = turned_nodes es (e ∷ ds) in omega arith

turned_potential : (ts : List NodeType) (es ds : List Entry) → entries_potential ts (reverse_aux es ds) ≡ entries_potential ts es + entries_potential ts ds
turned_potential ts [] ds = omega arith
turned_potential ts (e ∷ es) ds = let k = turned_potential ts es (e ∷ ds) in omega arith

values_typed : {ts : List NodeType} {es : List Entry} → EntriesTyped ts es →
    HaveTypes (map (type_of ts) (map (λ e. e.type_number) es)) (map (λ e. e.value) es)
values_typed no_entries = no_values
values_typed (one_entry h hs) = one_value h (values_typed hs)

values_nodes : (es : List Entry) → all_nodes (map (λ e. e.value) es) ≡ entries_nodes es
values_nodes [] = refl
values_nodes (e ∷ es) = let k = values_nodes es in omega arith

values_potential : (ts : List NodeType) (es : List Entry) →
    all_potential (map (type_of ts) (map (λ e. e.type_number) es)) (map (λ e. e.value) es) ≡ entries_potential ts es
values_potential ts [] = refl
values_potential ts (e ∷ es) = let k = values_potential ts es in omega arith

-- the values that a run begins with
pub record Arguments (ts : List NodeType) (es : List Entry) (types : List Ty) (vs : List Value) : Type 0 where
  pub typed : HaveTypes types vs
  pub counts : all_nodes vs ≡ entries_nodes es
  pub brings : all_potential types vs ≡ entries_potential ts es

pub arguments : {ts : List NodeType} {es : List Entry} → EntriesTyped ts es →
    Arguments ts es (map (type_of ts) (map (λ e. e.type_number) (reverse es))) (map (λ e. e.value) (reverse es))
arguments {ts} {es} h =
    let a = turned_nodes es [] in
    let b = turned_potential ts es [] in
    let c = values_nodes (reverse es) in
    let d = values_potential ts (reverse es) in
    record { typed = values_typed (turned_typed h no_entries); counts = omega arith; brings = omega arith }
