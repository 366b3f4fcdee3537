-- What an update of the map reads back, and how it changes the count. Assumes nothing.
use Rattle.std.specs.Prelude.{◌≡◌, ℕ, zero, suc, ◌+◌, ◌<◌, ◌≤◌, true, false, is_some, Some, None, Option, ◌==◌, ◌≢◌, refl}
use Rattle.std.proofs.Math.Path.{fun_ext}
use Rattle.std.proofs.Common.{sym, ap, ◌∙◌, ⊎_elim, arith}
use Rattle.std.proofs.lemmas.Bool.{eq-eqb, ne_eqb, cases_eq, cond-true, cond-false}
use Rattle.cells.specs.declared.words.Words.{Words}
use Rattle.cells.specs.Cells.{Map, last_number, Held, Unheld, empty, update, one_if, count_below, count}

-- ---- reading back

pub update_here : (m : Map) (k : ℕ) (entry : Option Words) → update m k entry k ≡ entry
unfolding update
update_here m k entry = cond-true (k == k) entry (m k) (eq-eqb k k refl)

pub update_elsewhere : (m : Map) (k : ℕ) (entry : Option Words) (j : ℕ) → (j ≢ k) → update m k entry j ≡ m j
unfolding update
update_elsewhere m k entry j h = cond-false (j == k) entry (m j) (ne_eqb j k h)

-- writing back what stood at a number restores the map, whatever was written between
pub update_back : (m : Map) (k : ℕ) (entry back : Option Words) → m k ≡ back → update (update m k entry) k back ≡ m
update_back m k entry back h = fun_ext (λ j. ⊎_elim
    (λ (e : j ≡ k). ap (update (update m k entry) k back) e ∙ (update_here (update m k entry) k back ∙ (sym h ∙ ap m (sym e))))
    (λ (ne : j ≡ k → ⊥). update_elsewhere (update m k entry) k back j ne ∙ update_elsewhere m k entry j ne)
    (cases_eq j k))

-- no number is both held and unheld
pub held_not_unheld : (m : Map) (k : ℕ) → Held m k → Unheld m k → ⊥
held_not_unheld m k h u = let z : true ≡ false = sym h ∙ ap is_some u in let q : ◌≡◌ {A = ℕ} 0 1 = cc in omega arith

pub held_one : (entry : Option Words) → is_some entry ≡ true → one_if entry ≡ 1
held_one (Some words) h = refl
held_one None h = let q : ◌≡◌ {A = ℕ} 0 1 = cc in absurd (omega arith)

-- ---- counting

below_same : (m : Map) (k : ℕ) (entry : Option Words) (n : ℕ) → n ≤ k → count_below (update m k entry) n ≡ count_below m n
unfolding count_below
below_same m k entry zero h = refl
below_same m k entry (suc n) h =
    let here : update m k entry n ≡ m n = update_elsewhere m k entry n (λ e. omega arith) in
    let rest : count_below (update m k entry) n ≡ count_below m n = below_same m k entry n (omega arith) in
    cc

below_update : (m : Map) (k : ℕ) (entry : Option Words) (n : ℕ) → k < n → count_below (update m k entry) n + one_if (m k) ≡ count_below m n + one_if entry
unfolding count_below
below_update m k entry zero h = absurd (omega arith)
below_update m k entry (suc n) h = ⊎_elim here (there (below_update m k entry n)) (cases_eq k n)
  where
    here : k ≡ n → count_below (update m k entry) n + one_if (update m k entry n) + one_if (m k) ≡ count_below m n + one_if (m n) + one_if entry
    here e =
        let new : one_if (update m k entry n) ≡ one_if entry = ap one_if (ap (update m k entry) (sym e) ∙ update_here m k entry) in
        let old : one_if (m k) ≡ one_if (m n) = ap (λ j. one_if (m j)) e in
        omega (arith, below_same m k entry n (omega arith), new, old)

    there : (k < n → count_below (update m k entry) n + one_if (m k) ≡ count_below m n + one_if entry) → (k ≢ n)
        → count_below (update m k entry) n + one_if (update m k entry n) + one_if (m k) ≡ count_below m n + one_if (m n) + one_if entry
    there rest ne =
        let lt : k < n = omega arith in
        let same : one_if (update m k entry n) ≡ one_if (m n) = ap one_if (update_elsewhere m k entry n (λ e. omega (arith, ne (sym e)))) in
        omega (arith, rest lt, same)

-- an update moves the count by what the new entry adds and the old one took away
pub count_update : (m : Map) (k : ℕ) (entry : Option Words) → k ≤ last_number → count (update m k entry) + one_if (m k) ≡ count m + one_if entry
unfolding count
count_update m k entry h = below_update m k entry (last_number + 1) (omega arith)

below_empty : (n : ℕ) → count_below empty n ≡ 0
unfolding count_below
below_empty zero = refl
below_empty (suc n) = omega (arith, below_empty n)

pub count_empty : count empty ≡ 0
unfolding count
count_empty = below_empty (last_number + 1)
