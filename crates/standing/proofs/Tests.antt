-- What was done on words against what the plain service did, through the tests of a call. Rests on what each call does on words.
use Rattle.std.proofs.Common.{◌≡◌, ℕ, Bool, true, false, cond, sym, refl, subst}
use Rattle.cells.specs.Cells.{Map}
use Rattle.plain.specs.Calls.{Refusal}
use Rattle.plain.specs.States as plain
use Rattle.standing.specs.Moments.{Moment, Stands, Sound}
use Rattle.standing.specs.Serving.{Done, refuse}
use Rattle.standing.specs.Calls.{Serves}

module _ {capacity : ℕ} where
  -- a test that both make
  pub by_test : (b : Bool) {x y : Done} {p q : plain.Served} → (b ≡ true → Serves capacity x p) → Serves capacity y q → Serves capacity (cond b x y) (cond b p q)
  by_test true yes_part no_part = yes_part refl
  by_test false yes_part no_part = no_part

  -- the same where the two tests are equal
  pub by_equal_tests : {a b : Bool} {x y : Done} {p q : plain.Served} → a ≡ b → (b ≡ true → Serves capacity x p) → Serves capacity y q →
      Serves capacity (cond a x y) (cond b p q)
  by_equal_tests {a} {b} {x} {y} {p} {q} same yes_part no_part = subst (λ t. Serves capacity (cond t x y) (cond b p q)) (sym same) (by_test b yes_part no_part)

  -- a refusal leaves what stood
  pub refuses : {m : Map} {w : Moment} {s : plain.State} (r : Refusal) → Stands m w s → Sound capacity s → Serves capacity (refuse r w m) (plain.refuse r s)
  refuses r stands sound = record { answers = refl; stands = stands; sound = sound }
