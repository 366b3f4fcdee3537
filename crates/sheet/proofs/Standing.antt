-- A step that stands at an offset is the first of the bytes from there on.
use Rattle.std.proofs.Common.{◌≡◌, ℕ, ◌-◌, ◌≤◌, Bool, true, false, leb, List, length, take, drop, refl, ap, ◌∙◌, arith, leb-false, leb-true}
use Rattle.std.proofs.lemmas.List.{take_rest}
use Rattle.rules.specs.Programs.{fetch}
use Rattle.rules.specs.Reach.{is_step, StepStands}
use Rattle.rules.proofs.Cuts.{fetch_end, cut_anywhere}

pub stands_inside : (bytes : List ℕ) (o : ℕ) → StepStands bytes o → o ≤ length bytes
stands_inside bytes o s = go (leb o (length bytes)) refl
  where
    go : (b : Bool) → leb o (length bytes) ≡ b → o ≤ length bytes
    go true e = leb-true o (length bytes) e
    go false e =
        let h = leb-false o (length bytes) e in
        let q = ap is_step (fetch_end bytes o (omega arith)) in cc

pub fetch_rest : (bytes : List ℕ) (o : ℕ) → fetch (take (length bytes - o) (drop o bytes)) 0 ≡ fetch bytes o
fetch_rest bytes o = ap (λ xs. fetch xs 0) (take_rest bytes o) ∙ cut_anywhere (drop o bytes) 0 o
