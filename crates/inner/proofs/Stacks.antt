-- Rows read from the newest backwards. Assumes nothing.
use Rattle.std.proofs.Common.{◌≡◌, suc, ◌-◌, ◌<◌, List, [], ◌∷◌, ◌++◌, reverse, length, get_or, take, sym, ap, ◌∙◌, arith, take-suc}
use Rattle.std.proofs.Math.Seq.{take-length}
use Rattle.std.proofs.lemmas.List.{reverse-append}

-- the newest of some is the last of them
pub newest_top : {X : Type 0} (other : X) (xs : List X) → 0 < length xs →
    reverse xs ≡ get_or xs (length xs - 1) other ∷ reverse (take (length xs - 1) xs)
newest_top other xs some =
    let n = length xs - 1 in
    let inside : n < length xs = omega arith in
    let all : suc n ≡ length xs = omega arith in
    let split : xs ≡ take n xs ++ get_or xs n other ∷ [] = sym (take-length xs) ∙ (ap (λ k. take k xs) (sym all) ∙ take-suc xs n other inside) in
    ap reverse split ∙ reverse-append (take n xs) (get_or xs n other ∷ [])
