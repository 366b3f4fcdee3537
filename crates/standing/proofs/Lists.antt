-- Rows seen through a map: what one slot has, and what a change of one slot is there. Assumes nothing.
use Rattle.std.proofs.Common.{◌≡◌, ℕ, zero, suc, List, [], ◌∷◌, map, length, get_or, set, refl, ap}

pub map_at : {X Y : Type 0} (g : X → Y) (R : List X) (i : ℕ) (x : X) → get_or (map g R) i (g x) ≡ g (get_or R i x)
map_at g [] i x = refl
map_at g (y ∷ R) zero x = refl
map_at g (y ∷ R) (suc i) x = map_at g R i x

pub map_set : {X Y : Type 0} (g : X → Y) (R : List X) (i : ℕ) (v : X) → map g (set R i v) ≡ set (map g R) i (g v)
map_set g [] i v = refl
map_set g (y ∷ R) zero v = refl
map_set g (y ∷ R) (suc i) v = ap (λ r. g y ∷ r) (map_set g R i v)

pub map_length : {X Y : Type 0} (g : X → Y) (R : List X) → length (map g R) ≡ length R
map_length g [] = refl
map_length g (y ∷ R) = ap suc (map_length g R)
