-- The functional reading: the value of a body, with no frames, no offsets and no cells. Rests on bodies and slots.
use Rattle.std.specs.Prelude.{◌≡◌, ℕ, suc, List, [], ◌∷◌, Some}
use Rattle.plain.specs.Values.{Value, num, empty, node}
use Rattle.plain.specs.Slots.{Slots, value_in, after_use, put, starting_slots}
use Rattle.plain.specs.Reading.{computed}
use Rattle.plain.specs.Bodies.{Body, let_const, let_arith, let_empty, let_cons, let_call, return, match, if, body_of}

-- Taken S slots vs T: these slots of S, used one after the other, have the values vs, and T is left.
pub data Taken : Slots → List ℕ → List Value → Slots → Type 0 where
  none_taken : {S : Slots} → Taken S [] [] S
  one_taken : {S T : Slots} {i : ℕ} {is : List ℕ} {v : Value} {vs : List Value} → value_in S i ≡ Some v → Taken (after_use S i) is vs T →
      Taken S (i ∷ is) (v ∷ vs) T

-- Evaluates bodies depth x S v: with the slots S, the body x answers v, and calls nest at most `depth` deep. A list that is used
-- leaves its slot, and a number stays.
pub data Evaluates (bodies : List Body) : ℕ → Body → Slots → Value → Type 0 where
  -- Const: the rest, with the number in d
  by_const : {depth d n : ℕ} {x : Body} {S : Slots} {v : Value} →
      Evaluates bodies depth x (put S d (num n)) v →
      Evaluates bodies depth (let_const d n x) S v
  -- Arith: the rest, with what is computed of two numbers in d
  by_arith : {depth d op a b m n : ℕ} {x : Body} {S : Slots} {v : Value} →
      value_in S a ≡ Some (num m) →
      value_in (after_use S a) b ≡ Some (num n) →
      Evaluates bodies depth x (put (after_use (after_use S a) b) d (num (computed op m n))) v →
      Evaluates bodies depth (let_arith d op a b x) S v
  -- Empty: the rest, with the empty list in d
  by_empty : {depth d : ℕ} {x : Body} {S : Slots} {v : Value} →
      Evaluates bodies depth x (put S d empty) v →
      Evaluates bodies depth (let_empty d x) S v
  -- Cons: the rest, with the node of head and tail in d
  by_cons : {depth d h l : ℕ} {x : Body} {S : Slots} {head tail v : Value} →
      value_in S h ≡ Some head →
      value_in (after_use S h) l ≡ Some tail →
      Evaluates bodies depth x (put (after_use (after_use S h) l) d (node head tail)) v →
      Evaluates bodies depth (let_cons d h l x) S v
  -- Call: the rest, with the value of function f at the arguments in d; within f, calls nest one less deep
  by_call : {depth d f : ℕ} {slots : List ℕ} {arguments : List Value} {x : Body} {S T : Slots} {result v : Value} →
      Taken S slots arguments T →
      Evaluates bodies depth (body_of bodies f) (starting_slots arguments) result →
      Evaluates bodies (suc depth) x (put T d result) v →
      Evaluates bodies (suc depth) (let_call d f slots x) S v
  -- Return: what a has
  by_return : {depth a : ℕ} {S : Slots} {v : Value} →
      value_in S a ≡ Some v →
      Evaluates bodies depth (return a) S v
  -- Match: on the empty list the first body, and on a node the second, with its parts in h and l
  by_match_empty : {depth a h l : ℕ} {x y : Body} {S : Slots} {v : Value} →
      value_in S a ≡ Some empty →
      Evaluates bodies depth x (after_use S a) v →
      Evaluates bodies depth (match a h l x y) S v
  by_match_node : {depth a h l : ℕ} {x y : Body} {S : Slots} {head tail v : Value} →
      value_in S a ≡ Some (node head tail) →
      Evaluates bodies depth y (put (put (after_use S a) h head) l tail) v →
      Evaluates bodies depth (match a h l x y) S v
  -- If: on 0 the second body, and on any other number the first
  by_if_zero : {depth a : ℕ} {x y : Body} {S : Slots} {v : Value} →
      value_in S a ≡ Some (num 0) →
      Evaluates bodies depth y (after_use S a) v →
      Evaluates bodies depth (if a x y) S v
  by_if_other : {depth a n : ℕ} {x y : Body} {S : Slots} {v : Value} →
      value_in S a ≡ Some (num (suc n)) →
      Evaluates bodies depth x (after_use S a) v →
      Evaluates bodies depth (if a x y) S v

-- function f has the value v at these arguments, and calls in it nest at most `depth` deep
abbrev pub Answers : List Body → ℕ → ℕ → List Value → Value → Type 0
Answers bodies depth f arguments v = Evaluates bodies depth (body_of bodies f) (starting_slots arguments) v
