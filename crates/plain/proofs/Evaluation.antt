-- A body has one value, and it has it too where calls may nest deeper.
use Rattle.std.proofs.Common.{◌≡◌, ℕ, zero, suc, ◌≤◌, List, refl, subst, arith}
use Rattle.rules.proofs.Truth.{impossible}
use Rattle.plain.specs.Values.{Value}
use Rattle.plain.specs.Slots.{Slots}
use Rattle.plain.specs.Bodies.{Body}
use Rattle.plain.specs.Evaluation.{Taken, none_taken, one_taken}
use Rattle.plain.specs.Evaluation.{Evaluates, by_const, by_arith, by_empty, by_cons, by_call, by_return, by_match_empty, by_match_node, by_if_zero, by_if_other}
use Rattle.plain.specs.Evaluation.{Answers}
use Rattle.plain.specs.Functional.{AFunctionHasOneValue}
use Rattle.plain.proofs.Bodies.{bodies_once}

-- the same slots have the same values, and leave the same
taken_once : {S T U V : Slots} {is : List ℕ} {us vs : List Value} → Taken S is us U → S ≡ T → Taken T is vs V → (us ≡ vs) × (U ≡ V)
taken_once none_taken same none_taken = (refl, same)
taken_once (one_taken {v = u} at more) same (one_taken {v = v} also rest) =
    let value : u ≡ v = cc in
    let others = taken_once more (cc) rest in
    let values = others.0 in
    (cc, others.1)

module _ (bodies : List Body) where
  pub value_once : {depth other : ℕ} {x : Body} {S T : Slots} {u v : Value} → Evaluates bodies depth x S u → S ≡ T → Evaluates bodies other x T v → u ≡ v
  value_once (by_const r) same (by_const q) = value_once r (cc) q
  value_once (by_arith {m = m} {n = n} a b r) same (by_arith {m = i} {n = j} c d q) =
      let first : m ≡ i = cc in
      let second : n ≡ j = cc in
      value_once r (cc) q
  value_once (by_empty r) same (by_empty q) = value_once r (cc) q
  value_once (by_cons {head = h} {tail = t} a b r) same (by_cons {head = i} {tail = j} c d q) =
      let first : h ≡ i = cc in
      let second : t ≡ j = cc in
      value_once r (cc) q
  value_once (by_call {arguments = us} a inner r) same (by_call {arguments = vs} b within q) =
      let taken = taken_once a same b in
      let values = taken.0 in
      let left = taken.1 in
      let results = value_once inner (cc) within in
      value_once r (cc) q
  value_once (by_return a) same (by_return b) = cc
  value_once (by_match_empty a r) same (by_match_empty b q) = value_once r (cc) q
  value_once (by_match_empty a r) same (by_match_node b q) = impossible (cc)
  value_once (by_match_node a r) same (by_match_empty b q) = impossible (cc)
  value_once (by_match_node {head = h} {tail = t} a r) same (by_match_node {head = i} {tail = j} b q) =
      let first : h ≡ i = cc in
      let second : t ≡ j = cc in
      value_once r (cc) q
  value_once (by_if_zero a r) same (by_if_zero b q) = value_once r (cc) q
  value_once (by_if_zero a r) same (by_if_other b q) = impossible (cc)
  value_once (by_if_other a r) same (by_if_zero b q) = impossible (cc)
  value_once (by_if_other a r) same (by_if_other b q) = value_once r (cc) q

  value_deeper : {depth : ℕ} {x : Body} {S : Slots} {v : Value} → Evaluates bodies depth x S v → (more : ℕ) → depth ≤ more → Evaluates bodies more x S v
  value_deeper (by_const r) more h = by_const (value_deeper r more h)
  value_deeper (by_arith a b r) more h = by_arith a b (value_deeper r more h)
  value_deeper (by_empty r) more h = by_empty (value_deeper r more h)
  value_deeper (by_cons a b r) more h = by_cons a b (value_deeper r more h)
  value_deeper (by_call a inner r) zero h = absurd (omega arith)
  value_deeper (by_call a inner r) (suc more) h = by_call a (value_deeper inner more (omega arith)) (value_deeper r (suc more) h)
  value_deeper (by_return a) more h = by_return a
  value_deeper (by_match_empty a r) more h = by_match_empty a (value_deeper r more h)
  value_deeper (by_match_node a r) more h = by_match_node a (value_deeper r more h)
  value_deeper (by_if_zero a r) more h = by_if_zero a (value_deeper r more h)
  value_deeper (by_if_other a r) more h = by_if_other a (value_deeper r more h)

pub a_function_has_one_value : AFunctionHasOneValue
a_function_has_one_value = (
  λ s depth other f arguments u v x y.
      let same = bodies_once _ y.stand x.stand in
      value_once x.bodies x.answers refl (subst (λ bodies. Answers bodies other f arguments v) same y.answers),
  λ s depth more f arguments v h x. record { bodies = x.bodies; stand = x.stand; answers = value_deeper x.bodies x.answers more h },
)
