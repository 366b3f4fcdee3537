use Rattle.std.proofs.Common.{◌≡◌, ℕ, ◌+◌, ◌<◌, ◌≤◌, Bool, true, false, eqb, eqb-true, sym, refl, ap, ◌∙◌, subst, arith}
use borrow.Author.Tests.{eqb-false}
use Rattle.records.specs.declared.kinds.Step.TheVariants.{Const, Arith, Empty, Cons, Call, Return, Match, If}
use Rattle.rules.specs.Limits.{slot_count, parameter_limit}
use Rattle.rules.specs.Branches.{Fields, Padded}
use Rattle.plain.specs.Calls.{one_step}
use Rattle.plain.specs.Charges.{charge}
use Rattle.plain.specs.States.{program_of}
use Rattle.cells.specs.Cells.{free}
use Rattle.records.specs.Writing.{step_size}
use Rattle.standing.specs.Stepping.{slot_in, slot_type}
use Rattle.inner.specs.Meant.{sheet_of}
use Rattle.inner.specs.Kinds.{KnownFunction, KnownType, function_in, called}
use Rattle.inner.specs.Serving.{ComesTo}
use Rattle.inner.proofs.Needed.{Finds, finds}
use Rattle.inner.proofs.ByKind.{const_does, arith_does, empty_does, cons_does, call_does, match_does, if_does, deep_does, return_does}
use Rattle.engine.specs.declared.engine.Engine.{Engine}
use Rattle.engine.specs.Service.{cells_of, capacity_of, InService}
use Rattle.engine.proofs.Calls.{store_kept}
use Rattle.engine.proofs.engine.Engine.make.Given.{Over}
use Rattle.engine.proofs.engine.Engine.make.Goals as goal
use Rattle.records.specs.declared.kinds.Step.{Step as Action}

-- what the step finds that is due
found : (g : Over) (e : Engine g.row.S.Denot) (a : Action) → InService g.S.Meaning e → (due : ComesTo e.inner a) →
    Finds (capacity_of g.S.Meaning e) (cells_of g.S.Meaning e) e.inner due.sheet a
found g e a v due = finds (capacity_of g.S.Meaning e) (cells_of g.S.Meaning e) e.inner a (g.S.Meaning.numbered e.store v.ok) v.serving due

-- the ranges of its fields, by its kind
ranges : (g : Over) (e : Engine g.row.S.Denot) (a x : Action) → InService g.S.Meaning e → (due : ComesTo e.inner a) → a ≡ x →
    Fields (program_of (sheet_of due.sheet)) x
ranges g e a x v due is = subst (Fields (program_of (sheet_of due.sheet))) is (found g e a v due).fields

small_size : (a : Action) → step_size a ≤ 7
small_size (Const d n) = omega arith
small_size (Arith d op a b) = omega arith
small_size (Empty d t) = omega arith
small_size (Cons d t h l) = omega arith
small_size (Call d f slots) = omega arith
small_size (Return a) = omega arith
small_size (Match a h l second) = omega arith
small_size (If a second) = omega arith

-- what a test of the room for callers tells
room_left : (n : ℕ) (full : Bool) → full ≡ eqb n 63 → full ≡ false → n ≤ 63 → n < 63
room_left n full is left within = let other = eqb-false n 63 (sym is ∙ left) in omega arith

none_left : (n : ℕ) (full : Bool) → full ≡ eqb n 63 → full ≡ true → 63 ≤ n
none_left n full is left = let same = eqb-true n 63 (sym is ∙ left) in omega arith

pub overflow_add-next : goal.overflow_add-next
overflow_add-next g c =
    let f = found g c.args.self.now c.args.step c.requires.in_service c.requires.due in
    let p = f.place in
    let q = small_size c.args.step in
    let r = c.size.ensures in
    omega arith

pub bind-requires : goal.bind-requires
bind-requires g c = record { slot = ranges g c.args.self.now c.args.step _ c.requires.in_service c.requires.due c.in-Const.is }

pub arith-requires : goal.arith-requires
arith-requires g c =
    let f = ranges g c.args.self.now c.args.step _ c.requires.in_service c.requires.due c.in-Arith.is in
    record { slots = (f.0, f.2, f.3); operation = f.1 }

pub bind-requires-in-Empty : goal.bind-requires-in-Empty
bind-requires-in-Empty g c = record { slot = (ranges g c.args.self.now c.args.step _ c.requires.in_service c.requires.due c.in-Empty.is).0 }

pub cons-requires : goal.cons-requires
cons-requires g c =
    let f = ranges g c.args.self.now c.args.step _ c.requires.in_service c.requires.due c.in-Cons.is in
    let room = subst (λ x. charge x ≤ free (capacity_of g.S.Meaning c.args.self.now) (cells_of g.S.Meaning c.args.self.now)) c.in-Cons.is (found g c.args.self.now c.args.step c.requires.in_service c.requires.due).room in
    record { ok = c.requires.in_service.ok; slots = (f.0, f.2, f.3); room = omega arith }

pub function-callee-requires : goal.function-callee-requires
function-callee-requires g c =
    record {
      known =
          subst (λ o. KnownFunction o c.in-Call.function) (sym c.requires.due.loaded)
          (ranges g c.args.self.now c.args.step _ c.requires.in_service c.requires.due c.in-Call.is).1;
    }

pub call-requires : goal.call-requires
call-requires g c =
    let f = ranges g c.args.self.now c.args.step _ c.requires.in_service c.requires.due c.in-Call.is in
    let few = (found g c.args.self.now c.args.step c.requires.in_service c.requires.due).parameters c.in-Call.d c.in-Call.function c.in-Call.slots c.in-Call.is in
    let same = sym (c.function-callee.ensures ∙ ap (λ o. function_in o c.in-Call.function) c.requires.due.loaded) in
    record {
      few = room_left _ _ c.is_full.ensures.value c.if-is_full.false c.is_full.ensures.fits;
      parameters = subst (λ x. x.signature.count ≤ parameter_limit) same few;
      slots = subst (λ x. Padded slot_count x.signature.count c.in-Call.slots) same f.2;
    }

pub hand_back-requires : goal.hand_back-requires
hand_back-requires g c =
    record {
      slot = ranges g c.args.self.now c.args.step _ c.requires.in_service c.requires.due c.in-Return.is;
      awaiting = (found g c.args.self.now c.args.step c.requires.in_service c.requires.due).awaited;
    }

pub match_list-requires : goal.match_list-requires
match_list-requires g c =
    let f = found g c.args.self.now c.args.step c.requires.in_service c.requires.due in
    record {
      ok = c.requires.in_service.ok;
      slots = ranges g c.args.self.now c.args.step _ c.requires.in_service c.requires.due c.in-Match.is;
      apart = λ h.
          let t = f.node c.in-Match.a c.in-Match.h c.in-Match.l c.in-Match.second c.in-Match.is h in
          record {
            known = subst (λ o. KnownType o (slot_type (slot_in c.args.self.now.inner.frame.slots c.in-Match.a))) (sym c.requires.due.loaded) t.known;
            held = t.held;
          };
    }

pub branch-self-requires : goal.branch-self-requires
branch-self-requires g c = record { slot = ranges g c.args.self.now c.args.step _ c.requires.in_service c.requires.due c.in-If.is }

pub returns-in-Const : goal.returns-in-Const
returns-in-Const g c =
    let M = g.S.Meaning in
    let e = c.args.self.now in
    let v = c.requires.in_service in
    store_kept M e _ one_step _ v.ok refl
    (const_does (capacity_of M e) (cells_of M e) e.inner c.args.step c.requires.due (g.S.Meaning.numbered e.store v.ok) v.serving.kept
    (e.inner.frame.next + c.size.result) (ap (λ n. e.inner.frame.next + n) c.size.ensures) _ _ c.bind.new.self c.in-Const.is c.bind.ensures)

pub returns-in-Arith : goal.returns-in-Arith
returns-in-Arith g c =
    let M = g.S.Meaning in
    let e = c.args.self.now in
    let v = c.requires.in_service in
    store_kept M e _ one_step _ v.ok refl
    (arith_does (capacity_of M e) (cells_of M e) e.inner c.args.step c.requires.due (g.S.Meaning.numbered e.store v.ok) v.serving.kept
    (e.inner.frame.next + c.size.result) (ap (λ n. e.inner.frame.next + n) c.size.ensures) _ _ _ _ c.arith.new.self c.in-Arith.is c.arith.ensures)

pub returns-in-Empty : goal.returns-in-Empty
returns-in-Empty g c =
    let M = g.S.Meaning in
    let e = c.args.self.now in
    let v = c.requires.in_service in
    store_kept M e _ one_step _ v.ok refl
    (empty_does (capacity_of M e) (cells_of M e) e.inner c.args.step c.requires.due (g.S.Meaning.numbered e.store v.ok) v.serving.kept
    (e.inner.frame.next + c.size.result) (ap (λ n. e.inner.frame.next + n) c.size.ensures) _ _ c.bind-in-Empty.new.self c.in-Empty.is c.bind-in-Empty.ensures)

pub returns-in-If : goal.returns-in-If
returns-in-If g c =
    let M = g.S.Meaning in
    let e = c.args.self.now in
    let v = c.requires.in_service in
    store_kept M e _ one_step _ v.ok refl
    (if_does (capacity_of M e) (cells_of M e) e.inner c.args.step c.requires.due (g.S.Meaning.numbered e.store v.ok) v.serving.kept
    (e.inner.frame.next + c.size.result) (ap (λ n. e.inner.frame.next + n) c.size.ensures) _ _ c.branch-self.new.self c.in-If.is c.branch-self.ensures)

pub returns-in-Return : goal.returns-in-Return
returns-in-Return g c =
    let M = g.S.Meaning in
    let e = c.args.self.now in
    let v = c.requires.in_service in
    store_kept M e _ one_step _ v.ok refl
    (return_does (capacity_of M e) (cells_of M e) e.inner c.args.step c.requires.due (g.S.Meaning.numbered e.store v.ok) v.serving.kept
    _ c.hand_back.new.self c.in-Return.is c.hand_back.ensures)

pub returns-else-is_full : goal.returns-else-is_full
returns-else-is_full g c =
    let M = g.S.Meaning in
    let e = c.args.self.now in
    let v = c.requires.in_service in
    store_kept M e _ one_step _ v.ok refl
    (call_does (capacity_of M e) (cells_of M e) e.inner c.args.step c.requires.due (g.S.Meaning.numbered e.store v.ok) v.serving.kept
    (e.inner.frame.next + c.size.result) (ap (λ n. e.inner.frame.next + n) c.size.ensures) _ _ _ c.call.new.self c.in-Call.is (room_left _ _ c.is_full.ensures.value c.if-is_full.false c.is_full.ensures.fits)
    (c.call.ensures ∙ ap (λ x. called e.inner x c.in-Call.slots c.in-Call.d (e.inner.frame.next + c.size.result)) c.function-callee.ensures))

pub returns-then-is_full : goal.returns-then-is_full
returns-then-is_full g c =
    let M = g.S.Meaning in
    let e = c.args.self.now in
    let v = c.requires.in_service in
    store_kept M e e one_step _ v.ok refl
    (deep_does (capacity_of M e) (cells_of M e) e.inner c.args.step c.requires.due (g.S.Meaning.numbered e.store v.ok) v.serving.kept
    _ _ _ c.in-Call.is (none_left _ _ c.is_full.ensures.value c.if-is_full.true) v.serving.fits)

pub returns-in-Cons : goal.returns-in-Cons
returns-in-Cons g c =
    let M = g.S.Meaning in
    let e = c.args.self.now in
    let v = c.requires.in_service in
    let done = c.cons.ensures in
    record {
      ok = done.ok;
      capacity = done.capacity;
      does =
          cons_does (capacity_of M e) (cells_of M e) e.inner c.args.step c.requires.due (g.S.Meaning.numbered e.store v.ok) v.serving.kept
          (e.inner.frame.next + c.size.result) (ap (λ n. e.inner.frame.next + n) c.size.ensures) _ _ _ _ (cells_of M c.cons.new.self) c.cons.new.self.inner c.in-Cons.is done.consed;
    }

pub returns-in-Match : goal.returns-in-Match
returns-in-Match g c =
    let M = g.S.Meaning in
    let e = c.args.self.now in
    let v = c.requires.in_service in
    let done = c.match_list.ensures in
    record {
      ok = done.ok;
      capacity = done.capacity;
      does =
          match_does (capacity_of M e) (cells_of M e) e.inner c.args.step c.requires.due (g.S.Meaning.numbered e.store v.ok) v.serving.kept
          (e.inner.frame.next + c.size.result) (ap (λ n. e.inner.frame.next + n) c.size.ensures) _ _ _ _ (cells_of M c.match_list.new.self) c.match_list.new.self.inner c.in-Match.is done.cells done.inner;
    }
