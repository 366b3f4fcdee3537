-- A run that ends has found the value of its body: one case for each kind of step. The frames beneath await it, and unwind.
use Rattle.std.proofs.Common.{◌≡◌, ℕ, zero, suc, ◌+◌, ◌<◌, leb, List, [], ◌∷◌, length, get_or, Some, Option, refl, subst, arith, leb-false}
use Rattle.records.specs.declared.kinds.Record.{Record}
use Rattle.rules.specs.Programs.{Program, no_function}
use Rattle.plain.specs.Values.{Value, num}
use Rattle.plain.specs.Slots.{Slots, value_in, after_use, put, starting_slots}
use Rattle.plain.specs.Reading.{Frame, frame, frame_limit, goes_on, handed_back, unless_zero, entered, act_at}
use Rattle.plain.specs.States.{program_of}
use Rattle.plain.specs.Bodies.{Body, let_call, return, if, Bodies, body_of}
use Rattle.plain.specs.Bodies.{Stands, const_stands, arith_stands, empty_stands, cons_stands, call_stands, return_stands, match_stands, if_stands}
use Rattle.plain.specs.Evaluation.{Taken}
use Rattle.plain.specs.Evaluation.{Evaluates, by_const, by_arith, by_empty, by_cons, by_call, by_return, by_match_empty, by_match_node, by_if_zero, by_if_other}
use Rattle.plain.specs.Functional.{nesting_limit, ARunEndsWithTheFunctionsValue}
use Rattle.plain.proofs.Bodies.{body_stands, a_sheet_has_its_bodies}
use Rattle.plain.proofs.Leading.{Leads, leads_on, run_leads, ends_with, number_found, value_found, list_found, values_found, allowed}

module _ (p : Program) {bodies : List Body} (stand : Bodies p p.functions bodies) (end : Value) where
  -- these bodies stand where the frames have come to
  data Placed : List Body → List Frame → Type 0 where
    none_placed : Placed [] []
    one_placed : {x : Body} {xs : List Body} {f : Frame} {fs : List Frame} → Stands p f.next (p.fetched f.next) x → Placed xs fs → Placed (x ∷ xs) (f ∷ fs)

  -- with u in slot w of the newest of these frames, their bodies have values, one after the other, and the last is the end
  data Unwinds : ℕ → List Body → List Frame → ℕ → Value → Type 0 where
    all_unwound : {depth w : ℕ} {u : Value} → u ≡ end → Unwinds depth [] [] w u
    one_unwound : {depth w : ℕ} {x : Body} {xs : List Body} {f : Frame} {fs : List Frame} {u v : Value} → Evaluates bodies (suc depth) x (put f.slots w u) v →
        Unwinds (suc depth) xs fs f.awaiting v → Unwinds depth (x ∷ xs) (f ∷ fs) w u

  -- the body x has a value, with which the frames beneath unwind
  data Valued (depth : ℕ) (x : Body) (S : Slots) (w : ℕ) (xs : List Body) (fs : List Frame) : Type 0 where
    valued : {u : Value} → Evaluates bodies depth x S u → Unwinds depth xs fs w u → Valued depth x S w xs fs

  -- so it is for every frame from which n steps lead to the end
  record ValueBehind (n : ℕ) : Type 0 where
    found : {o : ℕ} {r : Option Record} {x : Body} {xs : List Body} {fs : List Frame} (depth : ℕ) (S : Slots) (w : ℕ) → Stands p o r x → Placed xs fs →
        depth + suc (length fs) ≡ frame_limit → Leads p n (act_at p r (frame o S w) fs) end → Valued depth x S w xs fs

  -- and for one step less
  abbrev Behind : ℕ → Type 0
  Behind zero = Unit {0}
  Behind (suc n) = ValueBehind n

  onward : {n o : ℕ} {x : Body} {xs : List Body} {fs : List Frame} (depth : ℕ) (S : Slots) (w : ℕ) → Behind n → Stands p o (p.fetched o) x → Placed xs fs →
      depth + suc (length fs) ≡ frame_limit → Leads p n (goes_on (frame o S w ∷ fs)) end → Valued depth x S w xs fs
  onward depth S w behind x placed few (leads_on l) = behind.found depth S w x placed few l

  with_rule : {depth w : ℕ} {x y : Body} {S T : Slots} {xs : List Body} {fs : List Frame} →
      ((u : Value) → Evaluates bodies depth x S u → Evaluates bodies depth y T u) → Valued depth x S w xs fs → Valued depth y T w xs fs
  with_rule rule (valued {u = u} r more) = valued (rule u r) more

  -- the value of a called body goes to its caller, and that of a returning one to the frame beneath
  called : {depth o w d f : ℕ} {slots : List ℕ} {x : Body} {xs : List Body} {S T : Slots} {vs : List Value} {fs : List Frame} → Taken S slots vs T →
      Valued depth (body_of bodies f) (starting_slots vs) d (x ∷ xs) (frame o T w ∷ fs) → Valued (suc depth) (let_call d f slots x) S w xs fs
  called taken (valued inner (one_unwound r more)) = valued (by_call taken inner r) more

  returned : {depth w a : ℕ} {u : Value} {x : Body} {xs : List Body} {S : Slots} {f : Frame} {fs : List Frame} → value_in S a ≡ Some u →
      Valued (suc depth) x (put f.slots w u) f.awaiting xs fs → Valued depth (return a) S w (x ∷ xs) (f ∷ fs)
  returned at (valued r more) = valued (by_return at) (one_unwound r more)

  module _ {n : ℕ} (S : Slots) (w : ℕ) (behind : Behind n) where
    call_valued : {o d f : ℕ} {slots : List ℕ} {x : Body} {T : Slots} {vs : List Value} {xs : List Body} {fs : List Frame} (depth : ℕ) → Taken S slots vs T →
        f < length p.functions → Stands p o (p.fetched o) x → Placed xs fs → depth + suc (length fs) ≡ frame_limit → length fs + 1 < frame_limit →
        Leads p n (goes_on (entered (get_or p.functions f no_function) vs d ∷ frame o T w ∷ fs)) end → Valued depth (let_call d f slots x) S w xs fs
    call_valued zero taken known x placed few room l = absurd (omega arith)
    call_valued {d = d} {f = f} {vs = vs} (suc depth) taken known x placed few room l =
        called taken (onward depth (starting_slots vs) d behind (body_stands p stand f known) (one_placed x placed) (omega arith) l)

    return_valued : {a : ℕ} {u : Value} {xs : List Body} {fs : List Frame} (depth : ℕ) → value_in S a ≡ Some u → Placed xs fs →
        depth + suc (length fs) ≡ frame_limit → Leads p n (handed_back fs w u) end → Valued depth (return a) S w xs fs
    return_valued depth at none_placed few l = valued (by_return at) (all_unwound (ends_with p l))
    return_valued {u = u} depth at (one_placed {f = f} x placed) few l =
        returned at (onward (suc depth) (put f.slots w u) f.awaiting behind x placed (omega arith) l)

    if_valued : {o a second : ℕ} {x y : Body} {xs : List Body} {fs : List Frame} (depth m : ℕ) → value_in S a ≡ Some (num m) → Stands p o (p.fetched o) x →
        Stands p second (p.fetched second) y → Placed xs fs → depth + suc (length fs) ≡ frame_limit →
        Leads p n (goes_on (frame (unless_zero m o second) (after_use S a) w ∷ fs)) end → Valued depth (if a x y) S w xs fs
    if_valued {a = a} depth zero at x y placed few l = with_rule (λ u r. by_if_zero at r) (onward depth (after_use S a) w behind y placed few l)
    if_valued {a = a} depth (suc m) at x y placed few l = with_rule (λ u r. by_if_other at r) (onward depth (after_use S a) w behind x placed few l)

    -- each kind of step
    step_valued : {o : ℕ} {r : Option Record} {x : Body} {xs : List Body} {fs : List Frame} (depth : ℕ) → Stands p o r x → Placed xs fs →
        depth + suc (length fs) ≡ frame_limit → Leads p n (act_at p r (frame o S w) fs) end → Valued depth x S w xs fs
    step_valued depth (const_stands x) placed few l = with_rule (λ u r. by_const r) (onward depth _ w behind x placed few l)
    step_valued depth (arith_stands {a = a} {b = b} x) placed few l =
        let i = number_found p (value_in S a) _ l in
        let j = number_found p (value_in (after_use S a) b) _ i.2 in
        with_rule (λ u r. by_arith i.1 j.1 r) (onward depth _ w behind x placed few j.2)
    step_valued depth (empty_stands x) placed few l = with_rule (λ u r. by_empty r) (onward depth _ w behind x placed few l)
    step_valued depth (cons_stands {h = h} {l = t} x) placed few l =
        let i = value_found p (value_in S h) _ l in
        let j = value_found p (value_in (after_use S h) t) _ i.2 in
        with_rule (λ u r. by_cons i.1 j.1 r) (onward depth _ w behind x placed few j.2)
    step_valued {fs = fs} depth (call_stands known x) placed few l =
        let open_frame = allowed p (leb frame_limit (length fs + 1)) _ l in
        let given = values_found p _ S _ open_frame.1 in
        call_valued depth given.2 known x placed few (leb-false frame_limit (length fs + 1) open_frame.0) given.3
    step_valued {fs = fs} depth (return_stands {a = a}) placed few l =
        let i = value_found p (value_in S a) _ l in return_valued depth i.1 placed few i.2
    step_valued depth (match_stands {a = a} x y) placed few l =
        list_found p (value_in S a) _ _ l (λ at k. with_rule (λ u r. by_match_empty at r) (onward depth _ w behind x placed few k))
        (λ h t at k. with_rule (λ u r. by_match_node at r) (onward depth _ w behind y placed few k))
    step_valued depth (if_stands {a = a} x y) placed few l =
        let i = number_found p (value_in S a) _ l in if_valued depth i.0 i.1 x y placed few i.2

  value_behind : (n : ℕ) → ValueBehind n
  value_behind zero = record { found = λ depth S w x placed few l. step_valued S w tt depth x placed few l }
  value_behind (suc n) = record { found = λ depth S w x placed few l. step_valued S w (value_behind n) depth x placed few l }

  -- with no frame beneath, the value is the end
  last_value : {depth w : ℕ} {x : Body} {S : Slots} → Valued depth x S w [] [] → Evaluates bodies depth x S end
  last_value {depth} {x = x} {S = S} (valued r (all_unwound same)) = subst (λ v. Evaluates bodies depth x S v) same r

pub a_run_ends_with_the_functions_value : ARunEndsWithTheFunctionsValue
a_run_ends_with_the_functions_value s arguments v lawful run =
    let p = program_of s in
    let of = a_sheet_has_its_bodies s lawful in
    let stands = body_stands p of.stand 0 lawful.form.some_function in
    let x = (value_behind p of.stand v run.steps).found nesting_limit (starting_slots arguments) 0 stands none_placed refl (run_leads p run.makes run.last) in
    record { bodies = of.bodies; stand = of.stand; answers = last_value p of.stand v x }
