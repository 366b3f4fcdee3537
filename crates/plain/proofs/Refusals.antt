-- A refused call alters nothing.
use Rattle.std.proofs.Common.{◌≡◌, ℕ, zero, suc, ◌+◌, Bool, true, false, eqb, ltb, leb, List, [], ◌∷◌, length, Some, None, Ok, Err, Option, Result, refl}
use Rattle.records.specs.declared.faults.Fault.{Fault}
use Rattle.rules.specs.Programs.{Tables}
use Rattle.rules.specs.Types.{type_record}
use Rattle.rules.specs.Tests.{both, is_list_type}
use Rattle.rules.specs.Verdict.{verdict}
use Rattle.rules.proofs.Truth.{impossible}
use Rattle.plain.specs.Values.{Value, num, empty, node}
use Rattle.plain.specs.Reading.{Frame, Outcome, goes_on, ends, refused, stuck, step}
use Rattle.plain.specs.Calls.{Request, load, feed, fund, one_step, advance, pull, abandon, ask_price, ask_free, ask_held, ask_state, Refusal, too_deep_after, Answer, accepted, refused_with}
use Rattle.plain.specs.States.{Sheet, program_of, Entry, State, bare, open_with, running_with, done_with, free, price_of, Served, served}
use Rattle.plain.specs.Feeding.{loaded, Fed, a_number, an_empty, a_node, fed, entry_limit, unless_refused, pushed, joined, fed_with, are_parameters, fund_from}
use Rattle.plain.specs.Running.{stepped, advance_stepped, advance_by, pull_result}
use Rattle.plain.specs.Service.{serve}
use Rattle.plain.specs.Refusals.{ARefusedCallAltersNothing}

-- what is answered with a refusal, but for that of an advance on its way, leaves the state s
record Keeps (s : State) (y : Served) : Type 0 where
  kept : (x : Refusal) → y.answer ≡ refused_with x → ((made : ℕ) → x ≡ too_deep_after made → ⊥) → y.after ≡ s

module _ (s : State) where
  unaltered : (a : Answer) → Keeps s (served a s)
  unaltered a = record { kept = λ x e early. refl }

  accepts : (t : State) → Keeps s (served accepted t)
  accepts t = record { kept = λ x e early. impossible (cc) }

  by_test : (t : Bool) (r : Refusal) (rest : Served) → Keeps s rest → Keeps s (unless_refused t r s rest)
  by_test true r rest k = k
  by_test false r rest k = unaltered (refused_with r)

  loads : (bytes : List ℕ) (v : Result Tables Fault) → Keeps s (loaded bytes v s)
  loads bytes (Ok t) = accepts _
  loads bytes (Err f) = unaltered _

pushes : (s : Sheet) (es : List Entry) (e : Entry) → Keeps (open_with s es) (pushed s es e)
pushes s es e = by_test (open_with s es) (ltb (length es) entry_limit) _ _ (accepts _ _)

joins : (capacity : ℕ) (s : Sheet) (t : ℕ) (es : List Entry) → Keeps (open_with s es) (joined capacity s t es)
joins capacity s t [] = unaltered _ _
joins capacity s t (h ∷ []) = unaltered _ _
joins capacity s t (h ∷ (l ∷ es)) =
    by_test (open_with s (h ∷ (l ∷ es))) (both (eqb h.type_number (type_record s.tables.types t).element) (eqb l.type_number t)) _ _
    (by_test (open_with s (h ∷ (l ∷ es))) (ltb 0 (free capacity (open_with s (h ∷ (l ∷ es))))) _ _ (accepts _ _))

feeds : (capacity : ℕ) (s : Sheet) (es : List Entry) (x : Option Fed) → Keeps (open_with s es) (fed_with capacity s es x)
feeds capacity s es None = unaltered _ _
feeds capacity s es (Some (a_number n)) = pushes s es _
feeds capacity s es (Some (an_empty t)) = by_test (open_with s es) (is_list_type s.tables.types t) _ _ (pushes s es _)
feeds capacity s es (Some (a_node t)) = by_test (open_with s es) (is_list_type s.tables.types t) _ _ (joins capacity s t es)

funds : (capacity : ℕ) (s : Sheet) (es : List Entry) → Keeps (open_with s es) (fund_from capacity (open_with s es))
funds capacity s es =
    by_test (open_with s es) (are_parameters s es) _ _
    (by_test (open_with s es) (leb (price_of s es) (free capacity (open_with s es))) _ _ (accepts _ _))

steps : (s : Sheet) (fs : List Frame) (o : Outcome) → Keeps (running_with s fs) (stepped s fs o)
steps s fs (goes_on gs) = record { kept = λ x e early. impossible (cc) }
steps s fs (ends v) = record { kept = λ x e early. impossible (cc) }
steps s fs refused = unaltered _ _
steps s fs stuck = unaltered _ _

-- an advance is refused on its way only
on_its_way : (s : Sheet) (n made : ℕ) (fs : List Frame) (x : Refusal) → (advance_by s n made fs).answer ≡ refused_with x → (k : ℕ) × (x ≡ too_deep_after k)
on_its_way s zero made fs x e = impossible (cc)
on_its_way s (suc n) made fs x e = go (step (program_of s) fs) (λ gs q. on_its_way s n (made + 1) gs x q) e
  where
    go : (o : Outcome) → ((gs : List Frame) → (advance_by s n (made + 1) gs).answer ≡ refused_with x → (k : ℕ) × (x ≡ too_deep_after k)) →
        (advance_stepped s made fs o (λ gs. advance_by s n (made + 1) gs)).answer ≡ refused_with x → (k : ℕ) × (x ≡ too_deep_after k)
    go (goes_on gs) then q = then gs q
    go (ends v) then q = impossible (cc)
    go refused then q = (made, cc)
    go stuck then q = impossible (cc)

advances : (s : Sheet) (n : ℕ) (fs : List Frame) → Keeps (running_with s fs) (advance_by s n 0 fs)
advances s n fs = record { kept = λ x e early. let k = on_its_way s n 0 fs x e in absurd (early k.0 k.1) }

pulls : (s : Sheet) (v : Value) → Keeps (done_with s v) (pull_result s v)
pulls s (num n) = record { kept = λ x e early. impossible (cc) }
pulls s empty = record { kept = λ x e early. impossible (cc) }
pulls s (node h l) = record { kept = λ x e early. impossible (cc) }

keeps : (capacity : ℕ) (s : State) (r : Request) → Keeps s (serve capacity s r)
keeps capacity bare (load bytes) = loads bare bytes (verdict bytes)
keeps capacity (open_with s es) (load bytes) = loads (open_with s es) bytes (verdict bytes)
keeps capacity (running_with s fs) (load bytes) = unaltered _ _
keeps capacity (done_with s v) (load bytes) = unaltered _ _
keeps capacity bare (feed bytes) = unaltered _ _
keeps capacity (open_with s es) (feed bytes) = feeds capacity s es (fed bytes)
keeps capacity (running_with s fs) (feed bytes) = unaltered _ _
keeps capacity (done_with s v) (feed bytes) = unaltered _ _
keeps capacity bare fund = unaltered _ _
keeps capacity (open_with s es) fund = funds capacity s es
keeps capacity (running_with s fs) fund = unaltered _ _
keeps capacity (done_with s v) fund = unaltered _ _
keeps capacity bare one_step = unaltered _ _
keeps capacity (open_with s es) one_step = unaltered _ _
keeps capacity (running_with s fs) one_step = steps s fs (step (program_of s) fs)
keeps capacity (done_with s v) one_step = unaltered _ _
keeps capacity bare (advance n) = unaltered _ _
keeps capacity (open_with s es) (advance n) = unaltered _ _
keeps capacity (running_with s fs) (advance n) = advances s n fs
keeps capacity (done_with s v) (advance n) = unaltered _ _
keeps capacity bare pull = unaltered _ _
keeps capacity (open_with s es) pull = unaltered _ _
keeps capacity (running_with s fs) pull = unaltered _ _
keeps capacity (done_with s v) pull = pulls s v
keeps capacity bare abandon = accepts _ _
keeps capacity (open_with s es) abandon = accepts _ _
keeps capacity (running_with s fs) abandon = accepts _ _
keeps capacity (done_with s v) abandon = accepts _ _
keeps capacity s ask_price = unaltered _ _
keeps capacity s ask_free = unaltered _ _
keeps capacity s ask_held = unaltered _ _
keeps capacity s ask_state = unaltered _ _

pub a_refused_call_alters_nothing : ARefusedCallAltersNothing
a_refused_call_alters_nothing capacity s r x e early = (keeps capacity s r).kept x e early
