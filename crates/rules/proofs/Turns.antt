-- What the loops of the third round carry from turn to turn, and how each turn keeps it. A balance is at most 65,536 for each
-- byte passed, since every step has a byte and gains no more than that: so it never reaches the limit of its type.
use Rattle.std.proofs.Common.{◌≡◌, ℕ, suc, ◌+◌, ◌-◌, ◌*◌, ◌<◌, ◌≤◌, cond, List, [], ◌∷◌, length, drop, Ok, Result, sym, ap, ◌∙◌, subst, arith, eq-eqb, ne_eqb}
use Rattle.records.specs.declared.faults.Cause.{Cause}
use Rattle.records.specs.declared.faults.Cause.TheVariants.{WrongSecond}
use Rattle.records.specs.declared.kinds.Signature.{Signature}
use Rattle.records.specs.declared.kinds.Step.{Step as Action}
use Rattle.records.specs.declared.kinds.Record.TheVariants.{Step}
use Rattle.records.specs.Writing.{step_size}
use Rattle.records.specs.Rows.{row}
use Rattle.records.proofs.Positive.{step_size_positive}
use Rattle.records.proofs.Rows.{Taken}
use Rattle.rules.specs.declared.accounts.Account.{Account}
use Rattle.rules.specs.declared.accounts.Waiting.{Waiting}
use Rattle.rules.specs.declared.findings.Finding.{Finding}
use Rattle.rules.specs.declared.findings.Finding.TheVariants.{Onward, Forks, Ends}
use Rattle.rules.specs.Limits.{waiting_limit}
use Rattle.rules.specs.Types.{ElementsLower}
use Rattle.rules.specs.Programs.{Tables}
use Rattle.rules.specs.Findings.{finding}
use Rattle.rules.specs.SecondRound.{fault}
use Rattle.rules.specs.ThirdRound.{Answer, between, within, waits, branch_ended, passed, bodies_pass}
use Rattle.rules.proofs.Ruled.{rule_breaks, rule_onward, rule_forks, rule_ends}
use Rattle.rules.proofs.Found.{Found, found_broken, found, found_of}

-- a fork finds room
room_found : (t : Tables) (g : Signature) (lower : ElementsLower t.types) (waiting : ℕ) (c : Account) (s : Action) (v : Result Finding Cause) (first later : Account) (second : ℕ) →
    Found [] t g lower waiting c 0 s v → v ≡ Ok (Forks first second later) → waiting < waiting_limit
room_found t g lower waiting c s v first later second (found_broken never) e = cc
room_found t g lower waiting c s v first later second (found room fields (rule_breaks never)) e = cc
room_found t g lower waiting c s v first later second (found room fields (rule_onward straight make unmake)) e = cc
room_found t g lower waiting c s v first later second (found room fields (rule_forks {second = n} forking make unmake)) e = room n forking
room_found t g lower waiting c s v first later second (found room fields (rule_ends ending r)) e = cc

pub fork_has_room : (t : Tables) → ElementsLower t.types → (g : Signature) (waiting : ℕ) (c : Account) (s : Action) (first later : Account) (second : ℕ) →
    Ok (Forks first second later) ≡ finding t g waiting c s → waiting < waiting_limit
fork_has_room t lower g waiting c s first later second e =
    room_found t g lower waiting c s (finding t g waiting c s) first later second (found_of [] t g lower waiting c 0 s) (sym e)

-- no branch that waits has a balance above this
abbrev pub BalancesWithin : ℕ → List Waiting → Type 0
BalancesWithin b [] = Unit {0}
BalancesWithin b (w ∷ ws) = (w.account.balance ≤ b) × BalancesWithin b ws

within_more : (a b : ℕ) (ws : List Waiting) → a ≤ b → BalancesWithin a ws → BalancesWithin b ws
within_more a b [] h k = tt
within_more a b (w ∷ ws) h k = (omega (arith, k.0), within_more a b ws h k.1)

-- In a body of g, with the reader at `at`: the verdict from here on is the verdict on the whole sheet.
pub record Carried (t : Tables) (bytes lent : List ℕ) (from at : ℕ) (g : Signature) (c : Account) (ws : List Waiting) (count : ℕ) : Type 0 where
  pub same_bytes : lent ≡ bytes
  pub onward : from ≤ at
  pub size : length ws ≡ count
  pub few : count ≤ waiting_limit
  pub balance : c.balance ≤ 65536 * at
  pub balances : BalancesWithin (65536 * at) ws
  pub verdict : bodies_pass t (row (drop at bytes) at) (within g c ws) ≡ bodies_pass t (row bytes 0) between

pub since : {t : Tables} {bytes lent : List ℕ} {from at : ℕ} {g : Signature} {c : Account} {ws : List Waiting} {count : ℕ} (earlier : ℕ) →
    earlier ≤ from → Carried t bytes lent from at g c ws count → Carried t bytes lent earlier at g c ws count
since earlier h k =
    let o = k.onward in
    record { same_bytes = k.same_bytes; onward = omega arith; size = k.size; few = k.few; balance = k.balance; balances = k.balances; verdict = k.verdict }

-- the step s has been read at `at`, and the reader is at `to`
module _ {t : Tables} {bytes before lent : List ℕ} {from at to : ℕ} {g : Signature} {c : Account} {ws : List Waiting} {count : ℕ} {s : Action}
    (k : Carried t bytes before from at g c ws count) (q : Taken bytes at (Step s) lent to) where
  stepped : (v : Result Finding Cause) → v ≡ finding t g count c s →
      passed v g at (at + step_size s) ws (λ stage. bodies_pass t (row (drop to bytes) to) stage) ≡ bodies_pass t (row bytes 0) between
  stepped v e =
      ap (λ x. passed x g at (at + step_size s) ws (λ stage. bodies_pass t (row (drop to bytes) to) stage)) (e ∙ ap (λ n. finding t g n c s) (sym k.size))
      ∙ sym (ap (λ r. bodies_pass t r (within g c ws)) q.opens) ∙ k.verdict

  pub turn_onward : (d : Account) → Ok (Onward d) ≡ finding t g count c s → d.balance ≤ c.balance + 65536 → Carried t bytes lent from to g d ws count
  turn_onward d e grown =
      let m = q.moves in
      let p = step_size_positive s in
      let b = k.balance in
      let o = k.onward in
      record {
        same_bytes = q.keeps;
        onward = omega arith;
        size = k.size;
        few = k.few;
        balance = omega arith;
        balances = within_more (65536 * at) (65536 * to) ws (omega arith) k.balances;
        verdict = stepped (Ok (Onward d)) e;
      }

  pub turn_forks : (first later : Account) (second : ℕ) → Ok (Forks first second later) ≡ finding t g count c s →
      (first.balance ≤ c.balance + 65536) × (later.balance ≤ c.balance + 65536) → ElementsLower t.types → (more : List Waiting) (n : ℕ) →
      n ≡ count + 1 → more ≡ waits at second later ∷ ws → Carried t bytes lent from to g first more n
  turn_forks first later second e grown lower more n en es =
      let room = fork_has_room t lower g count c s first later second e in
      let m = q.moves in
      let p = step_size_positive s in
      let b = k.balance in
      let o = k.onward in
      let g₀ = grown.0 in
      let g₁ = grown.1 in
      let z = k.size in
      let l : length more ≡ suc (length ws) = ap length es in
      let low : BalancesWithin (65536 * to) (waits at second later ∷ ws) = (omega arith, within_more (65536 * at) (65536 * to) ws (omega arith) k.balances) in
      record {
        same_bytes = q.keeps;
        onward = omega arith;
        size = omega arith;
        few = omega arith;
        balance = omega arith;
        balances = subst (λ us. BalancesWithin (65536 * to) us) (sym es) low;
        verdict = ap (λ us. bodies_pass t (row (drop to bytes) to) (within g first us)) es ∙ stepped (Ok (Forks first second later)) e;
      }

  ended : Ok Ends ≡ finding t g count c s → branch_ended g ws to (λ stage. bodies_pass t (row (drop to bytes) to) stage) ≡ bodies_pass t (row bytes 0) between
  ended e = ap (λ x. branch_ended g ws x (λ stage. bodies_pass t (row (drop to bytes) to) stage)) q.moves ∙ stepped (Ok Ends) e

  -- the branch has ended, and none waits
  pub turn_last : Ok Ends ≡ finding t g count c s → ws ≡ [] → bodies_pass t (row (drop to bytes) to) between ≡ bodies_pass t (row bytes 0) between
  turn_last e n = sym (ap (λ us. branch_ended g us to (λ stage. bodies_pass t (row (drop to bytes) to) stage)) n) ∙ ended e

  -- the branch has ended, and w waits
  module _ (w : Waiting) (us : List Waiting) (n : ws ≡ w ∷ us) where
    second_test : Ok Ends ≡ finding t g count c s → branch_ended g (w ∷ us) to (λ stage. bodies_pass t (row (drop to bytes) to) stage) ≡ bodies_pass t (row bytes 0) between
    second_test e = sym (ap (λ vs. branch_ended g vs to (λ stage. bodies_pass t (row (drop to bytes) to) stage)) n) ∙ ended e

    pub turn_wrong : Ok Ends ≡ finding t g count c s → (w.second ≡ to → ⊥) → ◌≡◌ {A = Answer} (fault WrongSecond w.place) (bodies_pass t (row bytes 0) between)
    turn_wrong e differ =
        ap (λ b. cond b (bodies_pass t (row (drop to bytes) to) (within g w.account us)) (fault WrongSecond w.place)) (sym (ne_eqb w.second to differ)) ∙ second_test e

    pub turn_second : Ok Ends ≡ finding t g count c s → w.second ≡ to → (m : ℕ) → m ≡ count - 1 → Carried t bytes lent from to g w.account us m
    turn_second e same m em =
        let mv = q.moves in
        let p = step_size_positive s in
        let o = k.onward in
        let z = k.size in
        let f = k.few in
        let l : length ws ≡ suc (length us) = ap length n in
        let low : BalancesWithin (65536 * at) (w ∷ us) = subst (λ vs. BalancesWithin (65536 * at) vs) n k.balances in
        let b : w.account.balance ≤ 65536 * at = low.0 in
        record {
          same_bytes = q.keeps;
          onward = omega arith;
          size = omega arith;
          few = omega arith;
          balance = omega arith;
          balances = within_more (65536 * at) (65536 * to) us (omega arith) low.1;
          verdict =
              ap (λ x. cond x (bodies_pass t (row (drop to bytes) to) (within g w.account us)) (fault WrongSecond w.place)) (sym (eq-eqb w.second to same)) ∙ second_test e;
        }
