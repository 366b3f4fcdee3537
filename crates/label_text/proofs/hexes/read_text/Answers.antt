use Rattle.std.proofs.Common.{◌≡◌, ℕ, ◌+◌, List, get_or, drop, vec_items, Ok, sym, ap, ◌∙◌, subst, arith}
use Rattle.label_text.specs.declared.hexes.Spot.{Spot}
use Rattle.label_text.specs.Hexes.{reading, behind}
use Rattle.label_text.specs.Parsed.{Low, LeadsLow}
use Rattle.label_text.proofs.Readings.{goes_on, gives_byte, behind_small, read_as}
use Rattle.label_text.proofs.hexes.read_text.Goals as goal
use Rattle.label_text.proofs.hexes.read_text.Goals.{in-Goes, in-Gives+in_ok-push-in-Gives}

pub loop-c-preserved : goal.loop-c-preserved
loop-c-preserved c =
    let text : List ℕ = c.args.text.now in
    let i : ℕ = c.loop-c.c-index in
    let inv = c.loop-c.invariant in
    let passed : c.pass.new.self ≡ behind c.loop-c.spot (get_or text i 0) = c.pass.ensures in
    let small = behind_small c.loop-c.spot (get_or text i 0) (i + 1) inv.1 inv.2 in
    let lines = ap (λ (s : Spot). s.line) passed in
    let columns = ap (λ (s : Spot). s.column) passed in
    elim c.match-turn-2.branch [
      | in-Goes w ↦
          let goes = c.in-Ok.is ∙ ap (λ t. Ok t) w.in-Goes.is in (
            subst Low (sym w.mode-is) (subst LeadsLow goes c.turn.ensures.low),
            omega arith,
            omega arith,
            read_as (drop (i + 1) text) (reading text) (ap vec_items w.bytes-is) w.mode-is passed
                (goes_on text (vec_items c.loop-c.bytes) c.loop-c.mode c.loop-c.spot i (reading text) c.loop-c-test.true inv.3 w.in-Goes.next (sym goes ∙ c.turn.ensures.value)),
          )
      | in-Gives+in_ok-push-in-Gives w ↦
          let gives = c.in-Ok.is ∙ ap (λ t. Ok t) w.in-Gives.is in (
            subst Low (sym w.mode-is) tt,
            omega arith,
            omega arith,
            read_as (drop (i + 1) text) (reading text) (ap vec_items w.bytes-is ∙ w.in_ok-push-in-Gives.ensures.items) w.mode-is passed
                (gives_byte text (vec_items c.loop-c.bytes) c.loop-c.mode c.loop-c.spot i (reading text) c.loop-c-test.true inv.3 w.in-Gives.byte (sym gives ∙ c.turn.ensures.value)),
          )
    ]
