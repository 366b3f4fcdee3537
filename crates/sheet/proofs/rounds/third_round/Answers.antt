use Rattle.std.proofs.Common.{◌≡◌, ◌∷◌, Some, Ok, length, reverse, sym, ap, ◌∙◌, arith, rules}
use Rattle.records.proofs.Rows.{taken}
use Rattle.rules.specs.declared.findings.Finding.TheVariants.{Onward, Forks}
use Rattle.rules.specs.Findings.{finding}
use Rattle.rules.specs.ThirdRound.{waits}
use Rattle.rules.proofs.Turns.{since, fork_has_room, turn_onward, turn_forks, turn_last, turn_wrong, turn_second}
use Rattle.sheet.specs.Held.{tables_of}
use Rattle.sheet.proofs.Balances.{finding_grown}
use Rattle.sheet.proofs.Stacks.{newest, none_left}
use Rattle.sheet.proofs.rounds.third_round.Goals as goal

pub records-preserved-in-Onward : goal.records-preserved-in-Onward
records-preserved-in-Onward c =
    let n = c.in_ok-step.ensures in
    let k = c.records.invariant in
    let q = taken k.same_bytes n.answer n.moves n.keeps c.next-in-records.new.self.inside (c.in-Some-Step.is ∙ ap Some c.in-Some-Step.field-0-is) in
    let t = c.args.tables.now in
    let g = c.in-Function.function in
    let waiting = length c.records.stack.items in
    let a = c.records.account in
    let s = c.in-Some-Step.step in
    let v = Onward c.in-Onward.changed in
    let e : Ok v ≡ finding (tables_of t) g waiting a s = search rules in
    turn_onward k q c.in-Onward.changed e (finding_grown (tables_of t) t.small_amounts t.small_remainders g waiting a s v e)

pub push-requires : goal.push-requires
push-requires c = (
  omega arith,
  fork_has_room (tables_of c.args.tables.now) c.args.tables.now.lower c.in-Function.function (length c.records.stack.items) c.records.account
      c.in-Some-Step.step c.in-Forks.first c.in-Forks.later c.in-Forks.second (search rules),
)

pub records-preserved : goal.records-preserved
records-preserved c =
    let n = c.in_ok-step.ensures in
    let k = c.records.invariant in
    let q = taken k.same_bytes n.answer n.moves n.keeps c.next-in-records.new.self.inside (c.in-Some-Step.is ∙ ap Some c.in-Some-Step.field-0-is) in
    let t = c.args.tables.now in
    let g = c.in-Function.function in
    let waiting = length c.records.stack.items in
    let a = c.records.account in
    let s = c.in-Some-Step.step in
    let f = c.in-Forks in
    let v = Forks f.first f.second f.later in
    let e : Ok v ≡ finding (tables_of t) g waiting a s = search rules in
    turn_forks k q f.first f.later f.second e (finding_grown (tables_of t) t.small_amounts t.small_remainders g waiting a s v e) t.lower
    (reverse c.push.new.self.items) (length c.push.new.self.items) c.push.ensures.len
    (newest c.push.new.self.items c.records.stack.items _ c.push.ensures.items ∙ ap (λ p. waits p c.in-Forks.second c.in-Forks.later ∷ reverse c.records.stack.items) c.place-place.ensures)

pub bodies-preserved : goal.bodies-preserved
bodies-preserved c =
    let n = c.in_ok-step.ensures in
    let k = c.records.invariant in
    let q = taken k.same_bytes n.answer n.moves n.keeps c.next-in-records.new.self.inside (c.in-Some-Step.is ∙ ap Some c.in-Some-Step.field-0-is) in
    (q.keeps, turn_last k q (search rules) (none_left c.records.stack.items (λ h. let e = c.in_default-pop.ensures.variant.1 h in cc)))

pub returns-then-waiting-here : goal.returns-then-waiting-here
returns-then-waiting-here c =
    let n = c.in_ok-step.ensures in
    let k = c.records.invariant in
    let q = taken k.same_bytes n.answer n.moves n.keeps c.next-in-records.new.self.inside (c.in-Some-Step.is ∙ ap Some c.in-Some-Step.field-0-is) in
    turn_wrong k q c.in-Some-pop.waiting (reverse c.pop.new.self.items) (newest c.records.stack.items c.pop.new.self.items c.in-Some-pop.waiting c.in-Some-pop.ensures.items) (search rules)
    (λ e. c.if-waiting-here.true (e ∙ sym c.place-here.ensures))

pub branches-preserved : goal.branches-preserved
branches-preserved c =
    let n = c.in_ok-step.ensures in
    let k = c.records.invariant in
    let q = taken k.same_bytes n.answer n.moves n.keeps c.next-in-records.new.self.inside (c.in-Some-Step.is ∙ ap Some c.in-Some-Step.field-0-is) in
    let m = turn_second k q c.in-Some-pop.waiting (reverse c.pop.new.self.items) (newest c.records.stack.items c.pop.new.self.items c.in-Some-pop.waiting c.in-Some-pop.ensures.items) (search rules)
    (c.if-waiting-here.false ∙ c.place-here.ensures) (length c.pop.new.self.items) (omega (arith, c.in-Some-pop.ensures.len)) in
    since c.next.new.self.at c.branches.invariant.onward m
