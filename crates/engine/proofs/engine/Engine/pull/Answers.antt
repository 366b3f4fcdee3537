use Rattle.std.proofs.Common.{◌≡◌, ℕ, true, is_some, sym, refl, ap, ◌∙◌, subst}
use Rattle.cells.specs.Cells.{without}
use Rattle.standing.specs.declared.frames.Slot.TheVariants.{ListOf}
use Rattle.standing.specs.Stepping.{slot_word, slot_type, words_in}
use Rattle.inner.specs.declared.kept.Inner.{Inner}
use Rattle.inner.specs.declared.kept.State.{State}
use Rattle.inner.specs.declared.kept.State.TheVariants.{Done}
use Rattle.inner.proofs.Pulling.{result_held, pulls_does, pull_ends_does}
use Rattle.inner.proofs.Excluded.{pull_excluded}
use Rattle.inner.proofs.States.{told_same, told_other}
use Rattle.engine.specs.Service.{cells_of, capacity_of}
use Rattle.engine.proofs.Calls.{call_made, store_kept}
use Rattle.engine.proofs.engine.Engine.pull.Goals as goal

-- what is kept, with this list as the result
abbrev with_result_of : Inner → ℕ → ℕ → Inner
with_result_of i w t = record i { result = ListOf w t }

pub taken_apart-node-requires : goal.taken_apart-node-requires
taken_apart-node-requires g c =
    let M = g.S.Meaning in
    let e = c.args.self.now in
    let some = c.if-word-eq0.false in
    record {
      ok = c.requires.in_service.ok;
      held =
          subst (λ k. is_some (cells_of M e k) ≡ true) (sym c.word-word.ensures)
          (result_held (capacity_of M e) (cells_of M e) e.inner c.requires.in_service.serving (told_same e.inner.state Done _ c.ne.ensures c.if-ne.false)
          (λ q. some (c.word-word.ensures ∙ q)));
    }

pub returns-then-ne : goal.returns-then-ne
returns-then-ne g c =
    let M = g.S.Meaning in
    let e = c.args.self.now in
    let v = c.requires.in_service in
    call_made M e e _ _ v
    (store_kept M e e _ _ v.ok refl
    (pull_excluded (capacity_of M e) (cells_of M e) e.inner v.serving.kept v.serving.fits (told_other e.inner.state Done _ c.ne.ensures c.if-ne.true)))

pub returns-then-word-eq0 : goal.returns-then-word-eq0
returns-then-word-eq0 g c =
    let M = g.S.Meaning in
    let e = c.args.self.now in
    let v = c.requires.in_service in
    call_made M e _ _ _ v
    (record {
      ok = v.ok;
      capacity = refl;
      does =
          pull_ends_does (capacity_of M e) (cells_of M e) e.inner v.serving.kept (cells_of M e) _
          (record {
            is_done = told_same e.inner.state Done _ c.ne.ensures c.if-ne.false;
            no_word = sym c.word-word.ensures ∙ c.if-word-eq0.true;
            inner = c.«open».ensures;
            cells = refl;
          });
    })

pub returns : goal.returns
returns g c =
    let M = g.S.Meaning in
    let e = c.args.self.now in
    let v = c.requires.in_service in
    let d = c.taken_apart-node.ensures in
    let gave = d.gave in
    let word = c.word-word.ensures in
    let node = d.words ∙ ap (λ k. words_in (cells_of M e k)) word in
    call_made M e _ _ _ v
    (record {
      ok = d.ok;
      capacity = gave.same_capacity;
      does =
          pulls_does (capacity_of M e) (cells_of M e) e.inner v.serving.kept c.taken_apart-node.result.element (M.cells c.taken_apart-node.new.store) _
          (record {
            is_done = told_same e.inner.state Done _ c.ne.ensures c.if-ne.false;
            some_word = λ q. c.if-word-eq0.false (word ∙ q);
            number = ap (λ w. w.element) node;
            inner =
                ap (λ t. with_result_of e.inner t c.type_number-of.result) (ap (λ w. w.tail) node) ∙
                (ap (λ t. with_result_of e.inner (words_in (cells_of M e (slot_word e.inner.result))).tail t) c.type_number-of.ensures ∙
                ap (λ (a : State). record e.inner { state = a; result = ListOf (words_in (cells_of M e (slot_word e.inner.result))).tail (slot_type e.inner.result) })
                (told_same e.inner.state Done _ c.ne.ensures c.if-ne.false));
            cells = gave.now_unheld ∙ ap (without (cells_of M e)) word;
          });
    })
