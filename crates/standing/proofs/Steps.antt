-- Every step of a funded run keeps standing: one case for each rule. Rests on the kinds of steps.
use Rattle.std.proofs.Common.{◌≡◌, ℕ, ◌+◌, List, [], ◌∷◌, map, take, Option, sym, refl, subst}
use Rattle.records.specs.declared.kinds.Record.{Record}
use Rattle.cells.specs.Cells.{Map, one_if}
use Rattle.rules.specs.Types.{Ty, ElementsLower}
use Rattle.rules.specs.Programs.{Program}
use Rattle.rules.specs.Branches.{Branch}
use Rattle.rules.specs.Contexts.{Context, Passes}
use Rattle.rules.specs.Rules.{parameters, Derives, derive_const, derive_arith, derive_empty, derive_cons, derive_call, derive_return, derive_match, derive_if}
use Rattle.plain.specs.Reading as plain
use Rattle.plain.specs.States.{program_of}
use Rattle.plain.specs.Fitting.{Filled}
use Rattle.plain.specs.Paid.{Suspended, Paid, paid}
use Rattle.plain.specs.Funded.{Funded}
use Rattle.plain.proofs.Outcomes.{fields_at}
use Rattle.plain.proofs.CallSteps.{AllCallable}
use Rattle.plain.proofs.Callable.{all_callable}
use Rattle.standing.specs.Rows.{row_values, row_occurrences}
use Rattle.standing.specs.Stepping.{effect_at, step_on_words}
use Rattle.standing.specs.Standing.{LocatedFrame, frame_words, frame_values, frames_occurrences, KeptFrames, StandsFor}
use Rattle.standing.specs.Law.{Takeable, StepsKeepStanding}
use Rattle.standing.proofs.StraightSteps.{const_stands, arith_stands, empty_stands, cons_stands, if_stands}
use Rattle.standing.proofs.ForkSteps.{match_stands}
use Rattle.standing.proofs.CallSteps.{call_stands, return_stands}

module _ (p : Program) (lower : ElementsLower p.types) (all : AllCallable p) (m : Map) (k : ℕ) (takes : Takeable m k) where
  module _ (L : LocatedFrame) (Ls : List LocatedFrame) (kept : KeptFrames p.types m (L ∷ Ls))
      (owned : (c : ℕ) → row_occurrences c L.row + frames_occurrences c Ls ≡ one_if (m c)) {A B : Ty} {r n amount waiting end : ℕ} {Γ : Context}
      (filled : Filled Γ (row_values L.row)) (suspended : Suspended p A r L.awaiting B n amount (map frame_values Ls))
      (branch : Branch p waiting L.next end) where
    derived_stands : {b : ℕ} {x : Option Record} → Derives p B n Γ b L.next x → p.fetched L.next ≡ x →
        StandsFor p.types (effect_at p x (frame_words L) (map frame_words Ls) m k) (plain.act_at p x (frame_values L) (map frame_values Ls))
    derived_stands (derive_const {d = d} {n = i} may next) at = const_stands p lower m k L Ls kept owned filled d i (fields_at branch at) may
    derived_stands (derive_arith {d = d} {op = op} {x = x} {y = y} ux uy may next) at =
        arith_stands p lower m k L Ls kept owned filled d op x y (fields_at branch at).0 ux uy may
    derived_stands (derive_empty {d = d} {t = t} is may next) at =
        empty_stands p lower m k L Ls kept owned filled d t is (fields_at branch at).1 (fields_at branch at).0 may
    derived_stands (derive_cons {d = d} {t = t} {h = h} {l = l} is uh ul may pays next) at =
        cons_stands p lower m k L Ls kept owned filled d t h l takes is (fields_at branch at).1 (fields_at branch at).0 uh ul may
    derived_stands (derive_call {Δ = Δ} {d = d} {f = f} {slots = slots} g is passes may pays next) at =
        call_stands p lower m k L Ls kept owned filled d f slots
        (subst (λ y. Passes Γ (take y.count slots) (parameters p.types y) Δ) (sym is) passes) (all f (fields_at branch at).1).few
    derived_stands (derive_return {a = a} u none left) at = return_stands p lower m k L Ls kept owned filled suspended a u none
    derived_stands (derive_match {a = a} {h = h} {l = l} {second = second} has differ bh bl first later) at =
        match_stands p lower m k L Ls kept owned filled a h l second has (fields_at branch at).1 (fields_at branch at).2 differ bh bl
    derived_stands (derive_if {a = a} {second = second} u first later) at = if_stands p lower m k L Ls kept owned filled a second u

  paid_stands : {A : Ty} {r spare purse : ℕ} (Ls : List LocatedFrame) → KeptFrames p.types m Ls → ((c : ℕ) → frames_occurrences c Ls ≡ one_if (m c)) →
      Paid p A r spare purse (map frame_values Ls) → StandsFor p.types (step_on_words p (map frame_words Ls) m k) (plain.step p (map frame_values Ls))
  paid_stands [] kept owned pays = elim pays [ ]
  paid_stands (L ∷ Ls) kept owned (paid filled continues suspended enough few) =
      derived_stands L Ls kept owned filled suspended continues.branch continues.derives refl

pub steps_keep_standing : StepsKeepStanding
steps_keep_standing s spare capacity m words values k lawful funded stands takes =
    let ts = s.tables.types in
    let p = program_of s in
    let Ls = stands.located in
    let pays = subst (λ fs. Funded s spare capacity fs) (sym stands.as_values) funded in
    let there = paid_stands p lawful.form.lower (all_callable lawful) m k takes Ls stands.kept stands.owned pays.pays in
    subst (λ W. StandsFor ts (step_on_words p W m k) (plain.step p values)) stands.as_words
    (subst (λ V. StandsFor ts (step_on_words p (map frame_words Ls) m k) (plain.step p V)) stands.as_values there)
