-- Every call keeps standing: one case for each call and each moment. Rests on the calls on words.
use Rattle.std.proofs.Common.{◌≡◌, ℕ, ◌+◌, ◌-◌, ◌≤◌, List, [], map, Ok, Err, Result, sym, refl, ap, ◌∙◌, subst, arith}
use Rattle.records.specs.declared.faults.Fault.{Fault}
use Rattle.cells.specs.Cells.{Map, Numbered, empty, one_if, count}
use Rattle.rules.specs.Programs.{Tables}
use Rattle.rules.specs.Verdict.{verdict}
use Rattle.rules.proofs.Holds.{check_accepts_what_the_rules_derive}
use Rattle.plain.specs.Calls.{load, feed, fund, one_step, advance, pull, abandon, ask_price, ask_free, ask_held, ask_state, excluded, advance_excluded, bad_sheet, counted, in_phase}
use Rattle.plain.specs.States as plain
use Rattle.plain.specs.Feeding as feeding
use Rattle.plain.specs.Running as running
use Rattle.plain.specs.Service.{serve}
use Rattle.standing.specs.Inputs.{entry_words, no_entries}
use Rattle.standing.specs.Moments.{Moment, bare, open_with, phase, Stands, bare_stands, open_stands, run_stands, done_stands, Sound, sound_bare, sound_open, sound_running, sound_done}
use Rattle.standing.specs.Serving.{Done, loaded, load_on_words, feed_on_words, fund_on_words, one_step_on_words, pull_on_words, abandon_on_words, fed_on_words, brought, price}
use Rattle.standing.specs.Law.{Takeable}
use Rattle.standing.specs.Calls.{MayDo, Serves, HeldAreTheLiveNodes, CallsKeepStanding}
use Rattle.standing.proofs.Counting.{held_are_the_nodes_of_a_run, held_are_the_nodes_of_a_result, sum_none, held_as_summed}
use Rattle.standing.proofs.Entries.{held_are_the_entries, brought_is}
use Rattle.standing.proofs.Tests.{refuses}
use Rattle.standing.proofs.Feeds.{feed_serves}
use Rattle.standing.proofs.Funds.{fund_serves}
use Rattle.standing.proofs.Pulls.{pull_serves}
use Rattle.standing.proofs.Advances.{step_serves, advance_serves}

pub held_are_the_live_nodes : HeldAreTheLiveNodes
held_are_the_live_nodes m w s numbered (bare_stands none) =
    held_as_summed m (λ c. 0) (λ c. sym (ap one_if (none c))) ∙ sum_none 65536
held_are_the_live_nodes m w s numbered (open_stands x) = held_are_the_entries numbered x.kept x.owned ∙ ap plain.entries_nodes x.as_entries
held_are_the_live_nodes m w s numbered (run_stands {s = sh} {words = ws} {values = vs} x) = held_are_the_nodes_of_a_run sh.tables.types m ws vs numbered x
held_are_the_live_nodes m w s numbered (done_stands {s = sh} {words = ws} {v = v} x) = held_are_the_nodes_of_a_result sh.tables.types m ws v numbered x

-- no cell is held, and the input stack is empty
open_empty : (s : plain.Sheet) → Stands empty (open_with s []) (plain.open_with s [])
open_empty s = open_stands (record { located = []; as_words = refl; as_entries = refl; kept = no_entries; owned = λ c. refl; few = omega arith })

load_serves : (capacity : ℕ) (m : Map) (w : Moment) (s : plain.State) (bytes : List ℕ) (v : Result Tables Fault) → verdict bytes ≡ v → Stands m w s → Sound capacity s →
    Serves capacity (loaded bytes v w m) (feeding.loaded bytes v s)
load_serves capacity m w s bytes (Ok t) e stands sound =
    record { answers = refl; stands = open_empty (record { bytes = bytes; tables = t }); sound = sound_open ((check_accepts_what_the_rules_derive bytes t).0 e) }
load_serves capacity m w s bytes (Err f) e stands sound = refuses (bad_sheet f) stands sound

-- what the calls do that are made in the moment w
module _ (capacity : ℕ) (m : Map) (numbered : Numbered m) (within : count m ≤ capacity) where
  loads : (w : Moment) (s : plain.State) (bytes : List ℕ) → Stands m w s → Sound capacity s → Serves capacity (load_on_words w m bytes) (feeding.load_from s bytes)
  loads w s bytes (bare_stands none) sound = load_serves capacity m bare plain.bare bytes (verdict bytes) refl (bare_stands none) sound
  loads w s bytes (open_stands {s = sh} {words = ws} {entries = es} x) sound =
      load_serves capacity m (open_with sh ws) (plain.open_with sh es) bytes (verdict bytes) refl (open_stands x) sound
  loads w s bytes (run_stands x) sound = refuses excluded (run_stands x) sound
  loads w s bytes (done_stands x) sound = refuses excluded (done_stands x) sound

  feeds : (w : Moment) (s : plain.State) (k : ℕ) (record_bytes : List ℕ) → Takeable m k → Stands m w s → Sound capacity s →
      Serves capacity (feed_on_words capacity w m k record_bytes) (feeding.feed_from capacity s record_bytes)
  feeds w s k record_bytes takes (bare_stands none) sound = refuses excluded (bare_stands none) sound
  feeds w s k record_bytes takes (open_stands {s = sh} {words = ws} {entries = es} x) (sound_open lawful) =
      let f = feeding.fed record_bytes in
      subst (λ y. Serves capacity (fed_on_words capacity sh y m k f) (feeding.fed_with capacity sh es f)) x.as_words
      (subst (λ y. Serves capacity (fed_on_words capacity sh (map (entry_words sh.tables.types) x.located) m k f) (feeding.fed_with capacity sh y f)) x.as_entries
      (feed_serves capacity sh lawful m k numbered takes x.located x.kept x.owned x.few f))
  feeds w s k record_bytes takes (run_stands x) sound = refuses excluded (run_stands x) sound
  feeds w s k record_bytes takes (done_stands x) sound = refuses excluded (done_stands x) sound

  funds : (w : Moment) (s : plain.State) → Stands m w s → Sound capacity s → Serves capacity (fund_on_words capacity w m) (feeding.fund_from capacity s)
  funds w s (bare_stands none) sound = refuses excluded (bare_stands none) sound
  funds w s (open_stands {s = sh} {words = ws} {entries = es} x) (sound_open lawful) =
      subst (λ y. Serves capacity (fund_on_words capacity (open_with sh y) m) (feeding.fund_from capacity (plain.open_with sh es))) x.as_words
      (subst (λ y. Serves capacity (fund_on_words capacity (open_with sh (map (entry_words sh.tables.types) x.located)) m) (feeding.fund_from capacity (plain.open_with sh y))) x.as_entries
      (fund_serves sh m x.located x.kept x.owned x.few capacity lawful numbered within))
  funds w s (run_stands x) sound = refuses excluded (run_stands x) sound
  funds w s (done_stands x) sound = refuses excluded (done_stands x) sound

  steps : (w : Moment) (s : plain.State) (k : ℕ) → Takeable m k → Stands m w s → Sound capacity s → Serves capacity (one_step_on_words w m k) (running.step_from s)
  steps w s k takes (bare_stands none) sound = refuses excluded (bare_stands none) sound
  steps w s k takes (open_stands x) sound = refuses excluded (open_stands x) sound
  steps w s k takes (run_stands {s = sh} {words = ws} {values = vs} x) (sound_running spare lawful funded) = step_serves capacity sh lawful spare m ws vs k funded x takes
  steps w s k takes (done_stands x) sound = refuses excluded (done_stands x) sound

  advances : (w : Moment) (s : plain.State) (n : ℕ) (d : Done) → MayDo capacity w m (advance n) d → Stands m w s → Sound capacity s → Serves capacity d (running.advance_from s n)
  advances w s n d e (bare_stands none) sound =
      subst (λ y. Serves capacity y (plain.refuse advance_excluded plain.bare)) (sym e) (refuses advance_excluded (bare_stands none) sound)
  advances w s n d e (open_stands {s = sh} {entries = es} x) sound =
      subst (λ y. Serves capacity y (plain.refuse advance_excluded (plain.open_with sh es))) (sym e) (refuses advance_excluded (open_stands x) sound)
  advances w s n d e (run_stands {s = sh} {values = vs} x) (sound_running spare lawful funded) = advance_serves capacity sh lawful spare vs e funded x
  advances w s n d e (done_stands {s = sh} {v = v} x) sound =
      subst (λ y. Serves capacity y (plain.refuse advance_excluded (plain.done_with sh v))) (sym e) (refuses advance_excluded (done_stands x) sound)

  pulls : (w : Moment) (s : plain.State) → Stands m w s → Sound capacity s → Serves capacity (pull_on_words w m) (running.pull_from s)
  pulls w s (bare_stands none) sound = refuses excluded (bare_stands none) sound
  pulls w s (open_stands x) sound = refuses excluded (open_stands x) sound
  pulls w s (run_stands x) sound = refuses excluded (run_stands x) sound
  pulls w s (done_stands {s = sh} {words = ws} {v = v} x) (sound_done lawful listed) = pull_serves capacity sh lawful m ws v x listed

  abandons : (w : Moment) (s : plain.State) → Stands m w s → Sound capacity s → Serves capacity (abandon_on_words w) (running.abandon_from s)
  abandons w s (bare_stands none) sound = record { answers = refl; stands = bare_stands (λ c. refl); sound = sound_bare }
  abandons w s (open_stands {s = sh} x) (sound_open lawful) = record { answers = refl; stands = open_empty sh; sound = sound_open lawful }
  abandons w s (run_stands {s = sh} x) (sound_running spare lawful funded) = record { answers = refl; stands = open_empty sh; sound = sound_open lawful }
  abandons w s (done_stands {s = sh} x) (sound_done lawful listed) = record { answers = refl; stands = open_empty sh; sound = sound_open lawful }

  same_price : (w : Moment) (s : plain.State) → Stands m w s → price w ≡ plain.price s
  same_price w s (bare_stands none) = refl
  same_price w s (open_stands {s = sh} x) =
      ap (λ n. (plain.main_function sh).signature.entry + n)
      (ap brought (sym x.as_words) ∙ (brought_is sh.tables.types x.located ∙ ap (plain.entries_potential sh.tables.types) x.as_entries))
  same_price w s (run_stands x) = refl
  same_price w s (done_stands x) = refl

  same_phase : (w : Moment) (s : plain.State) → Stands m w s → phase w ≡ plain.phase s
  same_phase w s (bare_stands none) = refl
  same_phase w s (open_stands x) = refl
  same_phase w s (run_stands x) = refl
  same_phase w s (done_stands x) = refl

pub calls_keep_standing : CallsKeepStanding
calls_keep_standing capacity m w s (load bytes) d numbered within stands sound e =
    subst (λ y. Serves capacity y (feeding.load_from s bytes)) (sym e) (loads capacity m numbered within w s bytes stands sound)
calls_keep_standing capacity m w s (feed record_bytes) d numbered within stands sound e =
    subst (λ y. Serves capacity y (feeding.feed_from capacity s record_bytes)) (sym e.is) (feeds capacity m numbered within w s e.number record_bytes e.takeable stands sound)
calls_keep_standing capacity m w s fund d numbered within stands sound e =
    subst (λ y. Serves capacity y (feeding.fund_from capacity s)) (sym e) (funds capacity m numbered within w s stands sound)
calls_keep_standing capacity m w s one_step d numbered within stands sound e =
    subst (λ y. Serves capacity y (running.step_from s)) (sym e.is) (steps capacity m numbered within w s e.number e.takeable stands sound)
calls_keep_standing capacity m w s (advance n) d numbered within stands sound e = advances capacity m numbered within w s n d e stands sound
calls_keep_standing capacity m w s pull d numbered within stands sound e =
    subst (λ y. Serves capacity y (running.pull_from s)) (sym e) (pulls capacity m numbered within w s stands sound)
calls_keep_standing capacity m w s abandon d numbered within stands sound e =
    subst (λ y. Serves capacity y (running.abandon_from s)) (sym e) (abandons capacity m numbered within w s stands sound)
calls_keep_standing capacity m w s ask_price d numbered within stands sound e =
    subst (λ y. Serves capacity y (serve capacity s ask_price)) (sym e)
    (record { answers = ap counted (same_price capacity m numbered within w s stands); stands = stands; sound = sound })
calls_keep_standing capacity m w s ask_free d numbered within stands sound e =
    subst (λ y. Serves capacity y (serve capacity s ask_free)) (sym e)
    (record { answers = ap (λ n. counted (capacity - n)) (held_are_the_live_nodes m w s numbered stands); stands = stands; sound = sound })
calls_keep_standing capacity m w s ask_held d numbered within stands sound e =
    subst (λ y. Serves capacity y (serve capacity s ask_held)) (sym e)
    (record { answers = ap counted (held_are_the_live_nodes m w s numbered stands); stands = stands; sound = sound })
calls_keep_standing capacity m w s ask_state d numbered within stands sound e =
    subst (λ y. Serves capacity y (serve capacity s ask_state)) (sym e)
    (record { answers = ap in_phase (same_phase capacity m numbered within w s stands); stands = stands; sound = sound })
