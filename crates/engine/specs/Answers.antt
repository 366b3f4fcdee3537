-- What the engine answers, as answers of the plain service: each case of a fault with its refusal. Layer codes are apart. Rests on
-- the calls of the plain service.
use Rattle.std.specs.Prelude.{ℕ, Some, None, Ok, Err, Option, Result}
use Rattle.plain.specs.Calls.{Refusal, excluded, advance_excluded, bad_sheet, bad_record, bad_type, too_few_entries, other_type, too_many_entries, other_parameters, too_dear, too_deep, too_deep_after, no_free_cell}
use Rattle.plain.specs.Calls.{Answer, accepted, in_phase, advanced, pulled, at_end, refused_with}
use Rattle.inner.specs.declared.kept.State.{State}
use Rattle.inner.specs.Meant.{phase_of}
use Rattle.engine.specs.declared.faults.FeedFault.{FeedFault}
use Rattle.engine.specs.declared.faults.FeedFault.TheVariants.{BadRecord, BadType, TooFewEntries, OtherType, TooManyEntries, Store}
use Rattle.engine.specs.declared.faults.EngineFault.{EngineFault}
use Rattle.engine.specs.declared.faults.EngineFault.TheVariants.{Excluded, AdvanceExcluded, Unlawful, Feed, OtherParameters, TooDear, TooDeep, TooDeepAfter}

abbrev pub feed_refusal : FeedFault → Refusal
feed_refusal BadRecord = bad_record
feed_refusal BadType = bad_type
feed_refusal TooFewEntries = too_few_entries
feed_refusal OtherType = other_type
feed_refusal TooManyEntries = too_many_entries
feed_refusal (Store f) = no_free_cell

abbrev pub refusal : EngineFault → Refusal
refusal Excluded = excluded
refusal AdvanceExcluded = advance_excluded
refusal (Unlawful f) = bad_sheet f
refusal (Feed f) = feed_refusal f
refusal OtherParameters = other_parameters
refusal (TooDear price) = too_dear price
refusal TooDeep = too_deep
refusal (TooDeepAfter made) = too_deep_after made

-- load, feed and fund
abbrev pub acceptance : Result (Unit {0}) EngineFault → Answer
acceptance (Ok u) = accepted
acceptance (Err f) = refused_with (refusal f)

-- step
abbrev pub step_answer : Result State EngineFault → Answer
step_answer (Ok s) = in_phase (phase_of s)
step_answer (Err f) = refused_with (refusal f)

-- advance: the steps made, and the state
abbrev pub advance_answer : Result (ℕ × State) EngineFault → Answer
advance_answer (Ok x) = advanced x.0 (phase_of x.1)
advance_answer (Err f) = refused_with (refusal f)

-- pull: a number, or the end
abbrev pub pull_answer : Result (Option ℕ) EngineFault → Answer
pull_answer (Ok (Some n)) = pulled n
pull_answer (Ok None) = at_end
pull_answer (Err f) = refused_with (refusal f)
