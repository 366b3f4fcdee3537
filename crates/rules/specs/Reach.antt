-- Offsets at which a step stands. Rests on what stands at an offset.
use Rattle.std.specs.Prelude.{◌≡◌, ℕ, Bool, true, false, List, Some, None, Option}
use Rattle.records.specs.declared.kinds.Record.{Record}
use Rattle.records.specs.declared.kinds.Record.TheVariants.{ListType, Function, Step}
use Rattle.rules.specs.Programs.{fetch}

abbrev pub is_step : Option Record → Bool
is_step None = false
is_step (Some (ListType x)) = false
is_step (Some (Function g)) = false
is_step (Some (Step s)) = true

-- a step stands at this offset
abbrev pub StepStands : List ℕ → ℕ → Type 0
StepStands bytes o = is_step (fetch bytes o) ≡ true
