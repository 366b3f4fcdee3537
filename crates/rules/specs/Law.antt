-- The line on which tools rely: what is accepted is what the rules derive.
use Rattle.std.specs.Prelude.{◌≡◌, ℕ, List, Ok}
use Rattle.rules.specs.Programs.{Tables}
use Rattle.rules.specs.Lawful.{Lawful}
use Rattle.rules.specs.Verdict.{verdict}

-- The verdict accepts a sheet, with its tables, exactly when it has the form with these tables and every function derives.
abbrev pub CheckAcceptsWhatTheRulesDerive : Type 0
CheckAcceptsWhatTheRulesDerive =
    (bytes : List ℕ) (t : Tables) → (verdict bytes ≡ Ok t → Lawful bytes t) × (Lawful bytes t → verdict bytes ≡ Ok t)
