-- What is known of every sheet that has passed the check. Rests on what a sheet has to be.
use Rattle.std.specs.Prelude.{ℕ, List}
use Rattle.rules.specs.Lawful.{Lawful}
use Rattle.sheet.specs.declared.tables.Tables.{Tables as Arrays}
use Rattle.sheet.specs.Held.{tables_of}

-- the bytes have the form with these tables, and the rules derive every function; how they do is not part of the sheet
abbrev pub IsLawful : List ℕ → Arrays → Type 0
IsLawful bytes t = ∥ Lawful bytes (tables_of t) ∥₁
