-- How much a step may add to a balance. That no balance of a sheet reaches the limit is what the loops of the third round carry.
-- Rests on the tables of a program.
use Rattle.std.specs.Prelude.{ℕ, ◌+◌, ◌<◌, ◌≤◌, List}
use Rattle.records.specs.declared.kinds.NodeType.{NodeType}
use Rattle.rules.specs.declared.functions.FunctionEntry.{FunctionEntry}
use Rattle.rules.specs.declared.findings.Finding.{Finding}
use Rattle.rules.specs.declared.findings.Finding.TheVariants.{Onward, Forks, Ends}
use Rattle.rules.specs.Types.{type_record}
use Rattle.rules.specs.Programs.{signature_of}

-- the most that a step gains: 1 and an amount
abbrev pub gain_limit : ℕ
gain_limit = 65536

-- a balance below it can gain once more
abbrev pub balance_limit : ℕ
balance_limit = 4000000000

-- the amount of each type number is below it
abbrev pub SmallAmounts : List NodeType → Type 0
SmallAmounts ts = (t : ℕ) → (type_record ts t).amount < gain_limit

-- and so is what a call of each function gives back
abbrev pub SmallRemainders : List FunctionEntry → Type 0
SmallRemainders fs = (f : ℕ) → (signature_of fs f).remainder < gain_limit

-- what a finding hands on has gained no more than that
abbrev pub Grown : ℕ → Finding → Type 0
Grown b (Onward c) = c.balance ≤ b + gain_limit
Grown b (Forks first second later) = (first.balance ≤ b + gain_limit) × (later.balance ≤ b + gain_limit)
Grown b Ends = Unit {0}
