-- The words of the command line, and of a fault in hexadecimal text. Assumes nothing.
use Rattle.std.specs.Prelude.{◌≡◌, ℕ, List, ◌++◌, Some, None, codes, decimal, Option, ◌≢◌}
use Rattle.label_text.specs.declared.commands.Verb.{Verb}
use Rattle.label_text.specs.declared.commands.Verb.TheVariants.{List as Listing, Check}
use Rattle.label_text.specs.declared.hexes.Spot.{Spot}
use Rattle.label_text.specs.declared.hexes.TextFault.{TextFault}
use Rattle.label_text.specs.declared.hexes.Slip.{Slip}
use Rattle.label_text.specs.declared.hexes.Slip.TheVariants.{NotHexadecimal, HalfByte}

abbrev pub name_of : Verb → List ℕ
name_of Listing = codes "list"
name_of Check = codes "check"

-- the verb of that name, or none if no verb has it
abbrev pub Named : List ℕ → Option Verb → Type 0
Named word (Some v) = word ≡ name_of v
Named word None = (v : Verb) → word ≢ name_of v

abbrev pub slip_words : Slip → List ℕ
slip_words NotHexadecimal = codes "this is no hexadecimal digit"
slip_words HalfByte = codes "the second digit of a byte is missing"

-- a line and a column
abbrev pub place_words : Spot → List ℕ
place_words s = codes "line " ++ (decimal s.line ++ (codes ", column " ++ decimal s.column))

-- what is wrong, with its line and column
abbrev pub fault_words : TextFault → List ℕ
fault_words f =
    codes "line " ++ (decimal f.spot.line ++ (codes ", column " ++ (decimal f.spot.column ++ (codes ": " ++ slip_words f.slip))))
