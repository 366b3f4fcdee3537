-- What the reader of hexadecimal text answers. Assumes nothing.
use Rattle.std.specs.Prelude.{◌≡◌, ℕ, ◌<◌, List, ◌++◌, Ok, Err, vec_items, Result, Vec}
use Rattle.std.specs.declared.alloc.Global.{Global}
use Rattle.label_text.specs.declared.hexes.TextFault.{TextFault}
use Rattle.label_text.specs.declared.hexes.HexFault.{HexFault}
use Rattle.label_text.specs.declared.hexes.HexFault.TheVariants.{Text, Memory}
use Rattle.label_text.specs.declared.hexes.Slip.{Slip}
use Rattle.label_text.specs.declared.hexes.Mode.{Mode}
use Rattle.label_text.specs.declared.hexes.Mode.TheVariants.{Between, Half, Comment}
use Rattle.label_text.specs.declared.hexes.Turn.{Turn}
use Rattle.label_text.specs.declared.hexes.Turn.TheVariants.{Goes, Gives}
use Rattle.label_text.specs.Hexes.{Spells, reading}

-- a first digit is below 16
abbrev pub Low : Mode → Type 0
Low Between = Unit {0}
Low (Half high) = high < 16
Low Comment = Unit {0}

abbrev pub LeadsLow : Result Turn Slip → Type 0
LeadsLow (Ok (Goes m)) = Low m
LeadsLow (Ok (Gives b)) = Unit {0}
LeadsLow (Err slip) = Unit {0}

-- what is read behind these bytes
abbrev pub with_bytes : List ℕ → Result (List ℕ) TextFault → Result (List ℕ) TextFault
with_bytes before (Ok bytes) = Ok (before ++ bytes)
with_bytes before (Err f) = Err f

-- the bytes that the text spells, or the place of its first fault, unless memory runs out
abbrev pub Parsed : List ℕ → Result (Vec ℕ Global) HexFault → Type 0
Parsed text (Ok v) = Ok (vec_items v) ≡ reading text
Parsed text (Err (Text f)) = Err f ≡ reading text
Parsed text (Err Memory) = Unit {0}

-- in terms of the grammar: these bytes and no others, or none at all
abbrev pub Spelled : List ℕ → Result (Vec ℕ Global) HexFault → Type 0
Spelled text (Ok v) = Spells Between text (vec_items v) × ((others : List ℕ) → Spells Between text others → others ≡ vec_items v)
Spelled text (Err (Text f)) = (bytes : List ℕ) → Spells Between text bytes → ⊥
Spelled text (Err Memory) = Unit {0}
