-- The law of the grammar for what is answered.
use Rattle.std.proofs.Common.{◌≡◌, ℕ, List, Ok, Err, vec_items, Result, Vec, sym, ◌∙◌, arith}
use Rattle.std.specs.declared.alloc.Global.{Global}
use Rattle.label_text.specs.declared.hexes.HexFault.{HexFault}
use Rattle.label_text.specs.declared.hexes.HexFault.TheVariants.{Text, Memory}
use Rattle.label_text.specs.declared.hexes.Mode.TheVariants.{Between}
use Rattle.label_text.specs.declared.hexes.TextFault.{TextFault}
use Rattle.label_text.specs.Hexes.{Spells, reading}
use Rattle.label_text.specs.Parsed.{Parsed, Spelled}
use Rattle.label_text.proofs.Grammar.{sound, complete}

reads_other : (text xs ys : List ℕ) → ◌≡◌ {A = Result (List ℕ) TextFault} (Ok xs) (reading text) → Spells Between text ys → ys ≡ xs
reads_other text xs ys e other = let f = sym (complete other (record { line = 1; column = 1 })) ∙ sym e in cc

reads_none : (text ys : List ℕ) (f : TextFault) → ◌≡◌ {A = Result (List ℕ) TextFault} (Err f) (reading text) → Spells Between text ys → ⊥
reads_none text ys f e other = let g = sym (complete other (record { line = 1; column = 1 })) ∙ sym e in let z : ◌≡◌ {A = ℕ} 0 1 = cc in omega arith

pub spelled : (text : List ℕ) (r : Result (Vec ℕ Global) HexFault) → Parsed text r → Spelled text r
spelled text (Ok v) e = (sound Between (record { line = 1; column = 1 }) text (vec_items v) (sym e), λ others other. reads_other text (vec_items v) others e other)
spelled text (Err (Text f)) e = λ bytes other. reads_none text bytes f e other
spelled text (Err Memory) e = tt
