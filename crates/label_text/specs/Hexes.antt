-- Hexadecimal text: what it spells, and how it is read. Assumes nothing.
use Rattle.std.specs.Prelude.{◌≡◌, ℕ, ◌+◌, ◌-◌, ◌*◌, Bool, true, cond, List, [], ◌∷◌, Some, None, Ok, Err, Option, Result, ◌==◌, ◌≢◌, nat_le}
use Rattle.label_text.specs.declared.hexes.Spot.{Spot}
use Rattle.label_text.specs.declared.hexes.TextFault.{TextFault}
use Rattle.label_text.specs.declared.hexes.Slip.{Slip}
use Rattle.label_text.specs.declared.hexes.Slip.TheVariants.{NotHexadecimal, HalfByte}
use Rattle.label_text.specs.declared.hexes.Mode.{Mode}
use Rattle.label_text.specs.declared.hexes.Mode.TheVariants.{Between, Half, Comment}
use Rattle.label_text.specs.declared.hexes.Turn.{Turn}
use Rattle.label_text.specs.declared.hexes.Turn.TheVariants.{Goes, Gives}

-- the value of the digits 0 to 9, A to F and a to f
abbrev pub digit_of : ℕ → Option ℕ
digit_of c =
    cond (nat_le 48 c) (cond (nat_le c 57) (Some (c - 48))
    (cond (nat_le 65 c) (cond (nat_le c 70) (Some (c - 55)) (cond (nat_le 97 c) (cond (nat_le c 102) (Some (c - 87)) None) None)) None)) None

-- space, tab, line feed and carriage return
abbrev pub is_gap : ℕ → Bool
is_gap c = cond (c == 32) true (cond (c == 9) true (cond (c == 10) true (c == 13)))

-- the grammar: what bytes a text spells, between bytes or from within a comment on
pub data Spells : Mode → List ℕ → List ℕ → Type 0 where
  nothing : Spells Between [] []
  gap : {c : ℕ} {text bytes : List ℕ} → is_gap c ≡ true → Spells Between text bytes → Spells Between (c ∷ text) bytes
  byte : {h l high low : ℕ} {text bytes : List ℕ} → digit_of h ≡ Some high → digit_of l ≡ Some low → Spells Between text bytes →
      Spells Between (h ∷ (l ∷ text)) ((high * 16 + low) ∷ bytes)
  comment : {text bytes : List ℕ} → Spells Comment text bytes → Spells Between (35 ∷ text) bytes
  comment_more : {c : ℕ} {text bytes : List ℕ} → (c ≢ 10) → Spells Comment text bytes → Spells Comment (c ∷ text) bytes
  comment_ends : {text bytes : List ℕ} → Spells Between text bytes → Spells Comment (10 ∷ text) bytes
  comment_last : Spells Comment [] []

-- what a character does, by where the reading stands, or what is wrong with it there
abbrev pub first_digit : Option ℕ → Result Turn Slip
first_digit None = Err NotHexadecimal
first_digit (Some d) = Ok (Goes (Half d))

abbrev pub second_digit : ℕ → Option ℕ → Result Turn Slip
second_digit high None = Err HalfByte
second_digit high (Some low) = Ok (Gives (high * 16 + low))

abbrev pub turn : Mode → ℕ → Result Turn Slip
turn Between c = cond (c == 35) (Ok (Goes Comment)) (cond (is_gap c) (Ok (Goes Between)) (first_digit (digit_of c)))
turn (Half high) c = second_digit high (digit_of c)
turn Comment c = cond (c == 10) (Ok (Goes Between)) (Ok (Goes Comment))

-- the place behind a character
abbrev pub behind : Spot → ℕ → Spot
behind s c = cond (c == 10) (record { line = s.line + 1; column = 1 }) (record { line = s.line; column = s.column + 1 })

abbrev pub with_byte : ℕ → Result (List ℕ) TextFault → Result (List ℕ) TextFault
with_byte b (Ok bytes) = Ok (b ∷ bytes)
with_byte b (Err f) = Err f

-- how the reading goes on; what is wrong is wrong at this place
abbrev pub after_turn : Result Turn Slip → Spot → (Mode → Result (List ℕ) TextFault) → Result (List ℕ) TextFault
after_turn (Ok (Goes m)) s rest = rest m
after_turn (Ok (Gives b)) s rest = with_byte b (rest Between)
after_turn (Err slip) s rest = Err (record { slip = slip; spot = s })

abbrev pub read_on : Mode → Spot → List ℕ → Result (List ℕ) TextFault
read_on Between s [] = Ok []
read_on (Half high) s [] = Err (record { slip = HalfByte; spot = s })
read_on Comment s [] = Ok []
read_on Between s (c ∷ cs) = after_turn (turn Between c) s (λ m. read_on m (behind s c) cs)
read_on (Half high) s (c ∷ cs) = after_turn (turn (Half high) c) s (λ m. read_on m (behind s c) cs)
read_on Comment s (c ∷ cs) = after_turn (turn Comment c) s (λ m. read_on m (behind s c) cs)

-- the bytes of a text, or its first fault
abbrev pub reading : List ℕ → Result (List ℕ) TextFault
reading text = read_on Between (record { line = 1; column = 1 }) text
