-- Words of 32 bits read as a row of flags, and what it means to find the first flag that is not set. Assumes nothing.
use Rattle.std.specs.Prelude.{◌≡◌, ℕ, zero, suc, ◌+◌, ◌/◌, ◌%◌, ◌^◌, ◌<◌, Bool, true, false, cond, not, List, [], ◌∷◌, ◌++◌, length, Some, None, Option, ◌==◌, slice_index_or, slice_set}

-- one bit of a word, counted from the lowest
abbrev pub bit_of : ℕ → ℕ → Bool
bit_of word at = word / 2 ^ at % 2 == 1

-- the n low bits of a word, the lowest first
unfoldable pub bits : ℕ → ℕ → List Bool
bits zero word = []
bits (suc n) word = (word % 2 == 1) ∷ bits n (word / 2)

-- the flags of a row of words: 32 for each word, in the words' order
unfoldable pub flags : List ℕ → List Bool
flags [] = []
flags (word ∷ words) = bits 32 word ++ flags words

-- the flag at a place; past the end of the row none is set
abbrev pub flag : List Bool → ℕ → Bool
flag row place = slice_index_or row place false

-- the row with one flag turned
abbrev pub turned : List Bool → ℕ → List Bool
turned row place = slice_set row place (not (flag row place))

-- how many flags of a row are set
abbrev pub how_many : List Bool → ℕ
how_many [] = 0
how_many (one ∷ rest) = cond one 1 0 + how_many rest

-- whether a word has a bit that is not set
abbrev pub is_not_full : ℕ → Bool
is_not_full word = not (word == 0xFFFF_FFFF)

-- a flag that is not set, while every flag before it is
pub record FirstClear (row : List Bool) (place : ℕ) : Type 0 where
  pub inside : place < length row
  pub clear : flag row place ≡ false
  pub set_before : (j : ℕ) → j < place → flag row j ≡ true

-- every flag is set
pub record AllSet (row : List Bool) : Type 0 where
  pub everywhere : (j : ℕ) → j < length row → flag row j ≡ true

-- what the search for the first clear flag answers
abbrev pub Sought : List Bool → Option ℕ → Type 0
Sought row (Some place) = FirstClear row place
Sought row None = AllSet row
