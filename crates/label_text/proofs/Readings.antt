-- One character more of hexadecimal text, and its end.
use Rattle.std.proofs.Common.{◌≡◌, ℕ, suc, ◌+◌, ◌<◌, ◌≤◌, Bool, true, false, cond, eqb, List, [], ◌∷◌, ◌++◌, length, get_or, drop, Ok, Err, Result, sym, refl, ap, ◌∙◌, append_assoc, append-nil, add-one, arith, drop-cons}
use Rattle.label_text.specs.declared.hexes.Spot.{Spot}
use Rattle.label_text.specs.declared.hexes.TextFault.{TextFault}
use Rattle.label_text.specs.declared.hexes.Slip.{Slip}
use Rattle.label_text.specs.declared.hexes.Mode.{Mode}
use Rattle.label_text.specs.declared.hexes.Mode.TheVariants.{Between, Half, Comment}
use Rattle.label_text.specs.declared.hexes.Turn.{Turn}
use Rattle.label_text.specs.declared.hexes.Turn.TheVariants.{Goes, Gives}
use Rattle.label_text.specs.Hexes.{turn, behind, with_byte, after_turn, read_on}
use Rattle.label_text.specs.Parsed.{with_bytes}

abbrev Answer : Type 0
Answer = Result (List ℕ) TextFault

pub read_on_turn : (m : Mode) (s : Spot) (c : ℕ) (cs : List ℕ) → read_on m s (c ∷ cs) ≡ after_turn (turn m c) s (λ n. read_on n (behind s c) cs)
read_on_turn Between s c cs = refl
read_on_turn (Half high) s c cs = refl
read_on_turn Comment s c cs = refl

with_bytes_byte : (bs : List ℕ) (b : ℕ) (r : Answer) → with_bytes bs (with_byte b r) ≡ with_bytes (bs ++ b ∷ []) r
with_bytes_byte bs b (Ok xs) = ap {B = Answer} (λ ys. Ok ys) (sym (append_assoc bs (b ∷ []) xs))
with_bytes_byte bs b (Err f) = refl

-- the reading stands at i, with the bytes so far, in a text that reads as `whole`
module _ (text bs : List ℕ) (m : Mode) (s : Spot) (i : ℕ) (whole : Answer) (more : i < length text) (is : with_bytes bs (read_on m s (drop i text)) ≡ whole) where
  abbrev here : ℕ
  here = get_or text i 0

  by_turn : (t : Result Turn Slip) → t ≡ turn m here → with_bytes bs (after_turn t s (λ n. read_on n (behind s here) (drop (i + 1) text))) ≡ whole
  by_turn t e =
      ap (λ x. with_bytes bs (after_turn x s (λ n. read_on n (behind s here) (drop (i + 1) text)))) e
      ∙ ap (λ k. with_bytes bs (after_turn (turn m here) s (λ n. read_on n (behind s here) (drop k text)))) (add-one i)
      ∙ ap (with_bytes bs) (sym (read_on_turn m s here (drop (suc i) text)))
      ∙ ap (λ xs. with_bytes bs (read_on m s xs)) (sym (drop-cons text i 0 more)) ∙ is

  pub goes_on : (n : Mode) → Ok (Goes n) ≡ turn m here → with_bytes bs (read_on n (behind s here) (drop (i + 1) text)) ≡ whole
  goes_on n e = by_turn (Ok (Goes n)) e

  pub gives_byte : (b : ℕ) → Ok (Gives b) ≡ turn m here → with_bytes (bs ++ b ∷ []) (read_on Between (behind s here) (drop (i + 1) text)) ≡ whole
  gives_byte b e = sym (with_bytes_byte bs b (read_on Between (behind s here) (drop (i + 1) text))) ∙ by_turn (Ok (Gives b)) e

behind_by : (b : Bool) (s t : Spot) (n : ℕ) → s.line ≤ n → s.column ≤ n → t.line ≤ n → t.column ≤ n → ((cond b s t).line ≤ n) × ((cond b s t).column ≤ n)
behind_by true s t n p q u v = (p, q)
behind_by false s t n p q u v = (u, v)

pub behind_small : (s : Spot) (c n : ℕ) → s.line ≤ n → s.column ≤ n → ((behind s c).line ≤ n + 1) × ((behind s c).column ≤ n + 1)
behind_small s c n p q =
    behind_by (eqb c 10) (record { line = s.line + 1; column = 1 }) (record { line = s.line; column = s.column + 1 }) (n + 1) (omega arith) (omega arith) (omega arith) (omega arith)

pub no_more : (bs : List ℕ) → ◌≡◌ {A = Answer} (Ok bs) (with_bytes bs (Ok []))
no_more bs = ap {B = Answer} (λ ys. Ok ys) (sym (append-nil bs))

-- the same, where the parts go by other names
pub read_as : {bs cs : List ℕ} {m n : Mode} {s t : Spot} (rest : List ℕ) (whole : Answer) → bs ≡ cs → m ≡ n → s ≡ t →
    with_bytes cs (read_on n t rest) ≡ whole → with_bytes bs (read_on m s rest) ≡ whole
read_as {bs} {cs} {m} {n} {s} {t} rest whole b e p is =
    ap (λ x. with_bytes x (read_on m s rest)) b ∙ ap (λ x. with_bytes cs (read_on x s rest)) e ∙ ap (λ x. with_bytes cs (read_on n x rest)) p ∙ is
