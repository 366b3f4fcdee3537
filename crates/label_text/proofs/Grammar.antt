-- What is read of a text is what it spells.
use Rattle.std.proofs.Common.{◌≡◌, ℕ, ◌+◌, ◌*◌, Bool, true, false, cond, eqb, List, [], ◌∷◌, Some, None, Ok, Err, Option, Result, sym, refl, ap, ◌∙◌, subst, ⊎_elim, arith, ne_eqb, eqb-true}
use borrow.Author.Tests.{eqb-false}
use Rattle.std.proofs.lemmas.Bool.{cases_eq, cases_Bool}
use Rattle.label_text.specs.declared.hexes.Spot.{Spot}
use Rattle.label_text.specs.declared.hexes.TextFault.{TextFault}
use Rattle.label_text.specs.declared.hexes.Mode.{Mode}
use Rattle.label_text.specs.declared.hexes.Mode.TheVariants.{Between, Half, Comment}
use Rattle.label_text.specs.declared.hexes.Turn.TheVariants.{Goes}
use Rattle.label_text.specs.Hexes.{digit_of, is_gap, Spells, nothing, gap, byte, comment, comment_more, comment_ends, comment_last, first_digit, second_digit, behind, with_byte, after_turn, read_on}

abbrev Answer : Type 0
Answer = Result (List ℕ) TextFault

-- behind the first digit of a byte, the second and the rest
pub data Halved (high : ℕ) : List ℕ → List ℕ → Type 0 where
  halved : {l low : ℕ} {text bytes : List ℕ} → digit_of l ≡ Some low → Spells Between text bytes → Halved high (l ∷ text) ((high * 16 + low) ∷ bytes)

abbrev pub Stands : Mode → List ℕ → List ℕ → Type 0
Stands Between text bytes = Spells Between text bytes
Stands (Half high) text bytes = Halved high text bytes
Stands Comment text bytes = Spells Comment text bytes

never : {A : Type 0} (f : TextFault) (bs : List ℕ) → ◌≡◌ {A = Answer} (Err f) (Ok bs) → A
never f bs e = let z : ◌≡◌ {A = ℕ} 0 1 = cc in absurd (omega arith)

-- a first digit before that is a byte
joined : {h high : ℕ} {text bytes : List ℕ} → digit_of h ≡ Some high → Halved high text bytes → Spells Between (h ∷ text) bytes
joined first (halved second more) = byte first second more

module _ (c : ℕ) (cs : List ℕ) (s : Spot) (rest : (m : Mode) (bs : List ℕ) → read_on m (behind s c) cs ≡ Ok bs → Stands m cs bs) where
  sound_first : (d : Option ℕ) → digit_of c ≡ d → (bs : List ℕ) → after_turn (first_digit d) s (λ m. read_on m (behind s c) cs) ≡ Ok bs → Spells Between (c ∷ cs) bs
  sound_first None is bs e = never _ bs e
  sound_first (Some high) is bs e = joined is (rest (Half high) bs e)

  sound_between : (hash space : Bool) → eqb c 35 ≡ hash → is_gap c ≡ space → (bs : List ℕ) →
      after_turn (cond hash (Ok (Goes Comment)) (cond space (Ok (Goes Between)) (first_digit (digit_of c)))) s (λ m. read_on m (behind s c) cs) ≡ Ok bs → Spells Between (c ∷ cs) bs
  sound_between true space is g bs e = subst (λ x. Spells Between (x ∷ cs) bs) (sym (eqb-true c 35 is)) (comment (rest Comment bs e))
  sound_between false true is g bs e = gap g (rest Between bs e)
  sound_between false false is g bs e = sound_first (digit_of c) refl bs e

  sound_comment : (newline : Bool) → eqb c 10 ≡ newline → (bs : List ℕ) →
      after_turn (cond newline (Ok (Goes Between)) (Ok (Goes Comment))) s (λ m. read_on m (behind s c) cs) ≡ Ok bs → Spells Comment (c ∷ cs) bs
  sound_comment true is bs e = subst (λ x. Spells Comment (x ∷ cs) bs) (sym (eqb-true c 10 is)) (comment_ends (rest Between bs e))
  sound_comment false is bs e = comment_more (eqb-false c 10 is) (rest Comment bs e)

  sound_byte : (high low : ℕ) → digit_of c ≡ Some low → (r : Answer) → read_on Between (behind s c) cs ≡ r → (bs : List ℕ) → with_byte (high * 16 + low) r ≡ Ok bs → Halved high (c ∷ cs) bs
  sound_byte high low is (Err f) e bs w = never f bs w
  sound_byte high low is (Ok xs) e bs w =
      let same : (high * 16 + low) ∷ xs ≡ bs = cc in
      subst (Halved high (c ∷ cs)) same (halved is (rest Between xs e))

  sound_half : (high : ℕ) (d : Option ℕ) → digit_of c ≡ d → (bs : List ℕ) → after_turn (second_digit high d) s (λ m. read_on m (behind s c) cs) ≡ Ok bs → Halved high (c ∷ cs) bs
  sound_half high None is bs e = never _ bs e
  sound_half high (Some low) is bs e = sound_byte high low is (read_on Between (behind s c) cs) refl bs e

nothing_left : (bs : List ℕ) → ◌≡◌ {A = Answer} (Ok []) (Ok bs) → [] ≡ bs
nothing_left bs e = cc

pub sound : (m : Mode) (s : Spot) (text bs : List ℕ) → read_on m s text ≡ Ok bs → Stands m text bs
sound Between s [] bs e = subst (Spells Between []) (nothing_left bs e) nothing
sound (Half high) s [] bs e = never _ bs e
sound Comment s [] bs e = subst (Spells Comment []) (nothing_left bs e) comment_last
sound Between s (c ∷ cs) bs e = sound_between c cs s (λ m xs. sound m (behind s c) cs xs) (eqb c 35) (is_gap c) refl refl bs e
sound (Half high) s (c ∷ cs) bs e = sound_half c cs s (λ m xs. sound m (behind s c) cs xs) high (digit_of c) refl bs e
sound Comment s (c ∷ cs) bs e = sound_comment c cs s (λ m xs. sound m (behind s c) cs xs) (eqb c 10) refl bs e

-- neither a space nor # is a digit, and # is no space
gap_or : (c : ℕ) (P : ℕ → Type 0) → P 32 → P 9 → P 10 → P 13 → is_gap c ≡ true → P c
gap_or c P p32 p9 p10 p13 g =
    ⊎_elim (λ e. subst P (sym e) p32) (λ n32.
    ⊎_elim (λ e. subst P (sym e) p9) (λ n9.
    ⊎_elim (λ e. subst P (sym e) p10) (λ n10.
    let last = sym (ap (λ b. cond b true (cond (eqb c 9) true (cond (eqb c 10) true (eqb c 13)))) (ne_eqb c 32 n32)
    ∙ ap (λ b. cond b true (cond (eqb c 10) true (eqb c 13))) (ne_eqb c 9 n9) ∙ ap (λ b. cond b true (eqb c 13)) (ne_eqb c 10 n10)) ∙ g in
    subst P (sym (eqb-true c 13 last)) p13)
    (cases_eq c 10)) (cases_eq c 9)) (cases_eq c 32)

gap_no_hash : (c : ℕ) → is_gap c ≡ true → eqb c 35 ≡ false
gap_no_hash c g = gap_or c (λ x. eqb x 35 ≡ false) refl refl refl refl g

gap_no_digit : (c : ℕ) → is_gap c ≡ true → digit_of c ≡ None
gap_no_digit c g = gap_or c (λ x. digit_of x ≡ None) refl refl refl refl g

digit_no_gap : (c d : ℕ) → digit_of c ≡ Some d → is_gap c ≡ false
digit_no_gap c d is =
    ⊎_elim (λ g. let n = sym (gap_no_digit c g) ∙ is in let z : ◌≡◌ {A = ℕ} 0 1 = cc in absurd (omega arith)) (λ f. f) (cases_Bool (is_gap c))

digit_no_hash : (c d : ℕ) → digit_of c ≡ Some d → eqb c 35 ≡ false
digit_no_hash c d is =
    ⊎_elim (λ e. let n = sym (ap digit_of e) ∙ is in let z : ◌≡◌ {A = ℕ} 0 1 = cc in absurd (omega arith)) (ne_eqb c 35) (cases_eq c 35)

pub complete : {m : Mode} {text bs : List ℕ} → Spells m text bs → (s : Spot) → read_on m s text ≡ Ok bs
complete nothing s = refl
complete (gap {c} {text} g more) s =
    ap (λ b. after_turn (cond b (Ok (Goes Comment)) (cond (is_gap c) (Ok (Goes Between)) (first_digit (digit_of c)))) s (λ m. read_on m (behind s c) text)) (gap_no_hash c g)
    ∙ ap (λ b. after_turn (cond b (Ok (Goes Between)) (first_digit (digit_of c))) s (λ m. read_on m (behind s c) text)) g ∙ complete more (behind s c)
complete (byte {h} {l} {high} {low} {text} first second more) s =
    ap (λ b. after_turn (cond b (Ok (Goes Comment)) (cond (is_gap h) (Ok (Goes Between)) (first_digit (digit_of h)))) s (λ m. read_on m (behind s h) (l ∷ text))) (digit_no_hash h high first)
    ∙ ap (λ b. after_turn (cond b (Ok (Goes Between)) (first_digit (digit_of h))) s (λ m. read_on m (behind s h) (l ∷ text))) (digit_no_gap h high first)
    ∙ ap (λ d. after_turn (first_digit d) s (λ m. read_on m (behind s h) (l ∷ text))) first
    ∙ ap (λ d. after_turn (second_digit high d) (behind s h) (λ m. read_on m (behind (behind s h) l) text)) second
    ∙ ap (with_byte (high * 16 + low)) (complete more (behind (behind s h) l))
complete (comment {text} more) s = complete more (behind s 35)
complete (comment_more {c} {text} other more) s =
    ap (λ b. after_turn (cond b (Ok (Goes Between)) (Ok (Goes Comment))) s (λ m. read_on m (behind s c) text)) (ne_eqb c 10 other) ∙ complete more (behind s c)
complete (comment_ends {text} more) s = complete more (behind s 10)
complete comment_last s = refl
