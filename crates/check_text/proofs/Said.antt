-- What is said of a list, one element more; and that it is what is said along a table.
use Rattle.std.proofs.Common.{◌≡◌, ℕ, zero, suc, ◌+◌, ◌<◌, ◌≤◌, List, [], ◌∷◌, ◌++◌, length, get_or, take, Some, None, Option, sym, refl, ap, ◌∙◌, append_assoc, append-nil, add-zero, add-one, arith}
use Rattle.std.proofs.Math.Seq.{take-suc}
use Rattle.std.proofs.lemmas.List.{length-take-le, take_all}
use Rattle.std.specs.List.{slice_get}
use Rattle.check_text.specs.Reports.{about, said_along, lines_from}
use Rattle.check_text.specs.Said.{said_of}

module _ {X : Type 0} (say : ℕ → X → List ℕ) where
  said_both : (n : ℕ) (xs ys : List X) → said_of say n (xs ++ ys) ≡ said_of say n xs ++ said_of say (n + length xs) ys
  said_both n [] ys = ap (λ k. said_of say k ys) (sym (add-zero n))
  said_both n (x ∷ xs) ys =
      ap (λ r. say n x ++ r) (said_both (n + 1) xs ys) ∙ sym (append_assoc (say n x) (said_of say (n + 1) xs) (said_of say (n + 1 + length xs) ys))
      ∙ ap (λ k. (say n x ++ said_of say (n + 1) xs) ++ said_of say k ys) (omega arith)

  -- one element more
  pub said_more : (n : ℕ) (xs : List X) (i : ℕ) (d x : X) → i < length xs → x ≡ get_or xs i d →
      said_of say n (take i xs) ++ say (n + i) x ≡ said_of say n (take (i + 1) xs)
  said_more n xs i d x less is =
      let long : length (take i xs) ≡ i = length-take-le i xs (omega arith) in
      ap (λ r. said_of say n (take i xs) ++ r) (sym (append-nil (say (n + i) x)))
      ∙ ap (λ k. said_of say n (take i xs) ++ (say (n + k) x ++ [])) (sym long)
      ∙ sym (said_both n (take i xs) (x ∷ []))
      ∙ ap (λ y. said_of say n (take i xs ++ (y ∷ []))) is
      ∙ ap (said_of say n) (sym (take-suc xs i d less) ∙ ap (λ k. take k xs) (sym (add-one i)))

  -- all of them
  pub said_whole : (n : ℕ) (xs : List X) (i : ℕ) → length xs ≤ i → said_of say n (take i xs) ≡ said_of say n xs
  said_whole n xs i over = ap (said_of say n) (take_all i xs over)

module _ {X : Type 0} (entry : ℕ → Option X) (say : ℕ → X → List ℕ) where
  abbrev along : ℕ → ℕ → List ℕ
  along most n = lines_from entry say most n

  along_none : (n : ℕ) → along 0 n ≡ []
  unfolding said_along
  along_none n = refl

  along_opens : (most n : ℕ) → along (suc most) n ≡ about (entry n) (λ x. say n x ++ along most (n + 1))
  unfolding said_along
  along_opens most n = refl

  -- a list whose elements are the entries from n on, as far as the most that are said
  pub said_of_list : (most n : ℕ) (xs : List X) → length xs ≤ most → ((k : ℕ) → k < most → entry (n + k) ≡ slice_get xs k) → along most n ≡ said_of say n xs
  said_of_list zero n [] few is = along_none n
  said_of_list zero n (x ∷ xs) few is = absurd (omega arith)
  said_of_list (suc most) n [] few is =
      let here : entry n ≡ None = ap entry (sym (add-zero n)) ∙ is 0 (omega arith) in
      along_opens most n ∙ ap (λ o. about o (λ x. say n x ++ along most (n + 1))) here
  said_of_list (suc most) n (x ∷ xs) few is =
      let here : entry n ≡ Some x = ap entry (sym (add-zero n)) ∙ is 0 (omega arith) in
      let there : (k : ℕ) → k < most → entry (n + 1 + k) ≡ slice_get xs k = λ k less. ap entry (omega arith) ∙ is (suc k) (omega arith) in
      along_opens most n ∙ ap (λ o. about o (λ y. say n y ++ along most (n + 1))) here
      ∙ ap (λ r. say n x ++ r) (said_of_list most (n + 1) xs (omega arith) there)
