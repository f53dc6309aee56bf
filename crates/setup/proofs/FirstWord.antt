-- The first word of a line and the words after it.
use Rattle.std.proofs.Common.{◌≡◌, ℕ, zero, suc, ◌+◌, ◌<◌, ◌≤◌, Bool, true, false, not, List, [], ◌∷◌, length, get_or, take, drop, filter, sym, refl, ap, ◌∙◌, ⊎_elim, add-zero, arith, length-drop}
use Rattle.std.specs.List.{prefix_len}
use Rattle.std.proofs.lemmas.List.{drop_more, take_all, drop_all, nil_from_length, get_or-drop}
use Rattle.std.proofs.lemmas.List.Sums.{prefix_len-le-length, length-filter, count_by-le-length}
use Rattle.std.proofs.lemmas.Bool.{not-false, cases_Bool, cases_lt, cond-true, cond-false}
use Rattle.setup.specs.Grammar.{other, blank, filled, hash, pieces, words, uncommented}
use Rattle.setup.proofs.Pieces.{pieces_first, pieces_last, pieces_few}

-- by a name that an attribute can say
pub ruleset leading = (prefix_len-le-length)

-- what stands before the first byte that passes p
pub uncommented_is : (xs : List ℕ) (n : ℕ) → n ≡ prefix_len (other hash) xs → uncommented xs ≡ take n xs
uncommented_is [] n e = rw e
uncommented_is (c ∷ cs) n e =
    ⊎_elim
    (λ q. let none : n ≡ 0 = rw q at e in cond-true (hash c) _ _ q ∙ rw none)
    (λ q.
    let m : ℕ = prefix_len (other hash) cs in
    let more : n ≡ 1 + m = rw q at e in
    let next : n ≡ suc m = omega arith in
    cond-false (hash c) _ _ q ∙ ap (λ l. c ∷ l) (uncommented_is cs m refl) ∙ rw next)
    (cases_Bool (hash c))

-- the byte at which the run of p ends
pub leading_ends : (p : ℕ → Bool) (xs : List ℕ) → prefix_len p xs < length xs → p (get_or xs (prefix_len p xs) 0) ≡ false
leading_ends p [] h = absurd (omega arith)
leading_ends p (c ∷ cs) h =
    ⊎_elim
    (λ q.
    let more : prefix_len p (c ∷ cs) ≡ 1 + prefix_len p cs = cond-true (p c) _ _ q in
    let next : prefix_len p (c ∷ cs) ≡ suc (prefix_len p cs) = omega arith in
    ap (λ i. p (get_or (c ∷ cs) i 0)) next ∙ leading_ends p cs (omega arith))
    (λ q. ap (λ i. p (get_or (c ∷ cs) i 0)) (cond-false (p c) (1 + prefix_len p cs) 0 q) ∙ q)
    (cases_Bool (p c))

pub words_after_blank : (c : ℕ) (cs : List ℕ) → blank c ≡ true → words (c ∷ cs) ≡ words cs
unfolding words
words_after_blank c cs q = ap (filter filled) (cond-true (blank c) _ _ q)

-- blanks at the front are no part of a word
pub words_after_blanks : (xs : List ℕ) (n : ℕ) → n ≡ prefix_len blank xs → words xs ≡ words (drop n xs)
words_after_blanks [] n e = rw e
words_after_blanks (c ∷ cs) n e =
    ⊎_elim
    (λ q.
    let m : ℕ = prefix_len blank cs in
    let more : n ≡ 1 + m = rw q at e in
    let next : n ≡ suc m = omega arith in
    words_after_blank c cs q ∙ words_after_blanks cs m refl ∙ rw next)
    (λ q. let none : n ≡ 0 = rw q at e in rw none)
    (cases_Bool (blank c))

filled_take : (n c : ℕ) (cs : List ℕ) → 0 < n → filled (take n (c ∷ cs)) ≡ true
filled_take zero c cs h = absurd (omega arith)
filled_take (suc n) c cs h = refl

pub words_first : (xs : List ℕ) (n : ℕ) → n ≡ prefix_len (other blank) xs → 0 < n → words xs ≡ take n xs ∷ words (drop n xs)
unfolding words
words_first [] n e h = absurd (omega arith)
words_first (c ∷ cs) n e h =
    let xs : List ℕ = c ∷ cs in
    let at_most = prefix_len-le-length (other blank) xs in
    ⊎_elim
    (λ (inside : n < length xs).
    let ends : blank (get_or xs n 0) ≡ true = rw e (not-false _ (leading_ends (other blank) xs (omega arith))) in
    let rest : words (drop n xs) ≡ words (drop (n + 1) xs) = ap words (drop_more xs n 0 inside) ∙ words_after_blank (get_or xs n 0) (drop (n + 1) xs) ends in
    ap (filter filled) (pieces_first blank xs n e inside)
    ∙ cond-true (filled (take n xs)) _ _ (filled_take n c cs h)
    ∙ ap (λ ws. take n xs ∷ ws) (sym rest))
    (λ (whole : length xs ≤ n). rw (take_all n xs whole, drop_all n xs whole) (ap (filter filled) (pieces_last blank xs (omega arith) (omega arith))))
    (cases_lt n (length xs))

word_starts : (ys : List ℕ) → 0 < length ys → blank (get_or ys 0 0) ≡ false → 0 < prefix_len (other blank) ys
word_starts [] h q = absurd (omega arith)
word_starts (c ∷ cs) h q =
    let more : prefix_len (other blank) (c ∷ cs) ≡ 1 + prefix_len (other blank) cs = cond-true (other blank c) _ _ (ap not q) in
    omega arith

-- what skipping the blanks at the front leaves
module _ (xs start : List ℕ) (skipped : start ≡ drop (prefix_len blank xs) xs) where
  same_words : words xs ≡ words start
  same_words = words_after_blanks xs (prefix_len blank xs) refl ∙ ap words (sym skipped)

  pub no_word : length start ≡ 0 → words xs ≡ []
  unfolding words
  no_word e = same_words ∙ ap words (nil_from_length start e)

  pub word_first : (n : ℕ) → 0 < length start → n ≡ prefix_len (other blank) start → words xs ≡ take n start ∷ words (drop n start)
  word_first n some e =
      let k : ℕ = prefix_len blank xs in
      let left = ap length skipped ∙ length-drop k xs in
      let at : get_or start 0 0 ≡ get_or xs k 0 = ap (λ l. get_or l 0 0) skipped ∙ get_or-drop k xs 0 0 ∙ ap (λ i. get_or xs i 0) (add-zero k) in
      let begins : blank (get_or start 0 0) ≡ false = ap blank at ∙ leading_ends blank xs (omega arith) in
      let more = word_starts start some begins in
      same_words ∙ words_first start n e (omega arith)

pub words_few : (xs : List ℕ) → length (words xs) ≤ length xs
unfolding words
words_few xs = omega (arith, pieces_few blank xs, length-filter filled (pieces blank xs), count_by-le-length filled (pieces blank xs))
