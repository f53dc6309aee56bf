-- The first piece of a text and the pieces after it.
use Rattle.std.proofs.Common.{◌≡◌, ℕ, suc, ◌+◌, ◌<◌, ◌≤◌, Bool, List, [], ◌∷◌, length, take, drop, refl, ap, ◌∙◌, ⊎_elim, arith}
use Rattle.std.specs.List.{prefix_len}
use Rattle.std.proofs.lemmas.Bool.{cases_Bool, cond-true, cond-false, cond_both}
use Rattle.setup.specs.Grammar.{other, newline, before, pieces, lines}

pub pieces_first : (p : ℕ → Bool) (xs : List ℕ) (n : ℕ) → n ≡ prefix_len (other p) xs → n < length xs → pieces p xs ≡ take n xs ∷ pieces p (drop (n + 1) xs)
pieces_first p [] n e h = absurd (omega arith)
pieces_first p (c ∷ cs) n e h =
    ⊎_elim
    (λ q. let none : n ≡ 0 = rw q at e in cond-true (p c) _ _ q ∙ rw none)
    (λ q.
    let m : ℕ = prefix_len (other p) cs in
    let more : n ≡ 1 + m = rw q at e in
    let next : n ≡ suc m = omega arith in
    let past : n + 1 ≡ suc (m + 1) = omega arith in
    cond-false (p c) _ _ q ∙ ap (before c) (pieces_first p cs m refl (omega arith)) ∙ rw (past, next))
    (cases_Bool (p c))

pub pieces_last : (p : ℕ → Bool) (xs : List ℕ) → length xs ≡ prefix_len (other p) xs → 0 < length xs → pieces p xs ≡ xs ∷ []
pieces_last p [] e h = absurd (omega arith)
pieces_last p (c ∷ []) e h =
    ⊎_elim
    (λ q. let none : ◌≡◌ {A = ℕ} 1 0 = rw q at e in absurd (omega arith))
    (λ q. cond-false (p c) _ _ q)
    (cases_Bool (p c))
pieces_last p (c ∷ d ∷ cs) e h =
    ⊎_elim
    (λ q. let none : length (c ∷ d ∷ cs) ≡ 0 = rw q at e in absurd (omega arith))
    (λ q.
    let more : length (c ∷ d ∷ cs) ≡ 1 + prefix_len (other p) (d ∷ cs) = rw q at e in
    cond-false (p c) _ _ q ∙ ap (before c) (pieces_last p (d ∷ cs) (omega arith) (omega arith)))
    (cases_Bool (p c))

before_few : (c : ℕ) (ws : List (List ℕ)) (n : ℕ) → length ws ≤ n → length (before c ws) ≤ n + 1
before_few c [] n h = omega arith
before_few c (w ∷ ws) n h = omega arith

pub pieces_few : (p : ℕ → Bool) (xs : List ℕ) → length (pieces p xs) ≤ length xs
pieces_few p [] = omega arith
pieces_few p (c ∷ cs) =
    let rest = pieces_few p cs in
    let joined = before_few c (pieces p cs) (length cs) rest in
    cond_both (p c) ([] ∷ pieces p cs) (before c (pieces p cs)) (λ ws. length ws ≤ length (c ∷ cs)) (λ q. omega arith) (λ q. omega arith)

pub lines_few : (text : List ℕ) → length (lines text) ≤ length text
unfolding lines
lines_few text = pieces_few newline text
