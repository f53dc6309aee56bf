-- Signs: products and quotients of what is not below zero, negation and size.
use Rattle.std.proofs.Common.{◌≡◌, ℕ, zero, suc, ◌*◌, ◌<◌, Bool, true, false, cond, not, ◌||◌, T, eqb, ◌⊎◌, ℤ, pos, sym, refl, ap, ◌∙◌, inl, inr, true≢false, mul-pos, arith, eqb→eq, ltb→lt, lt→ltb}
use mathlib.Core.Path.{subst⁻¹}
use lib.Ieee.{Float, nan, inf, fin, binary32, unlike, up, down, round, neg, mul, div, lt, le, eq, is_nan, of_bits}
use lib.Ieee.Fits.{up_pos, down_pos, and_l}
use lib.Ieee.Order.{round_mono}
use lib.Ieee.Scale.{round_same}
use Rattle.std.specs.Float.{float_with_sign}
use Rattle.std.proofs.lemmas.Bool.Decides.{nat_tests}
use Rattle.std.proofs.lemmas.Bool.{ne_eqb}
use Rattle.scalar.specs.Single as Single
use Rattle.scalar.specs.Single.{times, over, Number, NotBelowZero}

-- ---- numbers from numbers
pub times_left_number : (x y : Float) → Number (times x y) → Number x
unfolding mul is_nan
times_left_number nan y n = n
times_left_number (inf s) y n = tt
times_left_number (fin s m e) y n = tt

pub times_right_number : (x y : Float) → Number (times x y) → Number y
unfolding mul is_nan
times_right_number nan nan n = n
times_right_number (inf s) nan n = n
times_right_number (fin s m e) nan n = n
times_right_number x (inf t) n = tt
times_right_number x (fin t k d) n = tt

pub over_right_number : (x y : Float) → Number (over x y) → Number y
unfolding div is_nan
over_right_number nan nan n = n
over_right_number (inf s) nan n = n
over_right_number (fin s m e) nan n = n
over_right_number x (inf t) n = tt
over_right_number x (fin t k d) n = tt

-- ---- what is not below zero has its sign clear, or is a zero
negative_is_zero : (s : Bool) (m : ℕ) (e : ℤ) → NotBelowZero (fin s m e) → s ≡ true → m ≡ 0
unfolding le of_bits
negative_is_zero false m e h k = absurd (true≢false (sym k))
negative_is_zero true zero e h k = refl
negative_is_zero true (suc m) e h k =
    let none : 0 * 1 * down e ≡ suc m * up e * 1 = eqb→eq (0 * 1 * down e) (suc m * up e * 1) (and_l _ (false || eqb (0 * 1 * down e) 0) h) in
    absurd (omega (arith, mul-pos {m = suc m} (omega arith) (up_pos e)))

negative_infinity : (s : Bool) → NotBelowZero (inf s) → s ≡ false
unfolding le of_bits
negative_infinity false h = refl
negative_infinity true h = absurd h

zero_not_below_zero : (s : Bool) → NotBelowZero (fin s 0 (pos 0))
unfolding le of_bits
zero_not_below_zero false = tt
zero_not_below_zero true = tt

round_zero : (s : Bool) → round binary32 s 0 1 ≡ fin s 0 (pos 0)
unfolding round
round_zero s = refl

round_not_below_zero : (s : Bool) (a c : ℕ) → 0 < c → (s ≡ true → a ≡ 0) → NotBelowZero (round binary32 s a c)
unfolding round of_bits
round_not_below_zero false a c C h = round_mono binary32 0 1 a c (omega arith) C (omega arith)
round_not_below_zero true a c C h =
    let z : a * 1 ≡ 0 * c = omega (arith, h refl) in
    subst⁻¹ NotBelowZero (round_same binary32 true a c 0 1 C (omega arith) z ∙ round_zero true) (zero_not_below_zero true)

one_negative : (s t : Bool) → unlike s t ≡ true → (s ≡ true) ⊎ (t ≡ true)
one_negative true t k = inl refl
one_negative false true k = inr refl
one_negative false false k = absurd (true≢false (sym k))

-- ---- products and quotients, where they are numbers
infinity_unless_zero : (n : ℕ) (s : Bool) → s ≡ false → Number (cond (eqb n 0) nan (inf s)) → NotBelowZero (cond (eqb n 0) nan (inf s))
unfolding le of_bits is_nan
infinity_unless_zero n true k h = absurd (true≢false k)
infinity_unless_zero n false k h = go (eqb n 0) h
  where
    go : (b : Bool) → Number (cond b nan (inf false)) → NotBelowZero (cond b nan (inf false))
    go true h = h
    go false h = tt

pub times_not_below_zero : (x y : Float) → NotBelowZero x → NotBelowZero y → Number (times x y) → NotBelowZero (times x y)
unfolding mul is_nan le of_bits
times_not_below_zero nan y h k n = absurd n
times_not_below_zero (inf s) nan h k n = absurd n
times_not_below_zero (inf true) (inf t) h k n = absurd h
times_not_below_zero (inf false) (inf true) h k n = absurd k
times_not_below_zero (inf false) (inf false) h k n = tt
times_not_below_zero (inf true) (fin t b d) h k n = absurd h
times_not_below_zero (inf false) (fin false b d) h k n = infinity_unless_zero b false refl n
times_not_below_zero (inf false) (fin true b d) h k n = subst⁻¹ (λ (m : ℕ). Number (cond (eqb m 0) nan (inf true)) → NotBelowZero (cond (eqb m 0) nan (inf true))) (negative_is_zero true b d k refl) (λ z. z) n
times_not_below_zero (fin s a e) nan h k n = absurd n
times_not_below_zero (fin s a e) (inf true) h k n = absurd k
times_not_below_zero (fin false a e) (inf false) h k n = infinity_unless_zero a false refl n
times_not_below_zero (fin true a e) (inf false) h k n = subst⁻¹ (λ (m : ℕ). Number (cond (eqb m 0) nan (inf true)) → NotBelowZero (cond (eqb m 0) nan (inf true))) (negative_is_zero true a e h refl) (λ z. z) n
times_not_below_zero (fin s a e) (fin t b d) h k n =
    round_not_below_zero (unlike s t) (a * up e * (b * up d)) (down e * down d) (mul-pos (down_pos e) (down_pos d)) (λ u. elim (one_negative s t u) [
      | inl p ↦ ap (λ (z : ℕ). z * up e * (b * up d)) (negative_is_zero s a e h p) ∙ omega arith
      | inr p ↦ ap (λ (z : ℕ). a * up e * (z * up d)) (negative_is_zero t b d k p) ∙ omega arith
    ])

-- a divisor above zero, since over -0 the sign turns
pub over_not_below_zero : (x y : Float) → NotBelowZero x → T (lt Single.zero y) → Number (over x y) → NotBelowZero (over x y)
unfolding div is_nan le lt of_bits
over_not_below_zero nan y h k n = absurd n
over_not_below_zero (inf s) nan h k n = absurd n
over_not_below_zero (inf s) (inf t) h k n = absurd n
over_not_below_zero (inf true) (fin t b d) h k n = absurd h
over_not_below_zero (inf false) (fin true b d) h k n = absurd k
over_not_below_zero (inf false) (fin false b d) h k n = tt
over_not_below_zero (fin s a e) nan h k n = absurd n
over_not_below_zero (fin s a e) (inf true) h k n = absurd k
over_not_below_zero (fin s a e) (inf false) h k n = zero_not_below_zero (unlike s false)
over_not_below_zero (fin s a e) (fin true b d) h k n = absurd k
over_not_below_zero (fin s a e) (fin false zero d) h k n = absurd (omega (arith, ltb→lt (0 * 1 * down d) (0 * up d * 1) k))
over_not_below_zero (fin s a e) (fin false (suc b) d) h k n =
    let N = a * up e * down d in
    let E = suc b * up d * down e in
    subst⁻¹ (λ (z : Bool). NotBelowZero (cond z (cond (eqb a 0) nan (inf (unlike s false))) (round binary32 (unlike s false) N E))) (ne_eqb (suc b) 0 (λ (z : suc b ≡ 0). omega arith))
    (round_not_below_zero (unlike s false) N E (mul-pos (mul-pos {m = suc b} (omega arith) (up_pos d)) (down_pos e)) (λ u. elim (one_negative s false u) [
      | inl p ↦ ap (λ (z : ℕ). z * up e * down d) (negative_is_zero s a e h p) ∙ omega arith
      | inr p ↦ absurd (true≢false (sym p))
    ]))

-- ---- negation and size
pub neg_not_below_zero : (x : Float) → T (le x Single.zero) → NotBelowZero (neg x)
unfolding neg le of_bits
neg_not_below_zero nan h = h
neg_not_below_zero (inf true) h = tt
neg_not_below_zero (inf false) h = h
neg_not_below_zero (fin false zero e) h = grind (arith, nat_tests)
neg_not_below_zero (fin false (suc m) e) h = grind (arith, nat_tests)
neg_not_below_zero (fin true m e) h = grind (arith, nat_tests)

pub size_above_zero : (x : Float) → Number x → T (not (eq x Single.zero)) → T (lt Single.zero (float_with_sign false x))
unfolding float_with_sign eq lt is_nan of_bits
size_above_zero nan n h = n
size_above_zero (inf s) n h = tt
size_above_zero (fin s zero e) n h = absurd (grind (arith, nat_tests))
size_above_zero (fin s (suc m) e) n h = lt→ltb (0 * 1 * down e) (suc m * up e * 1) (omega (arith, mul-pos {m = suc m} (omega arith) (up_pos e)))

size_number : (x : Float) → Number (float_with_sign false x) → Number x
unfolding float_with_sign is_nan
size_number nan n = n
size_number (inf s) n = tt
size_number (fin s m e) n = tt

-- a quotient by a size, where it is a number
pub over_size_not_below_zero : (x y : Float) → NotBelowZero x → T (not (eq y Single.zero)) → Number (over x (float_with_sign false y)) → NotBelowZero (over x (float_with_sign false y))
over_size_not_below_zero x y h k n = over_not_below_zero x (float_with_sign false y) h (size_above_zero y (size_number y (over_right_number x (float_with_sign false y) n)) k) n
