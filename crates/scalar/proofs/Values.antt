-- Values of binary32 that are known as fractions with a sign: what the operations and comparisons make of them.
-- `HasValue x s a c` says that x is finite, its sign bit is s, and its size is a / c.
use Rattle.std.proofs.Common.{◌≡◌, ℕ, suc, ◌+◌, ◌-◌, ◌*◌, ◌/◌, ◌%◌, ◌^◌, ◌<◌, ◌≤◌, Bool, true, false, cond, not, ◌&&◌, ◌||◌, T, eqb, ltb, leb, sym, refl, ap, ◌∙◌, inl, inr, true≢false, mul-le-mul_right, mul_comm, eq-zero-or-pos, lt_of_mul-lt-mul_right, mul-lt-mul_of_pos_right, mul-pos, mul_right_comm, le_of_mul-le-mul_right, mul-div_cancel, arith, eqb→eq, lt→ltb}
use mathlib.Core.Path.{subst⁻¹}
use mathlib.Core.Bool.{beq}
use native.Mathlib.Nat.{eq_of_mul-eq-mul_right, mul-mul-mul_comm, mul-sub}
use lib.Ieee.{Float, nan, inf, fin, binary32, up, down, unlike, size, round, sum, neg, add, sub, mul, div, below, level, lt, le, eq, fits, is_nan, to_bits, of_bits, of_fields, odd}
use lib.Ieee.Fits.{down_pos, and_l}
use lib.Ieee.Bits.{of_bits-to_bits}
use lib.Ieee.Exact.{HasValue, odd_sign}
use lib.Ieee.Order.{le_of_values}
use lib.Ieee.Scale.{round_same}
use Rattle.std.proofs.lemmas.Bool.{cases_lt, cases_eq, lt-ltb, le-ltb, lt-leb, ne_eqb, eq-eqb}
use Rattle.scalar.specs.Single.{plus, minus, times, over, zero, half, one, two, largest, Number}
use Rattle.scalar.proofs.Order.{le_of_not_lt, zero_number}

pub value_number : (x : Float) (s : Bool) (a c : ℕ) → HasValue x s a c → Number x
unfolding is_nan
value_number nan s a c v = absurd v
value_number (inf t) s a c v = absurd v
value_number (fin t m e) s a c v = tt

-- the same value as another fraction
pub value_as : (x : Float) (s : Bool) (a c b d : ℕ) → 0 < c → a * d ≡ b * c → HasValue x s a c → HasValue x s b d
value_as nan s a c b d C h v = v
value_as (inf t) s a c b d C h v = v
value_as (fin t m e) s a c b d C h v = (
  v.0,
  eq_of_mul-eq-mul_right c C (m * up e * d) (b * down e)
      (mul_right_comm (m * up e) d c
      ∙ ap (λ (x : ℕ). x * d) v.1
      ∙ mul_right_comm a (down e) d
      ∙ ap (λ (x : ℕ). x * down e) h
      ∙ mul_right_comm b c (down e)),
)

-- ---- the constants
pub zero_value : HasValue zero false 0 1
unfolding of_bits
zero_value = (refl, refl)

pub half_value : HasValue half false 1 2
unfolding of_bits
half_value = (refl, refl)

pub one_value : HasValue one false 1 1
unfolding of_bits
one_value = (refl, refl)

pub two_value : HasValue two false 2 1
unfolding of_bits
two_value = (refl, refl)

pub largest_value : HasValue largest false (16777215 * 2 ^ 104) 1
unfolding of_bits
largest_value = (refl, refl)

pub lowest_value : HasValue (neg largest) true (16777215 * 2 ^ 104) 1
unfolding of_bits neg
lowest_value = (refl, refl)

-- what equals zero is a zero of either sign
pub value_of_zero : (x : Float) → T (eq x zero) → (s : Bool) × HasValue x s 0 1
unfolding eq of_bits
value_of_zero nan h = absurd h
value_of_zero (inf s) h = absurd h
value_of_zero (fin s m e) h =
    let z : m * up e * 1 ≡ 0 * 1 * down e = eqb→eq (m * up e * 1) (0 * 1 * down e) (and_l _ (beq s false || eqb (m * up e * 1) 0) h) in
    (s, (refl, omega arith))

-- ---- patterns of bits

-- a value that is not negative is determined by its number of units of 2 ^ -149
bits_of_units : (x : Float) (q : ℕ) → HasValue x false q (2 ^ 149) → to_bits binary32 x ≡ 0 + (size q - 24) * 2 ^ 23 + q / 2 ^ (size q - 24)
unfolding to_bits
bits_of_units nan q v = absurd v
bits_of_units (inf s) q v = absurd v
bits_of_units (fin true m e) q v = absurd (true≢false v.0)
bits_of_units (fin false m e) q v =
    ap (λ (n : ℕ). 0 + (size n - 24) * 2 ^ 23 + n / 2 ^ (size n - 24)) (ap (λ (z : ℕ). z / down e) v.1 ∙ mul-div_cancel q (down_pos e))

pub same_units : (x y : Float) (q : ℕ) → T (fits binary32 x) → T (fits binary32 y) → HasValue x false q (2 ^ 149) → HasValue y false q (2 ^ 149) → x ≡ y
same_units x y q f g v w =
    sym (of_bits-to_bits binary32 x f) ∙ ap (λ (b : ℕ). of_bits binary32 b) (bits_of_units x q v ∙ sym (bits_of_units y q w)) ∙ of_bits-to_bits binary32 y g

-- a normal value by its pattern: the exponent's field suc x and the digits t below the leading one
fields_value : (s : Bool) (x t : ℕ) → s ≡ false → suc x < 255 → HasValue (of_fields binary32 s (suc x) t) false ((2 ^ 23 + t) * 2 ^ x) (2 ^ 149)
unfolding of_fields
fields_value true x t e l = absurd (true≢false e)
fields_value false x t e l =
    subst⁻¹ (λ (b : Bool). HasValue (cond b (cond (eqb t 0) (inf false) nan) (odd 24 false (2 ^ 23 + t) x 149)) false ((2 ^ 23 + t) * 2 ^ x) (2 ^ 149))
    (ne_eqb (suc x) 255 (λ (e : suc x ≡ 255). omega arith))
    (odd_sign 24 false (2 ^ 23 + t) x 149)

pub pattern_value : (x t : ℕ) → suc x < 255 → t < 2 ^ 23 → HasValue (of_bits binary32 (suc x * 2 ^ 23 + t)) false ((2 ^ 23 + t) * 2 ^ x) (2 ^ 149)
unfolding of_bits
pattern_value x t l h =
    let b = suc x * 2 ^ 23 + t in
    let field : b % 2 ^ 31 / 2 ^ 23 ≡ suc x = omega arith in
    let digits : b % 2 ^ 23 ≡ t = omega arith in
    let sign : leb (2 ^ 31) b ≡ false = lt-leb (2 ^ 31) b (omega arith) in
    subst⁻¹ (λ (z : ℕ). HasValue (of_fields binary32 (leb (2 ^ 31) b) (b % 2 ^ 31 / 2 ^ 23) z) false ((2 ^ 23 + t) * 2 ^ x) (2 ^ 149)) digits
    (subst⁻¹ (λ (z : ℕ). HasValue (of_fields binary32 (leb (2 ^ 31) b) z t) false ((2 ^ 23 + t) * 2 ^ x) (2 ^ 149)) field
    (fields_value (leb (2 ^ 31) b) x t sign l))

-- ---- products and quotients
pub times_is : (x y : Float) (s t : Bool) (a c b d : ℕ) → 0 < c → 0 < d → HasValue x s a c → HasValue y t b d → times x y ≡ round binary32 (unlike s t) (a * b) (c * d)
unfolding mul
times_is nan y s t a c b d C D u v = absurd u
times_is (inf s') y s t a c b d C D u v = absurd u
times_is (fin s' m e) nan s t a c b d C D u v = absurd v
times_is (fin s' m e) (inf t') s t a c b d C D u v = absurd v
times_is (fin s' m e) (fin t' n g) s t a c b d C D u v =
    let N = m * up e * (n * up g) in
    let E = down e * down g in
    ap (λ (z : Bool). round binary32 (unlike z t') N E) u.0
    ∙ ap (λ (z : Bool). round binary32 (unlike s z) N E) v.0
    ∙ round_same binary32 (unlike s t) N E (a * b) (c * d) (mul-pos (down_pos e) (down_pos g)) (mul-pos C D)
    (mul-mul-mul_comm (m * up e) (n * up g) c d ∙ ap (λ (z : ℕ). z * (n * up g * d)) u.1 ∙ ap (λ (z : ℕ). a * down e * z) v.1 ∙ mul-mul-mul_comm a (down e) b (down g))

pub over_is : (x y : Float) (s t : Bool) (a c b d : ℕ) → 0 < c → 0 < d → 0 < b → HasValue x s a c → HasValue y t b d → over x y ≡ round binary32 (unlike s t) (a * d) (b * c)
unfolding div
over_is nan y s t a c b d C D B u v = absurd u
over_is (inf s') y s t a c b d C D B u v = absurd u
over_is (fin s' m e) nan s t a c b d C D B u v = absurd v
over_is (fin s' m e) (inf t') s t a c b d C D B u v = absurd v
over_is (fin s' m e) (fin t' n g) s t a c b d C D B u v =
    let N = m * up e * down g in
    let E = n * up g * down e in
    let some : n ≡ 0 → ⊥ = λ k. omega (arith, ap (λ (i : ℕ). i * up g * d) k, v.1, mul-pos B (down_pos g)) in
    let P : 0 < n * up g = elim (eq-zero-or-pos (n * up g)) [ inl k ↦ absurd (omega (arith, ap (λ (i : ℕ). i * d) k, v.1, mul-pos B (down_pos g))) | inr k ↦ k ] in
    ap (λ (w : Bool). cond w (cond (eqb m 0) nan (inf (unlike s' t'))) (round binary32 (unlike s' t') N E)) (ne_eqb n 0 some)
    ∙ ap (λ (w : Bool). round binary32 (unlike w t') N E) u.0
    ∙ ap (λ (w : Bool). round binary32 (unlike s w) N E) v.0
    ∙ round_same binary32 (unlike s t) N E (a * d) (b * c) (mul-pos P (down_pos e)) (mul-pos B C)
    (omega (arith, ap (λ (i : ℕ). i * (b * down g)) u.1, ap (λ (i : ℕ). i * (a * down e)) v.1))

-- ---- two fractions over one denominator, A / C and B / C, that are a / c and b / c too
module _ (A B C a b c : ℕ) (P : 0 < C) (Q : 0 < c) (h : A * c ≡ a * C) (k : B * c ≡ b * C) where
  ltb_same : ltb A B ≡ ltb a b
  ltb_same = elim (cases_lt a b) [
    | inr l ↦
        let m : B * c ≤ A * c = omega (arith, mul-le-mul_right C l) in
        le-ltb A B (le_of_mul-le-mul_right {k = c} m Q) ∙ sym (le-ltb a b l)
    | inl l ↦
        let m : A * c < B * c = omega (arith, mul-lt-mul_of_pos_right l P) in
        lt-ltb A B (lt_of_mul-lt-mul_right c m) ∙ sym (lt-ltb a b l)
  ]

  eqb_same : eqb A B ≡ eqb a b
  eqb_same = elim (cases_eq a b) [
    | inl e ↦ eq-eqb A B (eq_of_mul-eq-mul_right c Q A B (h ∙ ap (λ (z : ℕ). z * C) e ∙ sym k)) ∙ sym (eq-eqb a b e)
    | inr n ↦ ne_eqb A B (λ e. n (eq_of_mul-eq-mul_right C P a b (sym h ∙ ap (λ (z : ℕ). z * c) e ∙ k))) ∙ sym (ne_eqb a b n)
  ]

pub ltb_times : (a b K : ℕ) → 0 < K → ltb (a * K) (b * K) ≡ ltb a b
ltb_times a b K P = ltb_same (a * K) (b * K) K a b 1 P (omega arith) (omega arith) (omega arith)

pub sub_times : (a b c : ℕ) → (a - b) * c ≡ a * c - b * c
sub_times a b c = mul_comm (a - b) c ∙ mul-sub c a b ∙ ap (λ (z : ℕ). z - c * b) (mul_comm c a) ∙ ap (λ (z : ℕ). a * c - z) (mul_comm c b)

sub_same : (A B C a b c : ℕ) → A * c ≡ a * C → B * c ≡ b * C → (A - B) * c ≡ (a - b) * C
sub_same A B C a b c h k = sub_times A B c ∙ ap (λ (z : ℕ). z - B * c) h ∙ ap (λ (z : ℕ). a * C - z) k ∙ sym (sub_times a b C)

-- ---- sums and differences
sum_same : (s t : Bool) (A B C a b c : ℕ) → 0 < C → 0 < c → A * c ≡ a * C → B * c ≡ b * C → sum binary32 s A t B C ≡ sum binary32 s a t b c
unfolding sum
sum_same s t A B C a b c P Q h k =
    let e0 : round binary32 s (A + B) C ≡ round binary32 s (a + b) c = round_same binary32 s (A + B) C (a + b) c P Q (omega arith) in
    let e1 : round binary32 t (B - A) C ≡ round binary32 t (b - a) c = round_same binary32 t (B - A) C (b - a) c P Q (sub_same B A C b a c k h) in
    let e2 : round binary32 (s && ltb b a) (A - B) C ≡ round binary32 (s && ltb b a) (a - b) c = round_same binary32 (s && ltb b a) (A - B) C (a - b) c P Q (sub_same A B C a b c h k) in
    ap (λ (z : Bool). cond (beq s t) (round binary32 s (A + B) C) (cond z (round binary32 t (B - A) C) (round binary32 (s && ltb B A) (A - B) C))) (ltb_same A B C a b c P Q h k)
    ∙ ap (λ (z : Bool). cond (beq s t) (round binary32 s (A + B) C) (cond (ltb a b) (round binary32 t (B - A) C) (round binary32 (s && z) (A - B) C))) (ltb_same B A C b a c P Q k h)
    ∙ ap (λ (z : Float). cond (beq s t) z (cond (ltb a b) (round binary32 t (B - A) C) (round binary32 (s && ltb b a) (A - B) C))) e0
    ∙ ap (λ (z : Float). cond (beq s t) (round binary32 s (a + b) c) (cond (ltb a b) z (round binary32 (s && ltb b a) (A - B) C))) e1
    ∙ ap (λ (z : Float). cond (beq s t) (round binary32 s (a + b) c) (cond (ltb a b) (round binary32 t (b - a) c) z)) e2

pub plus_is : (x y : Float) (s t : Bool) (a b c : ℕ) → 0 < c → HasValue x s a c → HasValue y t b c → plus x y ≡ sum binary32 s a t b c
unfolding add
plus_is nan y s t a b c C u v = absurd u
plus_is (inf s') y s t a b c C u v = absurd u
plus_is (fin s' m e) nan s t a b c C u v = absurd v
plus_is (fin s' m e) (inf t') s t a b c C u v = absurd v
plus_is (fin s' m e) (fin t' n g) s t a b c C u v =
    let A = m * up e * down g in
    let B = n * up g * down e in
    let E = down e * down g in
    ap (λ (z : Bool). sum binary32 z A t' B E) u.0
    ∙ ap (λ (z : Bool). sum binary32 s A z B E) v.0
    ∙ sum_same s t A B E a b c (mul-pos (down_pos e) (down_pos g)) C (omega (arith, ap (λ (i : ℕ). i * down g) u.1)) (omega (arith, ap (λ (i : ℕ). i * down e) v.1))

neg_value : (y : Float) (t : Bool) (b c : ℕ) → HasValue y t b c → HasValue (neg y) (not t) b c
unfolding neg
neg_value nan t b c v = v
neg_value (inf s) t b c v = v
neg_value (fin s m e) t b c v = (ap not v.0, v.1)

pub minus_is : (x y : Float) (s t : Bool) (a b c : ℕ) → 0 < c → HasValue x s a c → HasValue y t b c → minus x y ≡ sum binary32 s a (not t) b c
unfolding sub
minus_is x y s t a b c C u v = plus_is x (neg y) s (not t) a b c C u (neg_value y t b c v)

-- ---- comparisons
below_same : (s t : Bool) (A B C a b c : ℕ) → 0 < C → 0 < c → A * c ≡ a * C → B * c ≡ b * C → below s A t B ≡ below s a t b
below_same false false A B C a b c P Q h k = ltb_same A B C a b c P Q h k
below_same false true A B C a b c P Q h k = refl
below_same true false A B C a b c P Q h k = ltb_same 0 (A + B) C 0 (a + b) c P Q (omega arith) (omega arith)
below_same true true A B C a b c P Q h k = ltb_same B A C b a c P Q k h

level_same : (s t : Bool) (A B C a b c : ℕ) → 0 < C → 0 < c → A * c ≡ a * C → B * c ≡ b * C → level s A t B ≡ level s a t b
level_same s t A B C a b c P Q h k =
    ap (λ (z : Bool). z && (beq s t || eqb A 0)) (eqb_same A B C a b c P Q h k)
    ∙ ap (λ (z : Bool). eqb a b && (beq s t || z)) (eqb_same A 0 C a 0 c P Q h (omega arith))

pub lt_is : (x y : Float) (s t : Bool) (a b c : ℕ) → 0 < c → HasValue x s a c → HasValue y t b c → lt x y ≡ below s a t b
unfolding lt
lt_is nan y s t a b c C u v = absurd u
lt_is (inf s') y s t a b c C u v = absurd u
lt_is (fin s' m e) nan s t a b c C u v = absurd v
lt_is (fin s' m e) (inf t') s t a b c C u v = absurd v
lt_is (fin s' m e) (fin t' n g) s t a b c C u v =
    let A = m * up e * down g in
    let B = n * up g * down e in
    ap (λ (z : Bool). below z A t' B) u.0
    ∙ ap (λ (z : Bool). below s A z B) v.0
    ∙ below_same s t A B (down e * down g) a b c (mul-pos (down_pos e) (down_pos g)) C (omega (arith, ap (λ (i : ℕ). i * down g) u.1)) (omega (arith, ap (λ (i : ℕ). i * down e) v.1))

pub eq_is : (x y : Float) (s t : Bool) (a b c : ℕ) → 0 < c → HasValue x s a c → HasValue y t b c → eq x y ≡ level s a t b
unfolding eq
eq_is nan y s t a b c C u v = absurd u
eq_is (inf s') y s t a b c C u v = absurd u
eq_is (fin s' m e) nan s t a b c C u v = absurd v
eq_is (fin s' m e) (inf t') s t a b c C u v = absurd v
eq_is (fin s' m e) (fin t' n g) s t a b c C u v =
    let A = m * up e * down g in
    let B = n * up g * down e in
    ap (λ (z : Bool). level z A t' B) u.0
    ∙ ap (λ (z : Bool). level s A z B) v.0
    ∙ level_same s t A B (down e * down g) a b c (mul-pos (down_pos e) (down_pos g)) C (omega (arith, ap (λ (i : ℕ). i * down g) u.1)) (omega (arith, ap (λ (i : ℕ). i * down e) v.1))

pub le_is : (x y : Float) (s t : Bool) (a b c : ℕ) → 0 < c → HasValue x s a c → HasValue y t b c → le x y ≡ below s a t b || level s a t b
unfolding le
le_is x y s t a b c C u v = ap (λ (z : Bool). z || eq x y) (lt_is x y s t a b c C u v) ∙ ap (λ (z : Bool). below s a t b || z) (eq_is x y s t a b c C u v)

-- a number that is not negative is above every one that is smaller or negative
pub lt_of_values : (x y : Float) (s : Bool) (a c b d : ℕ) → 0 < c → 0 < d → HasValue x s a c → HasValue y false b d → a * d < b * c → T (lt x y)
lt_of_values x y s a c b d C D u v h =
    subst⁻¹ T (lt_is x y s false (a * d) (b * c) (c * d) (mul-pos C D) (value_as x s a c (a * d) (c * d) C (omega arith) u) (value_as y false b d (b * c) (c * d) D (omega arith) v)) (by_sign s)
  where
    by_sign : (s : Bool) → T (below s (a * d) false (b * c))
    by_sign false = lt→ltb (a * d) (b * c) h
    by_sign true = lt→ltb 0 (a * d + b * c) (omega arith)

-- ---- against zero
pub zero_le_value : (x : Float) (a c : ℕ) → 0 < c → HasValue x false a c → T (le zero x)
zero_le_value x a c C u = le_of_values zero x 0 1 a c (omega arith) C zero_value u (omega arith)

pub zero_lt_value : (x : Float) (a c : ℕ) → 0 < c → 0 < a → HasValue x false a c → T (lt zero x)
zero_lt_value x a c C P u = lt_of_values zero x false 0 1 a c (omega arith) C zero_value u (omega arith)

zero_over : (c : ℕ) → HasValue zero false 0 c
zero_over c = value_as zero false 0 1 0 c (omega arith) (omega arith) zero_value

pub value_le_zero : (x : Float) (a c : ℕ) → 0 < c → HasValue x true a c → T (le x zero)
value_le_zero x a c C u = le_of_not_lt zero x zero_number (value_number x true a c u) (subst⁻¹ (λ (b : Bool). T (not b)) (lt_is zero x false true 0 a c C (zero_over c) u) tt)

pub value_lt_zero : (x : Float) (a c : ℕ) → 0 < c → 0 < a → HasValue x true a c → T (lt x zero)
value_lt_zero x a c C P u = subst⁻¹ T (lt_is x zero true false a 0 c C u (zero_over c)) (lt→ltb 0 (a + 0) (omega arith))
