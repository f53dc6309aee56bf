-- The test that certifies an estimate of a root: where s * s - s < n ≤ s * s + s, no other value is as near to the root of n as s, so s gives std's root.
use Rattle.std.proofs.Common.{◌≡◌, ℕ, suc, ◌+◌, ◌-◌, ◌*◌, ◌/◌, ◌%◌, ◌^◌, ◌<◌, ◌≤◌, true, false, ◌||◌, T, eqb, ℤ, sym, refl, ap, ◌∙◌, subst, inl, inr, true≢false, le_trans, mul-le-mul_right, mul_assoc, mul-le-mul, lt_of_mul-lt-mul_right, mul-le-mul_left, mul-pos, arith, eqb→eq, pow_pos, pow-add}
use lib.Ieee.{Float, nan, inf, fin, binary32, up, down, fits, to_bits, of_bits, odd, le, root_twice}
use lib.Ieee.Fits.{up_pos, down_pos, round-fits, and_l}
use lib.Ieee.Order.{le_of_values}
use lib.Ieee.Bits.{of_bits-to_bits, of_bits-fits}
use lib.Ieee.Exact.{HasValue}
use Rattle.std.proofs.lemmas.Bool.{cases_lt, cases_eq, cases_order}
use Rattle.std.specs.Float.{sqrt}
use Rattle.scalar.specs.Root.{NearestRoot}
use Rattle.scalar.specs.Scaled.{Scaled}
use Rattle.scalar.specs.Single.{zero, NotBelowZero}
use Rattle.scalar.proofs.Rounding.{multiple}
use Rattle.scalar.proofs.NearestRoot.{Digits, value_digits, root_nearest, zero_exponent}
use Rattle.scalar.proofs.Values.{same_units, pattern_value}

-- ---- the test. V is 2 ^ k, s * V the units that the estimate gives, u those of the nearest root; the sum u + s * V is twice their middle
module _ (n V c w z : ℕ) where
  not_above : w * w ≤ 4 * n → z ≤ w * V → 4 * (n * (V * V) * c) < z * z * c → ⊥
  not_above a b h =
      let x : 4 * (n * (V * V)) < z * z = lt_of_mul-lt-mul_right c (omega arith) in
      omega (arith, mul-le-mul b b, mul-le-mul_right (V * V) a)

  not_below : 4 * n ≤ w * w → w * V ≤ z → z * z * c < 4 * (n * (V * V) * c) → ⊥
  not_below a b h =
      let x : z * z < 4 * (n * (V * V)) = lt_of_mul-lt-mul_right c (omega arith) in
      omega (arith, mul-le-mul b b, mul-le-mul_right (V * V) a)

module _ (n s k c u : ℕ) (n-least : 2 ^ 46 ≤ n) (s-least : 2 ^ 23 ≤ s) (under : s * s < n + s) (over : n ≤ s * s + s) (d : Digits u) where
  -- from 2 ^ 23 * V on, a value is a multiple of V
  as_multiple : 2 ^ 23 * 2 ^ k ≤ u → (b : ℕ) × (u ≡ b * 2 ^ k)
  as_multiple h =
      let m = multiple 24 d.digits d.shift k (omega arith) d.few (omega (arith, pow-add 2 23 k, d.is)) in
      (m.0, d.is ∙ m.1)

  sum_above : (b V : ℕ) → u ≡ b * V → s * V < u → (2 * s + 1) * V ≤ u + s * V
  sum_above b V e h =
      let l : s < b = lt_of_mul-lt-mul_right V (subst (λ (z : ℕ). s * V < z) e h) in
      omega (arith, mul-le-mul_right {m = s + 1} {n = b} V (omega arith))

  sum_below : (b V : ℕ) → u ≡ b * V → u < s * V → u + s * V ≤ (2 * s - 1) * V
  sum_below b V e h =
      let l : b < s = lt_of_mul-lt-mul_right V (subst (λ (z : ℕ). z < s * V) e h) in
      omega (arith, mul-le-mul_right {m = b + s} {n = 2 * s - 1} V (omega arith))

  root_not_above : s * 2 ^ k < u → (u + s * 2 ^ k) * (u + s * 2 ^ k) * c < 4 * (n * (2 ^ k * 2 ^ k) * c) → ⊥
  root_not_above l h =
      let m = as_multiple (omega (arith, mul-le-mul_right (2 ^ k) s-least)) in
      not_below n (2 ^ k) c (2 * s + 1) (u + s * 2 ^ k) (omega arith) (sum_above m.0 (2 ^ k) m.1 l) h

  square_below : (2 * s - 1) * (2 * s - 1) ≤ 4 * n
  square_below =
      let t : ℕ = s - 1 in
      let e : s ≡ t + 1 = omega arith in
      let f : 2 * s - 1 ≡ 2 * t + 1 = omega arith in
      rw f (omega (arith, subst (λ (z : ℕ). z * z < n + z) e under))

  root_not_below : u < s * 2 ^ k → 4 * (n * (2 ^ k * 2 ^ k) * c) < (u + s * 2 ^ k) * (u + s * 2 ^ k) * c → ⊥
  root_not_below l h = elim (cases_lt u (2 ^ 23 * 2 ^ k)) [
    | inr many ↦
        let m = as_multiple many in
        not_above n (2 ^ k) c (2 * s - 1) (u + s * 2 ^ k) square_below (sum_below m.0 (2 ^ k) m.1 l) h
    | inl few ↦ elim (cases_eq s (2 ^ 23)) [
      | inl same ↦ not_above n (2 ^ k) c (2 ^ 24) (u + s * 2 ^ k) (omega arith) (omega (arith, ap (λ (y : ℕ). y * 2 ^ k) same)) h
      | inr more ↦ not_above n (2 ^ k) c (2 * s - 1) (u + s * 2 ^ k) square_below (omega (arith, mul-le-mul_right {m = 2 ^ 23 + s} {n = 2 * s - 1} (2 ^ k) (omega arith))) h
    ]
  ]

-- ---- an estimate that passes gives the nearest root
root_fits : (m : ℕ) (e : ℤ) → T (fits binary32 (sqrt binary32 (fin false (suc m) e)))
unfolding sqrt
root_fits m e = round-fits binary32 false (root_twice (suc m * up e * 2 ^ 4542 / down e)) (2 ^ 2272)

nearest_root_is : (a c n s k : ℕ) (r y : Float) → T (fits binary32 r) → T (fits binary32 y) → NearestRoot a c r → HasValue y false (s * 2 ^ k) (2 ^ 149)
    → a * 2 ^ 300 ≡ 4 * (n * (2 ^ k * 2 ^ k) * c) → 2 ^ 46 ≤ n → 2 ^ 23 ≤ s → s * s < n + s → n ≤ s * s + s → y ≡ r
nearest_root_is a c n s k r y fr fy root v e n-least s-least under over =
    let u : ℕ = root.units in
    let q : ℕ = s * 2 ^ k in
    let d = value_digits r u fr root.value in
    let same : u ≡ q = elim (cases_order u q) [
      | inl same ↦ same
      | inr (inl l) ↦ absurd (root_not_below n s k c u n-least s-least under over d l (subst (λ (z : ℕ). z < (u + q) * (u + q) * c) e (root.above y q fy v l)))
      | inr (inr l) ↦ absurd (root_not_above n s k c u n-least s-least under over d l (subst (λ (z : ℕ). (u + q) * (u + q) * c < z) e (root.below y q fy v l)))
    ] in
    same_units y r q fy fr v (subst (λ (z : ℕ). HasValue r false z (2 ^ 149)) same root.value)

-- the pattern k * 2 ^ 23 + s is s * 2 ^ k units, as the leading digit of s adds one to the exponent's field
estimate_value : (k s : ℕ) → k ≤ 189 → 2 ^ 23 ≤ s → s < 2 ^ 24 → HasValue (of_bits binary32 (k * 2 ^ 23 + s)) false (s * 2 ^ k) (2 ^ 149)
estimate_value k s h l u =
    let b : suc k * 2 ^ 23 + (s - 2 ^ 23) ≡ k * 2 ^ 23 + s = omega arith in
    let t : 2 ^ 23 + (s - 2 ^ 23) ≡ s = omega arith in
    subst (λ (z : ℕ). HasValue (of_bits binary32 z) false (s * 2 ^ k) (2 ^ 149)) b
    (subst (λ (z : ℕ). HasValue (of_bits binary32 (suc k * 2 ^ 23 + (s - 2 ^ 23))) false (z * 2 ^ k) (2 ^ 149)) t (pattern_value k (s - 2 ^ 23) (omega arith) (omega arith)))

at_scale : (a n K V c : ℕ) → a * 2 ^ 298 ≡ n * K * c → K ≡ V * V → a * 2 ^ 300 ≡ 4 * (n * (V * V) * c)
at_scale a n K V c e f = let g : n * K * c ≡ n * (V * V) * c = ap (λ (z : ℕ). n * z * c) f in omega arith

pub estimate_is_root : (x : Float) (n k s : ℕ) → T (fits binary32 x) → Scaled x n k → 2 ^ 23 ≤ s → s < 2 ^ 24 → s * s < n + s → n ≤ s * s + s
    → of_bits binary32 (k * 2 ^ 23 + s) ≡ sqrt binary32 x
estimate_is_root nan n k s f h l u under over = absurd h.value
estimate_is_root (inf t) n k s f h l u under over = absurd h.value
estimate_is_root (fin true m e) n k s f h l u under over = absurd (true≢false h.value.0)
estimate_is_root (fin false ℕ.zero e) n k s f h l u under over =
    absurd (none (n * 2 ^ (k + k) * down e) (mul-pos (mul-pos (le_trans (omega arith) h.least) (pow_pos (k + k))) (down_pos e)) (sym h.value.1 ∙ omega arith))
  where
    none : (z : ℕ) → 0 < z → z ≡ 0 → ⊥
    none z p e = omega arith
estimate_is_root (fin false (suc m) e) n k s f h l u under over =
    nearest_root_is (suc m * up e) (down e) n s k (sqrt binary32 (fin false (suc m) e)) (of_bits binary32 (k * 2 ^ 23 + s)) (root_fits m e) (of_bits-fits binary32 (k * 2 ^ 23 + s))
    (root_nearest m e f) (estimate_value k s h.small l u) (at_scale (suc m * up e) n (2 ^ (k + k)) (2 ^ k) (down e) h.value.1 (pow-add 2 k k)) h.least l under over

-- ---- a normal value, scaled by an even power of two
finer : (x : Float) (a b : ℕ) → HasValue x false a (2 ^ 149) → b ≡ a * 2 ^ 149 → HasValue x false b (2 ^ 298)
finer nan a b v e = v
finer (inf s) a b v e = v
finer (fin s m d) a b v e = (v.0, omega (arith, v.1, ap (λ (z : ℕ). z * down d) e))

powers_moved : (M d k x : ℕ) → d + (k + k) ≡ x + 149 → M * 2 ^ d * 2 ^ (k + k) ≡ M * 2 ^ x * 2 ^ 149
powers_moved M d k x e =
    mul_assoc M (2 ^ d) (2 ^ (k + k)) ∙ ap (λ (z : ℕ). M * z) (sym (pow-add 2 d (k + k)) ∙ ap (λ (z : ℕ). 2 ^ z) e ∙ pow-add 2 x 149) ∙ sym (mul_assoc M (2 ^ x) (2 ^ 149))

-- b is x's pattern: the exponent's field b / 2 ^ 23 is neither 0 nor 255
module _ (x : Float) (b : ℕ) (f : T (fits binary32 x)) (e : b ≡ to_bits binary32 x) (least : 2 ^ 23 ≤ b) (most : b < 255 * 2 ^ 23) where
  scaled_value : (d k : ℕ) → d + (k + k) ≡ b / 2 ^ 23 + 148 → HasValue x false ((b % 2 ^ 23 + 2 ^ 23) * 2 ^ d * 2 ^ (k + k)) (2 ^ 298)
  scaled_value d k p =
      let y : ℕ = b / 2 ^ 23 - 1 in
      let t : ℕ = b % 2 ^ 23 in
      let is : suc y * 2 ^ 23 + t ≡ b = omega arith in
      let v : HasValue x false ((2 ^ 23 + t) * 2 ^ y) (2 ^ 149) =
      subst (λ (z : Float). HasValue z false ((2 ^ 23 + t) * 2 ^ y) (2 ^ 149)) (ap (λ (z : ℕ). of_bits binary32 z) (is ∙ e) ∙ of_bits-to_bits binary32 x f)
      (pattern_value y t (omega arith) (omega arith)) in
      finer x ((2 ^ 23 + t) * 2 ^ y) ((t + 2 ^ 23) * 2 ^ d * 2 ^ (k + k)) v
      (ap (λ (z : ℕ). z * 2 ^ d * 2 ^ (k + k)) {x = t + 2 ^ 23} {y = 2 ^ 23 + t} (omega arith) ∙ powers_moved (2 ^ 23 + t) d k y (omega arith))

  digits_48 : (y z : ℕ) → y < 2 ^ 24 → z ≤ 2 ^ 24 → 0 < z → y * z < 2 ^ 48
  digits_48 y z u v p = omega (arith, mul-le-mul_left y v)

  scaled_by : (d k : ℕ) → 2 ^ 23 ≤ 2 ^ d → 2 ^ d ≤ 2 ^ 24 → k ≤ 189 → d + (k + k) ≡ b / 2 ^ 23 + 148 → Scaled x ((b % 2 ^ 23 + 2 ^ 23) * 2 ^ d) k
  scaled_by d k lo hi s q = record {
    least = mul-le-mul {n₁ = 2 ^ 23} {m₁ = 2 ^ 23} (omega arith) lo;
    most = digits_48 (b % 2 ^ 23 + 2 ^ 23) (2 ^ d) (omega arith) hi (pow_pos d);
    small = s;
    value = scaled_value d k q;
  }

  pub normal_scaled : Scaled x ((b % 2 ^ 23 + 2 ^ 23) * (2 ^ 24 - b / 2 ^ 23 % 2 * 2 ^ 23)) ((b / 2 ^ 23 + 1) / 2 + 62)
  normal_scaled =
      let k : ℕ = (b / 2 ^ 23 + 1) / 2 + 62 in
      let F : ℕ → Type 0 = λ z. Scaled x ((b % 2 ^ 23 + 2 ^ 23) * z) k in
      elim (cases_eq (b / 2 ^ 23 % 2) 0) [
        | inl even ↦ subst F {x = 2 ^ 24} (omega arith) (scaled_by 24 k (omega arith) (omega arith) (omega arith) (omega arith))
        | inr odd ↦ subst F {x = 2 ^ 23} (omega arith) (scaled_by 23 k (omega arith) (omega arith) (omega arith) (omega arith))
      ]

-- ---- the root of what is not below zero
pub root_not_below_zero : (x : Float) → T (fits binary32 x) → NotBelowZero x → NotBelowZero (sqrt binary32 x)
unfolding sqrt le of_bits
root_not_below_zero nan f h = absurd h
root_not_below_zero (inf false) f h = tt
root_not_below_zero (inf true) f h = absurd h
root_not_below_zero (fin s ℕ.zero e) f h = subst (λ (z : ℤ). NotBelowZero (fin s 0 z)) (zero_exponent s e f) h
root_not_below_zero (fin true (suc m) e) f h =
    let none : 0 * 1 * down e ≡ suc m * up e * 1 = eqb→eq (0 * 1 * down e) (suc m * up e * 1) (and_l _ (false || eqb (0 * 1 * down e) 0) h) in
    absurd (omega (arith, mul-pos {m = suc m} (omega arith) (up_pos e)))
root_not_below_zero (fin false (suc m) e) f h =
    let r = root_nearest m e f in
    le_of_values zero (sqrt binary32 (fin false (suc m) e)) 0 1 r.units (2 ^ 149) (omega arith) (pow_pos 149) (refl, refl) r.value (omega arith)
