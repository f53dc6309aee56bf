-- Shares and coordinates on one axis: on a rising axis a later share has the higher coordinate, on a falling one the lower.
use Rattle.std.proofs.Common.{◌≡◌, ℕ, ◌+◌, ◌-◌, ◌*◌, ◌<◌, ◌≤◌, ap, inl, inr, mul-le-mul_right, eq-zero-or-pos, mul-le-mul_left, zero-mul, arith}
use native.Mathlib.Nat.{mul-lt-mul_of_pos_left, le_of_mul-le-mul_left, lt_of_mul-lt-mul_left}
use native.Mathlib.Decide.{dec_le, dec_lt}
use Rattle.line.specs.Line.{Share, parts, NoLater, scaled_coordinate}

abbrev pub Before : Share → Share → Type 0
Before s r = s.gone * parts r < r.gone * parts s

-- ---- the order of shares

-- a / a' ≤ b / b' ≤ c / c', where b and b' are not both 0
pub fraction_trans : (a a' b b' c c' : ℕ) → 0 < b + b' → a * b' ≤ b * a' → b * c' ≤ c * b' → a * c' ≤ c * a'
fraction_trans a a' b b' c c' p h k = elim (eq-zero-or-pos b') [
  | inl z ↦
      let b-pos : 0 < b = omega arith in
      let none : b * c' ≤ 0 = omega (arith, ap (λ (i : ℕ). c * i) z) in
      let c'-zero : c' ≤ 0 = le_of_mul-le-mul_left {k = b} (omega arith) b-pos in
      let e : c' ≡ 0 = omega arith in
      omega (arith, ap (λ (i : ℕ). a * i) e)
  | inr b'-pos ↦ le_of_mul-le-mul_left {k = b'} (omega (arith, mul-le-mul_right c' h, mul-le-mul_right a' k)) b'-pos
]

pub no_later_trans : (s r q : Share) → NoLater s r → NoLater r q → NoLater s q
no_later_trans s r q h k = fraction_trans s.gone (parts s) r.gone (parts r) q.gone (parts q) (omega (arith, r.positive)) h k

pub no_later_refl : (s : Share) → NoLater s s
no_later_refl s = omega arith

pub zero_no_later : (s r : Share) → s.gone ≡ 0 → NoLater s r
zero_no_later s r z = omega (arith, ap (λ (i : ℕ). i * parts r) z, zero-mul (parts r))

-- what is no later than a share before 1 is before 1
pub before_target_no_later : (s r : Share) → NoLater s r → 0 < r.left → 0 < s.left
before_target_no_later s r h p = elim (eq-zero-or-pos s.left) [
  | inl z ↦ absurd (omega (arith, ap (λ (i : ℕ). r.gone * i) z, mul-lt-mul_of_pos_left {k = s.gone} p (omega (arith, s.positive))))
  | inr q ↦ q
]

pub cancel_parts_le : (s : Share) (a b : ℕ) → parts s * a ≤ parts s * b → a ≤ b
cancel_parts_le s a b h = le_of_mul-le-mul_left {k = parts s} h s.positive

pub cancel_parts_lt : (s : Share) (a b : ℕ) → parts s * a < parts s * b → a < b
cancel_parts_lt s a b h = lt_of_mul-lt-mul_left (parts s) h

-- ---- a rising axis

rearrange_le : (a b o t : ℕ) → a ≤ b → o ≤ t → b * o + a * t ≤ a * o + b * t
rearrange_le a b o t h k =
    let x = b - a in
    let y = t - o in
    let b-is : b ≡ a + x = omega arith in
    let t-is : t ≡ o + y = omega arith in
    rw (b-is, t-is) (omega arith)

rearrange_lt : (a b o t : ℕ) → a < b → o < t → b * o + a * t < a * o + b * t
rearrange_lt a b o t h k =
    let x = b - (a + 1) in
    let y = t - (o + 1) in
    let b-is : b ≡ a + 1 + x = omega arith in
    let t-is : t ≡ o + 1 + y = omega arith in
    rw (b-is, t-is) (omega arith)

module _ (s r : Share) (o t : ℕ) where
  rising_le : o ≤ t → NoLater s r → parts r * scaled_coordinate s o t ≤ parts s * scaled_coordinate r o t
  rising_le u h = omega (arith, rearrange_le (s.gone * r.left) (r.gone * s.left) o t (omega arith) u)

  rising_lt : o < t → Before s r → parts r * scaled_coordinate s o t < parts s * scaled_coordinate r o t
  rising_lt u h = omega (arith, rearrange_lt (s.gone * r.left) (r.gone * s.left) o t (omega arith) u)

-- at the share s the line is at or below F, and at r at or above it
pub rising_order : (s r : Share) (o t F : ℕ) → o < t → scaled_coordinate s o t ≤ parts s * F → parts r * F ≤ scaled_coordinate r o t → NoLater s r
rising_order s r o t F u a b = elim (dec_le (s.gone * parts r) (r.gone * parts s)) [
  | yes h ↦ h
  | no h ↦ absurd (omega (arith, rising_lt r s o t u (omega arith), mul-le-mul_left (parts r) a, mul-le-mul_left (parts s) b))
]

-- at s it is strictly below F
pub rising_before : (s r : Share) (o t F : ℕ) → o ≤ t → scaled_coordinate s o t < parts s * F → parts r * F ≤ scaled_coordinate r o t → Before s r
rising_before s r o t F u a b = elim (dec_lt (s.gone * parts r) (r.gone * parts s)) [
  | yes h ↦ h
  | no h ↦ absurd (omega (arith, rising_le r s o t u (omega arith), mul-lt-mul_of_pos_left {k = parts r} a r.positive, mul-le-mul_left (parts s) b))
]

-- at r it is strictly above F
rising_before_above : (s r : Share) (o t F : ℕ) → o ≤ t → scaled_coordinate s o t ≤ parts s * F → parts r * F < scaled_coordinate r o t → Before s r
rising_before_above s r o t F u a b = elim (dec_lt (s.gone * parts r) (r.gone * parts s)) [
  | yes h ↦ h
  | no h ↦ absurd (omega (arith, rising_le r s o t u (omega arith), mul-le-mul_left (parts r) a, mul-lt-mul_of_pos_left {k = parts s} b s.positive))
]

pub rising_stays_above : (s r : Share) (o t F : ℕ) → o ≤ t → NoLater s r → parts s * F ≤ scaled_coordinate s o t → parts r * F ≤ scaled_coordinate r o t
rising_stays_above s r o t F u h a = le_of_mul-le-mul_left {k = parts s} (omega (arith, rising_le s r o t u h, mul-le-mul_left (parts r) a)) s.positive

pub rising_was_below : (s r : Share) (o t F : ℕ) → o ≤ t → NoLater s r → scaled_coordinate r o t ≤ parts r * F → scaled_coordinate s o t ≤ parts s * F
rising_was_below s r o t F u h a = le_of_mul-le-mul_left {k = parts r} (omega (arith, rising_le s r o t u h, mul-le-mul_left (parts s) a)) r.positive

pub rising_above_start : (s : Share) (o t : ℕ) → o ≤ t → parts s * o ≤ scaled_coordinate s o t
rising_above_start s o t u = omega (arith, mul-le-mul_left s.gone u)

pub rising_below_end : (s : Share) (o t : ℕ) → o ≤ t → scaled_coordinate s o t ≤ parts s * t
rising_below_end s o t u = omega (arith, mul-le-mul_left s.left u)

-- ---- a falling axis rises on the way back, which has the reversed shares
reversed : Share → Share
reversed s = record { gone = s.left; left = s.gone; positive = omega (arith, s.positive) }

module _ (s r : Share) (o t F : ℕ) where
  pub falling_order : t < o → parts s * F ≤ scaled_coordinate s o t → scaled_coordinate r o t ≤ parts r * F → NoLater s r
  unfolding reversed
  falling_order u a b = omega (arith, rising_order (reversed r) (reversed s) t o F u (omega arith) (omega arith))

  pub falling_before : t ≤ o → parts s * F < scaled_coordinate s o t → scaled_coordinate r o t ≤ parts r * F → Before s r
  unfolding reversed
  falling_before u a b = omega (arith, rising_before_above (reversed r) (reversed s) t o F u (omega arith) (omega arith))

  pub falling_stays_below : t ≤ o → NoLater s r → scaled_coordinate s o t ≤ parts s * F → scaled_coordinate r o t ≤ parts r * F
  unfolding reversed
  falling_stays_below u h a = omega (arith, rising_was_below (reversed r) (reversed s) t o F u (omega arith) (omega arith))

  pub falling_was_above : t ≤ o → NoLater s r → parts r * F ≤ scaled_coordinate r o t → parts s * F ≤ scaled_coordinate s o t
  unfolding reversed
  falling_was_above u h a = omega (arith, rising_stays_above (reversed r) (reversed s) t o F u (omega arith) (omega arith))

pub falling_above_end : (s : Share) (o t : ℕ) → t ≤ o → parts s * t ≤ scaled_coordinate s o t
falling_above_end s o t u = omega (arith, mul-le-mul_left s.left u)

pub falling_below_start : (s : Share) (o t : ℕ) → t ≤ o → scaled_coordinate s o t ≤ parts s * o
falling_below_start s o t u = omega (arith, mul-le-mul_left s.gone u)
