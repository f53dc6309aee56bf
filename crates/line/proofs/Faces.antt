-- The near and the far faces of a cell: when the line reaches them, and that a crossed cell is open.
use Rattle.std.proofs.Common.{◌≡◌, ℕ, ◌+◌, ◌-◌, ◌*◌, ◌<◌, ◌≤◌, cond, ap, mul-le-mul_right, mul-le-mul_left, mul-lt-mul_of_pos_right, arith, le-ltb, lt-ltb}
use native.Mathlib.Nat.{lt_of_mul-lt-mul_left}
use native.Mathlib.Decide.{dec_lt, dec_le}
use Rattle.line.specs.Line.{Point, Cell, coordinate, index, Share, parts, scaled_coordinate, Within, StrictlyWithin, Crosses}
use Rattle.line.specs.Faces.{span, near_distance, far_distance, span_on, near_on, far_on, Open}
use Rattle.line.proofs.Shares.{cancel_parts_lt}

-- ---- the distances, by direction
pub near_rising : (o t k : ℕ) → o < t → near_distance o t k ≡ 128 * k - o
unfolding near_distance
near_rising o t k u = ap (λ b. cond b (128 * k - o) (o - (128 * k + 128))) (lt-ltb o t u)

pub near_falling : (o t k : ℕ) → t < o → near_distance o t k ≡ o - (128 * k + 128)
unfolding near_distance
near_falling o t k u = ap (λ b. cond b (128 * k - o) (o - (128 * k + 128))) (le-ltb o t (omega arith))

pub far_rising : (o t k : ℕ) → o < t → far_distance o t k ≡ 128 * k + 128 - o
unfolding far_distance
far_rising o t k u = ap (λ b. cond b (128 * k + 128 - o) (o - 128 * k)) (lt-ltb o t u)

pub far_falling : (o t k : ℕ) → t < o → far_distance o t k ≡ o - 128 * k
unfolding far_distance
far_falling o t k u = ap (λ b. cond b (128 * k + 128 - o) (o - 128 * k)) (le-ltb o t (omega arith))

-- ---- a face at F, at the distance n from o: the line is past it where the part of the span that is gone is more than n

-- the coordinate at the share s on a rising and on a falling axis
rising_coordinate : (s : Share) (o t : ℕ) → o ≤ t → scaled_coordinate s o t ≡ parts s * o + s.gone * (t - o)
rising_coordinate s o t u =
    let d = t - o in
    let t-is : t ≡ o + d = omega arith in
    omega (arith, ap (λ (i : ℕ). s.gone * i) t-is)

falling_coordinate : (s : Share) (o t : ℕ) → t ≤ o → scaled_coordinate s o t + s.gone * (o - t) ≡ parts s * o
falling_coordinate s o t u =
    let d = o - t in
    let o_is : o ≡ t + d = omega arith in
    omega (arith, ap (λ (i : ℕ). s.gone * i) o_is)

module _ (s : Share) (o t F n : ℕ) where
  rising_reached : o < t → n ≡ F - o → parts s * F ≤ scaled_coordinate s o t → n * parts s ≤ s.gone * (t - o)
  rising_reached u e h = elim (dec_le F o) [
    | yes k ↦ let z : n ≡ 0 = omega arith in rw z (omega arith)
    | no k ↦
        let f : F ≡ o + n = omega arith in
        omega (arith, rising_coordinate s o t (omega arith), ap (λ (i : ℕ). parts s * i) f)
  ]

  rising_reached_back : o < t → n ≡ F - o → n * parts s ≤ s.gone * (t - o) → parts s * F ≤ scaled_coordinate s o t
  rising_reached_back u e h =
      let f : F ≤ o + n = omega arith in
      omega (arith, rising_coordinate s o t (omega arith), mul-le-mul_left (parts s) f)

  rising_not_reached : o < t → n ≡ F - o → scaled_coordinate s o t < parts s * F → s.gone * (t - o) < n * parts s
  rising_not_reached u e h =
      let f : F ≤ o + n = omega arith in
      omega (arith, rising_coordinate s o t (omega arith), mul-le-mul_left (parts s) f)

  falling_reached : t < o → n ≡ o - F → scaled_coordinate s o t ≤ parts s * F → n * parts s ≤ s.gone * (o - t)
  falling_reached u e h = elim (dec_le o F) [
    | yes k ↦ let z : n ≡ 0 = omega arith in rw z (omega arith)
    | no k ↦
        let f : o ≡ F + n = omega arith in
        omega (arith, falling_coordinate s o t (omega arith), ap (λ (i : ℕ). parts s * i) f)
  ]

  falling_reached_back : t < o → n ≡ o - F → n * parts s ≤ s.gone * (o - t) → scaled_coordinate s o t ≤ parts s * F
  falling_reached_back u e h =
      let f : o ≤ F + n = omega arith in
      omega (arith, falling_coordinate s o t (omega arith), mul-le-mul_left (parts s) f)

  falling_not_reached : t < o → n ≡ o - F → parts s * F < scaled_coordinate s o t → s.gone * (o - t) < n * parts s
  falling_not_reached u e h =
      let f : o ≤ F + n = omega arith in
      omega (arith, falling_coordinate s o t (omega arith), mul-le-mul_left (parts s) f)

-- ---- a cell on one axis
module _ (o t k : ℕ) (s : Share) where
  -- where the line touches the cell, it has reached the near face
  pub near_reached : Within s o t k → 0 < span o t → near_distance o t k * parts s ≤ s.gone * span o t
  near_reached w p = elim (dec_lt o t) [
    | yes u ↦
        let e : span o t ≡ t - o = omega arith in
        rw e (rising_reached s o t (128 * k) (near_distance o t k) u (near_rising o t k u) w.low)
    | no u ↦
        let v : t < o = omega arith in
        let e : span o t ≡ o - t = omega arith in
        rw e (falling_reached s o t (128 * k + 128) (near_distance o t k) v (near_falling o t k v) w.high)
  ]

  -- and where it is strictly inside, it has yet to reach the far face
  pub far_not_reached : StrictlyWithin s o t k → 0 < span o t → s.gone * span o t < far_distance o t k * parts s
  far_not_reached w p = elim (dec_lt o t) [
    | yes u ↦
        let e : span o t ≡ t - o = omega arith in
        rw e (rising_not_reached s o t (128 * k + 128) (far_distance o t k) u (far_rising o t k u) w.high)
    | no u ↦
        let v : t < o = omega arith in
        let e : span o t ≡ o - t = omega arith in
        rw e (falling_not_reached s o t (128 * k) (far_distance o t k) v (far_falling o t k v) w.low)
  ]

  pub near_reached_rising : o < t → near_distance o t k * parts s ≤ s.gone * span o t → parts s * (128 * k) ≤ scaled_coordinate s o t
  near_reached_rising u h =
      let e : span o t ≡ t - o = omega arith in
      rising_reached_back s o t (128 * k) (near_distance o t k) u (near_rising o t k u) (rw e at h)

  pub near_reached_falling : t < o → near_distance o t k * parts s ≤ s.gone * span o t → scaled_coordinate s o t ≤ parts s * (128 * k + 128)
  near_reached_falling u h =
      let e : span o t ≡ o - t = omega arith in
      falling_reached_back s o t (128 * k + 128) (near_distance o t k) u (near_falling o t k u) (rw e at h)

  near_before_end : StrictlyWithin s o t k → 0 < span o t → near_distance o t k < span o t
  near_before_end w p = elim (dec_lt o t) [
    | yes u ↦
        let f : 128 * k < t = cancel_parts_lt s (128 * k) t (omega (arith, w.low, mul-le-mul_left s.left u)) in
        omega (arith, near_rising o t k u)
    | no u ↦
        let v : t < o = omega arith in
        let f : t < 128 * k + 128 = cancel_parts_lt s t (128 * k + 128) (omega (arith, w.high, mul-le-mul_left s.left v)) in
        omega (arith, near_falling o t k v)
  ]

  level_strictly_between : StrictlyWithin s o t k → o ≡ t → (128 * k < o) × (o < 128 * k + 128)
  level_strictly_between w e =
      let same : s.gone * o ≡ s.gone * t = ap (λ (i : ℕ). s.gone * i) e in
      (cancel_parts_lt s (128 * k) o (omega (arith, w.low)), cancel_parts_lt s o (128 * k + 128) (omega (arith, w.high)))

pub strictly_within : {s : Share} {o t k : ℕ} → StrictlyWithin s o t k → Within s o t k
strictly_within w = record { low = omega (arith, w.low); high = omega (arith, w.high) }

-- ---- three axes

-- n / d ≤ g / p < m / d'
fractions_between : (n d m d' g p : ℕ) → 0 < d → n * p ≤ g * d → g * d' < m * p → n * d' < m * d
fractions_between n d m d' g p d-pos a b =
    lt_of_mul-lt-mul_left p (omega (arith, mul-le-mul_right d' a, mul-lt-mul_of_pos_right {k = d} b d-pos))

pub crossed_is_open : (o t : Point) (c : Cell) → Crosses o t c → Open o t c
crossed_is_open o t c x =
    let s = x.0 in
    record {
      near_before_far = λ i j p q.
          fractions_between (near_on o t c i) (span_on o t i) (far_on o t c j) (span_on o t j) s.gone (parts s) p
          (near_reached (coordinate o i) (coordinate t i) (index c i) s (strictly_within (x.1 i)) p)
          (far_not_reached (coordinate o j) (coordinate t j) (index c j) s (x.1 j) q);
      near_before_target = λ i p. near_before_end (coordinate o i) (coordinate t i) (index c i) s (x.1 i) p;
      level = λ i e. level_strictly_between (coordinate o i) (coordinate t i) (index c i) s (x.1 i) e;
    }
