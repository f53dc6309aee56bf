-- One axis of a walk: steps, what they keep, and the cells ahead.
use Rattle.std.proofs.Common.{◌≡◌, ℕ, ◌+◌, ◌-◌, ◌*◌, ◌/◌, ◌<◌, ◌≤◌, cond, ltb, refl, ap, ◌∙◌, mul-le-mul_left, arith, le-ltb, lt-ltb}
use native.Mathlib.Decide.{dec_le, dec_lt, ℕ_discrete}
use Rattle.line.specs.Line.{Share, parts, NoLater, scaled_coordinate, Within, StrictlyWithin}
use Rattle.line.specs.Walk.{Step, up, down, Reaches}
use Rattle.line.proofs.Shares.{Before, cancel_parts_le, cancel_parts_lt, rising_order, rising_before, rising_stays_above, rising_was_below, rising_above_start, rising_below_end, falling_order, falling_before, falling_stays_below, falling_was_above, falling_above_end, falling_below_start}
use Rattle.line.proofs.Faces.{strictly_within}

-- ---- at its share a step is on the face between its two cells
face_up : (o t F : ℕ) (s : Share) → o + s.gone ≡ F → F + s.left ≡ t → scaled_coordinate s o t ≡ parts s * F
face_up o t F s a b = omega (arith, ap (λ (i : ℕ). s.left * i) a, ap (λ (i : ℕ). s.gone * i) b)

face_down : (o t F : ℕ) (s : Share) → F + s.gone ≡ o → t + s.left ≡ F → scaled_coordinate s o t ≡ parts s * F
face_down o t F s a b = omega (arith, ap (λ (i : ℕ). s.left * i) a, ap (λ (i : ℕ). s.gone * i) b)

step_within_old : {o t k n : ℕ} {s : Share} → Step o t k s n → Within s o t k
step_within_old {o} {t} {k} {n} {s} (up u a b e) = let f = face_up o t (128 * k + 128) s a b in record { low = omega arith; high = omega arith }
step_within_old {o} {t} {k} {n} {s} (down u a b e) = let f = face_down o t (128 * k) s a b in record { low = omega arith; high = omega arith }

pub step_within_new : {o t k n : ℕ} {s : Share} → Step o t k s n → Within s o t n
step_within_new {o} {t} {k} {n} {s} (up u a b e) = let f = face_up o t (128 * k + 128) s a b in rw e (record { low = omega arith; high = omega arith })
step_within_new {o} {t} {k} {n} {s} (down u a b e) = let f = rw e at (face_down o t (128 * k) s a b) in record { low = omega arith; high = omega arith }

-- a share in the cell is no later than the step out of it, and one strictly inside is before it
pub within_no_later : {o t k n : ℕ} {s r : Share} → Step o t k s n → Within r o t k → NoLater r s
within_no_later {o} {t} {k} {n} {s} {r} (up u a b e) w = let f = face_up o t (128 * k + 128) s a b in rising_order r s o t (128 * k + 128) u w.high (omega arith)
within_no_later {o} {t} {k} {n} {s} {r} (down u a b e) w = let f = face_down o t (128 * k) s a b in falling_order r s o t (128 * k) u w.low (omega arith)

pub inside_before : {o t k n : ℕ} {s r : Share} → Step o t k s n → StrictlyWithin r o t k → Before r s
inside_before {o} {t} {k} {n} {s} {r} (up u a b e) w =
    let f = face_up o t (128 * k + 128) s a b in rising_before r s o t (128 * k + 128) (omega arith) w.high (omega arith)
inside_before {o} {t} {k} {n} {s} {r} (down u a b e) w = let f = face_down o t (128 * k) s a b in falling_before r s o t (128 * k) (omega arith) w.low (omega arith)

-- ---- the step from a touched cell

-- the line does not start past the face ahead
pub rising_not_past : (o t k : ℕ) (r : Share) → o < t → Within r o t k → o ≤ 128 * k + 128
rising_not_past o t k r u w = cancel_parts_le r o (128 * k + 128) (omega (arith, rising_above_start r o t (omega arith), w.high))

pub falling_not_past : (o t k : ℕ) (r : Share) → t < o → Within r o t k → 128 * k ≤ o
falling_not_past o t k r u w = cancel_parts_le r (128 * k) o (omega (arith, falling_below_start r o t (omega arith), w.low))

step_up : (o t k : ℕ) → o < t → o ≤ 128 * k + 128 → 128 * k + 128 ≤ t → (s : Share) × (n : ℕ) × Step o t k s n
step_up o t k u a b =
    (record { gone = 128 * k + 128 - o; left = t - (128 * k + 128); positive = omega arith }, k + 1, up u (omega arith) (omega arith) refl)

step_down : (o t k : ℕ) → t < o → 128 * k ≤ o → t < 128 * k → (s : Share) × (n : ℕ) × Step o t k s n
step_down o t k u a b =
    (record { gone = o - 128 * k; left = 128 * k - t; positive = omega arith }, k - 1, down u (omega arith) (omega arith) (omega arith))

-- a later share is still in the cell, if it is no later than the step out of it
module _ (o t k : ℕ) (e s : Share) (w : Within e o t k) (h : NoLater e s) (least : (r : Share) (n : ℕ) → Step o t k r n → NoLater s r) where
  stays_above : parts s * (128 * k) ≤ scaled_coordinate s o t
  stays_above = elim (dec_le o t) [
    | yes u ↦ rising_stays_above e s o t (128 * k) u h w.low
    | no u ↦ elim (dec_le (128 * k) t) [
      | yes v ↦ omega (arith, falling_above_end s o t (omega arith), mul-le-mul_left (parts s) v)
      | no v ↦
          let d : t < o = omega arith in
          let (r, n, st) = step_down o t k d (falling_not_past o t k e d w) (omega arith) in
          falling_was_above s r o t (128 * k) (omega arith) (least r n st) (step_within_old st).low
    ]
  ]

  stays_below : scaled_coordinate s o t ≤ parts s * (128 * k + 128)
  stays_below = elim (dec_le t o) [
    | yes u ↦ falling_stays_below e s o t (128 * k + 128) u h w.high
    | no u ↦ elim (dec_le t (128 * k + 128)) [
      | yes v ↦ omega (arith, rising_below_end s o t (omega arith), mul-le-mul_left (parts s) v)
      | no v ↦
          let d : o < t = omega arith in
          let (r, n, st) = step_up o t k d (rising_not_past o t k e d w) (omega arith) in
          rising_was_below s r o t (128 * k + 128) (omega arith) (least r n st) (step_within_old st).high
    ]
  ]

  pub stays_within : Within s o t k
  stays_within = record { low = stays_above; high = stays_below }

-- ---- cells ahead: the cell c is k or lies ahead of it
pub record Ahead (o t k c : ℕ) : Type 0 where
  pub up : o ≤ t → k ≤ c
  pub down : t ≤ o → c ≤ k

-- a crossed cell is ahead of the cell that o lies in
pub crossed_ahead_of_start : (o t c : ℕ) (r : Share) → StrictlyWithin r o t c → Ahead o t (o / 128) c
crossed_ahead_of_start o t c r w = record {
  up = λ u.
      let h : o < 128 * c + 128 = cancel_parts_lt r o (128 * c + 128) (omega (arith, rising_above_start r o t u, w.high)) in
      omega arith;
  down = λ u.
      let h : 128 * c < o = cancel_parts_lt r (128 * c) o (omega (arith, falling_below_start r o t u, w.low)) in
      omega arith;
}

-- a step passes no cell ahead
pub step_keeps_ahead : {o t k n : ℕ} {s : Share} (c : ℕ) → Step o t k s n → Ahead o t k c → ¬ (c ≡ k) → Ahead o t n c
step_keeps_ahead c (up u a b e) h d = record { up = λ v. omega (arith, h.up v); down = λ v. omega arith }
step_keeps_ahead c (down u a b e) h d = record { up = λ v. omega arith; down = λ v. omega (arith, h.down v) }

-- a share in the cell behind the step, or ahead of that, is no earlier than the step
pub step_no_later : {o t k n : ℕ} {s r : Share} (c : ℕ) → Step o t k s n → Ahead o t n c → Within r o t c → NoLater s r
step_no_later {o} {t} {k} {n} {s} {r} c (up u a b e) h w =
    let l : k + 1 ≤ c = omega (arith, h.up (omega arith)) in
    let m = mul-le-mul_left (parts r) l in
    rising_order s r o t (128 * k + 128) u (omega (arith, face_up o t (128 * k + 128) s a b)) (omega (arith, w.low))
step_no_later {o} {t} {k} {n} {s} {r} c (down u a b e) h w =
    let l : c + 1 ≤ k = omega (arith, h.down (omega arith)) in
    let m = mul-le-mul_left (parts r) l in
    falling_order s r o t (128 * k) u (omega (arith, face_down o t (128 * k) s a b)) (omega (arith, w.high))

-- t lies past the face ahead, where another cell ahead is crossed
rising_past_face : (o t k c : ℕ) (r : Share) → o < t → StrictlyWithin r o t c → Ahead o t k c → ¬ (c ≡ k) → 128 * k + 128 < t
rising_past_face o t k c r u w h d =
    let l : k + 1 ≤ c = omega (arith, h.up (omega arith)) in
    cancel_parts_lt r (128 * k + 128) t (omega (arith, mul-le-mul_left (parts r) l, rising_below_end r o t (omega arith), w.low))

falling_past_face : (o t k c : ℕ) (r : Share) → t < o → StrictlyWithin r o t c → Ahead o t k c → ¬ (c ≡ k) → t < 128 * k
falling_past_face o t k c r u w h d =
    let l : c + 1 ≤ k = omega (arith, h.down (omega arith)) in
    cancel_parts_lt r t (128 * k) (omega (arith, mul-le-mul_left (parts r) l, falling_above_end r o t (omega arith), w.high))

-- another cell ahead that is crossed is crossed no earlier than the step out of k
pub step_before_crossed : (o t k c : ℕ) (e r : Share) → Within e o t k → StrictlyWithin r o t c → Ahead o t k c → ¬ (c ≡ k)
    → (s : Share) × (n : ℕ) × Step o t k s n × NoLater s r
step_before_crossed o t k c e r w i h d = elim (dec_lt o t) [
  | yes u ↦
      let p = rising_past_face o t k c r u i h d in
      let (s, n, st) = step_up o t k u (rising_not_past o t k e u w) (omega arith) in
      (s, n, st, step_no_later c st (step_keeps_ahead c st h d) (strictly_within i))
  | no u ↦ elim (dec_lt t o) [
    | yes v ↦
        let p = falling_past_face o t k c r v i h d in
        let (s, n, st) = step_down o t k v (falling_not_past o t k e v w) (omega arith) in
        (s, n, st, step_no_later c st (step_keeps_ahead c st h d) (strictly_within i))
    | no v ↦ absurd (omega (arith, h.up (omega arith), h.down (omega arith)))
  ]
]

-- where the line does not pass the face ahead, no other cell ahead is crossed
pub crossed_at_end : (o t k c : ℕ) (r : Share) → Reaches o t k → StrictlyWithin r o t c → Ahead o t k c → c ≡ k
crossed_at_end o t k c r f w h = elim (ℕ_discrete c k) [
  | yes e ↦ e
  | no d ↦ absurd (elim (dec_lt o t) [
    | yes u ↦ omega (arith, f.up u, rising_past_face o t k c r u w h d)
    | no u ↦ elim (dec_lt t o) [
      | yes v ↦ omega (arith, f.down v, falling_past_face o t k c r v w h d)
      | no v ↦ omega (arith, h.up (omega arith), h.down (omega arith))
    ]
  ])
]

-- ---- how many more steps fit into the grid
unfoldable pub steps_left : ℕ → ℕ → ℕ → ℕ
steps_left o t k = cond (ltb o t) (7 - k) (cond (ltb t o) k 0)

steps_left_rising : (o t k : ℕ) → o < t → steps_left o t k ≡ 7 - k
unfolding steps_left
steps_left_rising o t k u = ap (λ b. cond b (7 - k) (cond (ltb t o) k 0)) (lt-ltb o t u)

steps_left_falling : (o t k : ℕ) → t < o → steps_left o t k ≡ k
unfolding steps_left
steps_left_falling o t k u = ap (λ b. cond b (7 - k) (cond (ltb t o) k 0)) (le-ltb o t (omega arith)) ∙ ap (λ b. cond b k 0) (lt-ltb t o u)

steps_left_level : (o t k : ℕ) → t ≤ o → o ≤ t → steps_left o t k ≡ 0
unfolding steps_left
steps_left_level o t k h g = ap (λ b. cond b (7 - k) (cond (ltb t o) k 0)) (le-ltb o t h) ∙ ap (λ b. cond b k 0) (le-ltb t o g)

pub step_uses_one : {o t k n : ℕ} {s : Share} → t ≤ 1023 → Step o t k s n → steps_left o t n + 1 ≡ steps_left o t k
step_uses_one {o} {t} {k} {n} {s} l (up u a b e) = omega (arith, steps_left_rising o t n u, steps_left_rising o t k u)
step_uses_one {o} {t} {k} {n} {s} l (down u a b e) = omega (arith, steps_left_falling o t n u, steps_left_falling o t k u)

pub steps_left_within : (o t k : ℕ) → k ≤ 7 → steps_left o t k ≤ 7
steps_left_within o t k h = elim (dec_lt o t) [
  | yes u ↦ omega (arith, steps_left_rising o t k u)
  | no u ↦ elim (dec_lt t o) [
    | yes v ↦ omega (arith, steps_left_falling o t k v)
    | no v ↦ omega (arith, steps_left_level o t k (omega arith) (omega arith))
  ]
]
