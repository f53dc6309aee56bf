-- The entry of a cell is the latest share at which the line reaches one of its near faces, or 0.
use Rattle.std.proofs.Common.{◌≡◌, ℕ, ◌+◌, ◌-◌, ◌*◌, ◌<◌, ◌≤◌, ◌⊎◌, refl, ap, inl, inr, mul-le-mul_left, arith}
use native.Mathlib.Decide.{dec_lt, dec_le}
use Rattle.line.specs.Line.{Point, Cell, Axis, X, Y, Z, coordinate, index, Share, parts, NoLater, Within, TouchesAt, Touches, Crosses, Entry}
use Rattle.line.specs.Faces.{span, near_distance, span_on, near_on, NearShare, Latest, Entered, Open}
use Rattle.line.proofs.Shares.{no_later_trans, no_later_refl, zero_no_later, before_target_no_later, cancel_parts_le, rising_was_below, falling_was_above}
use Rattle.line.proofs.Faces.{near_reached, near_reached_rising, near_reached_falling, crossed_is_open}

-- ---- one axis

-- s is when the line reaches the near face, and 0 where it does not move on the axis
record NearOrZero (o t k : ℕ) (s : Share) : Type 0 where
  moving : 0 < span o t → NearShare o t k s
  level : span o t ≡ 0 → s.gone ≡ 0

near_within_span : (o t k : ℕ) (r : Share) → Within r o t k → 0 < span o t → near_distance o t k ≤ span o t
near_within_span o t k r w p =
    cancel_parts_le r (near_distance o t k) (span o t) (omega (arith, near_reached o t k r w p))

near_or_zero : (o t k : ℕ) (r : Share) → Within r o t k → (s : Share) × NearOrZero o t k s
near_or_zero o t k r w = elim (dec_lt 0 (span o t)) [
  | yes p ↦
      let n = near_distance o t k in
      let h = near_within_span o t k r w p in (
        record { gone = n; left = span o t - n; positive = omega arith },
        record { moving = λ _. record { moves = p; gone = refl; parts = omega arith }; level = λ z. absurd (omega arith) },
      )
  | no p ↦ (record { gone = 0; left = 1; positive = omega arith }, record { moving = λ q. absurd (p q); level = λ _. refl })
]

near_no_later : (o t k : ℕ) (s r : Share) → NearOrZero o t k s → Within r o t k → NoLater s r
near_no_later o t k s r n w = elim (dec_lt 0 (span o t)) [
  | yes p ↦ let f = n.moving p in rw (f.parts, f.gone) (near_reached o t k r w p)
  | no p ↦ zero_no_later s r (n.level (omega arith))
]

-- a share no later than one that touches the cell, at which the near face is reached, touches the cell
reached_within : (o t k : ℕ) (s r : Share) → Within r o t k → NoLater s r → (0 < span o t → near_distance o t k * parts s ≤ s.gone * span o t) → Within s o t k
reached_within o t k s r w h reached = elim (dec_lt o t) [
  | yes u ↦ record {
    low = near_reached_rising o t k s u (reached (omega arith));
    high = rising_was_below s r o t (128 * k + 128) (omega arith) h w.high;
  }
  | no u ↦ elim (dec_lt t o) [
    | yes v ↦ record {
      low = falling_was_above s r o t (128 * k) (omega arith) h w.low;
      high = near_reached_falling o t k s v (reached (omega arith));
    }
    | no v ↦
        let same : t ≡ o = omega arith in
        let same-r : r.gone * t ≡ r.gone * o = ap (λ (i : ℕ). r.gone * i) same in
        let same_s : s.gone * t ≡ s.gone * o = ap (λ (i : ℕ). s.gone * i) same in
        let a : 128 * k ≤ o = cancel_parts_le r (128 * k) o (omega (arith, w.low)) in
        let b : o ≤ 128 * k + 128 = cancel_parts_le r o (128 * k + 128) (omega (arith, w.high)) in
        record { low = omega (arith, mul-le-mul_left (parts s) a); high = omega (arith, mul-le-mul_left (parts s) b) }
  ]
]

-- ---- three axes
later_of_two : (f : Axis → Share) (i j : Axis) → (m : Axis) × (NoLater (f i) (f m) × NoLater (f j) (f m))
later_of_two f i j = elim (dec_le ((f i).gone * parts (f j)) ((f j).gone * parts (f i))) [
  | yes h ↦ (j, (h, no_later_refl (f j)))
  | no h ↦ (i, (no_later_refl (f i), omega arith))
]

latest_of_three : (f : Axis → Share) (a b : Axis) → NoLater (f X) (f a) → NoLater (f Y) (f a) → NoLater (f a) (f b) → NoLater (f Z) (f b) → (i : Axis) → NoLater (f i) (f b)
latest_of_three f a b x y ab z X = no_later_trans (f X) (f a) (f b) x ab
latest_of_three f a b x y ab z Y = no_later_trans (f Y) (f a) (f b) y ab
latest_of_three f a b x y ab z Z = z

latest_axis : (f : Axis → Share) → (m : Axis) × ((i : Axis) → NoLater (f i) (f m))
latest_axis f =
    let p = later_of_two f X Y in
    let q = later_of_two f p.0 Z in
    (q.0, latest_of_three f p.0 q.0 p.1.0 p.1.1 q.1.0 q.1.1)

-- the latest of the near shares f is the share f m
module _ (o t : Point) (c : Cell) (f : Axis → Share) (near : (i : Axis) → NearOrZero (coordinate o i) (coordinate t i) (index c i) (f i))
    (m : Axis) (last : (i : Axis) → NoLater (f i) (f m)) where
  last_reached : (i : Axis) → 0 < span_on o t i → near_on o t c i * parts (f m) ≤ (f m).gone * span_on o t i
  last_reached i p = let n = (near i).moving p in rw (n.parts, n.gone) at (last i)

  last_attained : ((f m).gone ≡ 0) ⊎ ((i : Axis) × NearShare (coordinate o i) (coordinate t i) (index c i) (f m))
  last_attained = elim (dec_lt 0 (span_on o t m)) [
    | yes p ↦ inr (m, (near m).moving p)
    | no p ↦ inl ((near m).level (omega arith))
  ]

  last_first : (r : Share) → TouchesAt o t c r → NoLater (f m) r
  last_first r w = near_no_later (coordinate o m) (coordinate t m) (index c m) (f m) r (near m) (w m)

  last_is_entry : (r : Share) → TouchesAt o t c r → Entered o t c
  last_is_entry r w = record {
    share = f m;
    entry = record {
      touches = λ i. reached_within (coordinate o i) (coordinate t i) (index c i) (f m) r (w i) (last_first r w) (last_reached i);
      first = last_first;
    };
    latest = record { reached = last_reached; attained = last_attained };
  }

-- ---- what is said of any cell
pub touched_is_entered : (o t : Point) (c : Cell) → Touches o t c → Entered o t c
touched_is_entered o t c x =
    let face : (i : Axis) → (s : Share) × NearOrZero (coordinate o i) (coordinate t i) (index c i) s =
    λ i. near_or_zero (coordinate o i) (coordinate t i) (index c i) x.0 (x.1 i) in
    let m = latest_axis (λ i. (face i).0) in
    last_is_entry o t c (λ i. (face i).0) (λ i. (face i).1) m.0 m.1 x.0 x.1

-- an entry equals the latest of the near faces' shares, or 0
pub entry_is_latest : (o t : Point) (c : Cell) (s : Share) → Entry o t c s → (r : Share) × Latest o t c r × NoLater s r × NoLater r s
entry_is_latest o t c s e =
    let f = touched_is_entered o t c (s, e.touches) in
    (f.share, f.latest, e.first f.share f.entry.touches, f.entry.first s e.touches)

-- a crossed cell is entered before the target
latest_before_target : (o t : Point) (c : Cell) (s : Share) → Open o t c → (s.gone ≡ 0) ⊎ ((i : Axis) × NearShare (coordinate o i) (coordinate t i) (index c i) s) → 0 < s.left
latest_before_target o t c s f (inl z) = omega (arith, s.positive)
latest_before_target o t c s f (inr n) = omega (arith, f.near_before_target n.0 n.1.moves, n.1.gone, n.1.parts)

pub crossed_entry_before_target : (o t : Point) (c : Cell) (s : Share) → Crosses o t c → Entry o t c s → 0 < s.left
crossed_entry_before_target o t c s x e =
    let f = touched_is_entered o t c (s, e.touches) in
    before_target_no_later s f.share (e.first f.share f.entry.touches)
    (latest_before_target o t c f.share (crossed_is_open o t c x) f.latest.attained)
