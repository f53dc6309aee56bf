-- The box of a cell in floats beside the exact line: when the line is at its faces, axis by axis.
use Rattle.std.proofs.Common.{◌≡◌, ℕ, ◌+◌, ◌-◌, ◌*◌, ◌<◌, ◌≤◌, Bool, true, false, T, ℤ, pos, ◌+ℤ◌, nat_abs, Some, subst, inl, inr, mul-lt-mul_of_pos_right, arith}
use mathlib.Core.Path.{subst⁻¹}
use lib.Ieee.{Float, neg, lt, le, eq}
use lib.Ieee.Exact.{HasValue}
use Rattle.std.proofs.lemmas.Bool.{cases_lt, cases_order}
use Rattle.scalar.specs.Single.{plus, minus, over, zero, two, largest, Number}
use Rattle.scalar.specs.Grid.{OnGrid, place}
use Rattle.scalar.specs.Shares.{Close, NotNegative}
use Rattle.scalar.proofs.Order.{lt_of_le_of_lt, lt_of_lt_of_le, lt_trans, lt_left, zero_below_largest}
use Rattle.scalar.proofs.Values.{le_is, zero_value}
use Rattle.scalar.proofs.Grid.{between_planes, offset_zero}
use Rattle.scalar.proofs.Shares.{rising_ahead, rising_behind, falling_ahead, falling_behind, close_lt, close_zero, close_above_zero, close_below_zero, close_not_above_zero, close_not_below_zero, close_below_largest, close_above_lowest, close_number, plus_not_negative}
use Rattle.boxes.specs.Clip.{face_time, beyond}
use Rattle.boxes.specs.declared.aabb.Aabb.{Aabb}
use Rattle.query.specs.declared.ray.Ray.{Ray}
use Rattle.math.specs.declared.Axis.TheVariants as MathAxis
use Rattle.math.specs.Vectors.{component}
use Rattle.grid.specs.declared.frame.ChunkFrame.{ChunkFrame}
use Rattle.grid.specs.Lawful.{exponent_fits}
use Rattle.grid.specs.Frame.{centre, cell_box}
use Rattle.sight.specs.declared.grid_point.GridPoint.{GridPoint}
use Rattle.sight.specs.Power.{cube}
use Rattle.sight.specs.Sight.{sight_line}
use Rattle.sight.proofs.Positions.{metres}
use Rattle.sight.proofs.Axes.{LookAxis, look_axis}
use Rattle.line.specs.Line.{Point, Cell, Axis, X, Y, Z, coordinate, index}
use Rattle.line.specs.Faces.{span, near_distance, far_distance}
use Rattle.line.proofs.Faces.{near_rising, near_falling, far_rising, far_falling}
use Rattle.looks.specs.Units.{point_of, key_of_cell}
use Rattle.looks.proofs.Units.{axis_of}

-- ---- the time at one face, p / q of the line's way ahead of its start, or behind that
pub data FaceTime (p q : ℕ) (v : Float) : Type 0 where
  -- v is close to p / q, and not below zero
  ahead : (s : Bool) → NotNegative s p → Close s p q v → FaceTime p q v
  -- the line starts past the face
  behind : p ≡ 0 → T (lt v zero) → T (lt (neg largest) v) → FaceTime p q v

pub face_above_lowest : (p q : ℕ) (v : Float) → 0 < q → p ≤ 1024 → FaceTime p q v → T (lt (neg largest) v)
face_above_lowest p q v Q h (ahead s n c) = close_above_lowest s p q v Q h c
face_above_lowest p q v Q h (behind z b l) = l

pub face_below_largest : (p q : ℕ) (v : Float) → 0 < q → p ≤ 1024 → FaceTime p q v → T (lt v largest)
face_below_largest p q v Q h (ahead s n c) = close_below_largest s p q v Q h c
face_below_largest p q v Q h (behind z b l) = lt_trans v zero largest b zero_below_largest

pub face_number : (p q : ℕ) (v : Float) → FaceTime p q v → Number v
face_number p q v (ahead s n c) = close_number s p q v c
face_number p q v (behind z b l) = lt_left v zero b

-- the line does not start past the far face of the cell n
pub record NotPast (o t n : ℕ) : Type 0 where
  pub below_high : o < t → o ≤ 128 * n + 128
  pub above_low : t < o → 128 * n ≤ o

-- the times at the two faces of the cell n, on an axis where the line moves: it is at the near face first, unless it starts past the far one
pub record Moving (o t n : ℕ) (near far : Float) : Type 0 where
  pub near_time : FaceTime (near_distance o t n) (span o t) near
  pub far_time : FaceTime (far_distance o t n) (span o t) far
  pub ordered : NotPast o t n → T (lt near far)

pub data Slab (o t n : ℕ) (low high x d : Float) : Type 0 where
  still : o ≡ t → eq d zero ≡ true → Slab o t n low high x d
  rising : o < t → eq d zero ≡ false → Moving o t n (face_time low x d) (face_time high x d) → Slab o t n low high x d
  falling : t < o → eq d zero ≡ false → Moving o t n (face_time high x d) (face_time low x d) → Slab o t n low high x d

-- the cell n on one axis, for a camera at o and a target at t
pub record AxisBox (o t n : ℕ) (low high x d : Float) : Type 0 where
  pub slab : Slab o t n low high x d
  pub inside : 128 * n ≤ o → o ≤ 128 * n + 128 → beyond x low high ≡ false
  pub inside_back : beyond x low high ≡ false → (128 * n ≤ o) × (o ≤ 128 * n + 128)

zero_le_negative_zero : (v : Float) → HasValue v true 0 1 → T (le zero v)
zero_le_negative_zero v u = subst⁻¹ T (le_is zero v false true 0 0 1 (omega arith) zero_value u) tt

-- ---- one axis: x is the camera, at the grid number g, and y the target, at h
module _ (k : ℕ) (x y : Float) (key : ℤ) (g h : ℕ) (K : k ≤ 20) (l : nat_abs key ≤ 4096) (G : g ≤ 1023) (H : h ≤ 1023) (X : OnGrid x k (place key g)) (Y : OnGrid y k (place key h)) where
  abbrev at : Float → Float
  at f = face_time f x (minus y x)

  -- a face f, at the grid number i
  module _ (f : Float) (i : ℕ) (I : i ≤ 1024) (F : OnGrid f k (place key i)) where
    rising_face : g < h → FaceTime (i - g) (h - g) (at f)
    rising_face m = elim (cases_lt i g) [
      | inl n ↦
          let c = (rising_behind k x y f key g h i K l G H I X Y F m n).product in
          behind (omega arith) (close_below_zero (g - i) (h - g) (at f) (omega arith) c) (close_above_lowest true (g - i) (h - g) (at f) (omega arith) (omega arith) c)
      | inr n ↦ ahead false (plus_not_negative (i - g)) (rising_ahead k x y f key g h i K l G H I X Y F m n).product
    ]

    falling_face : h < g → FaceTime (g - i) (g - h) (at f)
    falling_face m = elim (cases_order g i) [
      | inl e ↦
          let c = (falling_behind k x y f key g h i K l G H I X Y F m (omega arith)).product in
          let same : i - g ≡ g - i = omega arith in
          ahead true (λ _. omega arith) (subst (λ (p : ℕ). Close true p (g - h) (at f)) same c)
      | inr (inl n) ↦
          let c = (falling_behind k x y f key g h i K l G H I X Y F m (omega arith)).product in
          behind (omega arith) (close_below_zero (i - g) (g - h) (at f) (omega arith) c) (close_above_lowest true (i - g) (g - h) (at f) (omega arith) (omega arith) c)
      | inr (inr n) ↦ ahead false (plus_not_negative (g - i)) (falling_ahead k x y f key g h i K l G H I X Y F m n).product
    ]

  -- two faces, the low one at i and the high one at j
  module _ (lo hi : Float) (i j : ℕ) (I : i < j) (J : j ≤ 1024) (L : OnGrid lo k (place key i)) (U : OnGrid hi k (place key j)) where
    rising_ordered : g < h → g ≤ j → T (lt (at lo) (at hi))
    rising_ordered m n =
        let b = (rising_ahead k x y hi key g h j K l G H J X Y U m n).product in
        elim (cases_lt i g) [
          | inl c ↦
              let a = (rising_behind k x y lo key g h i K l G H (omega arith) X Y L m c).product in
              lt_of_lt_of_le (at lo) zero (at hi) (close_below_zero (g - i) (h - g) (at lo) (omega arith) a) (close_not_below_zero (j - g) (h - g) (at hi) b)
          | inr c ↦
              let a = (rising_ahead k x y lo key g h i K l G H (omega arith) X Y L m c).product in
              let less : i - g < j - g = omega arith in
              let q : 0 < h - g = omega arith in
              close_lt false false (i - g) (h - g) (j - g) (h - g) (at lo) (at hi) q q (omega arith) (omega arith) (plus_not_negative (j - g)) a b (mul-lt-mul_of_pos_right less q)
        ]

    falling_ordered : h < g → i ≤ g → T (lt (at hi) (at lo))
    falling_ordered m n = elim (cases_order i g) [
      | inl e ↦
          let a = (falling_behind k x y lo key g h i K l G H (omega arith) X Y L m (omega arith)).product in
          let b = (falling_behind k x y hi key g h j K l G H J X Y U m (omega arith)).product in
          let none : i - g ≡ 0 = omega arith in
          lt_of_lt_of_le (at hi) zero (at lo) (close_below_zero (j - g) (g - h) (at hi) (omega arith) b)
          (zero_le_negative_zero (at lo) (close_zero true (g - h) (at lo) (omega arith) (subst (λ (p : ℕ). Close true p (g - h) (at lo)) none a)))
      | inr (inl c) ↦
          let a = (falling_ahead k x y lo key g h i K l G H (omega arith) X Y L m c).product in
          elim (cases_lt j g) [
            | inl u ↦
                let b = (falling_ahead k x y hi key g h j K l G H J X Y U m u).product in
                let less : g - j < g - i = omega arith in
                let q : 0 < g - h = omega arith in
                close_lt false false (g - j) (g - h) (g - i) (g - h) (at hi) (at lo) q q (omega arith) (omega arith) (plus_not_negative (g - i)) b a (mul-lt-mul_of_pos_right less q)
            | inr u ↦
                let b = (falling_behind k x y hi key g h j K l G H J X Y U m u).product in
                lt_of_le_of_lt (at hi) zero (at lo) (close_not_above_zero (j - g) (g - h) (at hi) b) (close_above_zero (g - i) (g - h) (at lo) (omega arith) a)
          ]
      | inr (inr c) ↦ absurd (omega arith)
    ]

  -- the faces of the cell n
  module _ (lo hi : Float) (n : ℕ) (N : n ≤ 7) (L : OnGrid lo k (place key (128 * n))) (U : OnGrid hi k (place key (128 * n + 128))) where
    moving_up : g < h → Moving g h n (at lo) (at hi)
    moving_up m =
        let s : h - g ≡ span g h = omega arith in
        record {
          near_time = subst (λ (q : ℕ). FaceTime (near_distance g h n) q (at lo)) s
              (subst⁻¹ (λ (p : ℕ). FaceTime p (h - g) (at lo)) (near_rising g h n m) (rising_face lo (128 * n) (omega arith) L m));
          far_time = subst (λ (q : ℕ). FaceTime (far_distance g h n) q (at hi)) s
              (subst⁻¹ (λ (p : ℕ). FaceTime p (h - g) (at hi)) (far_rising g h n m) (rising_face hi (128 * n + 128) (omega arith) U m));
          ordered = λ w. rising_ordered lo hi (128 * n) (128 * n + 128) (omega arith) (omega arith) L U m (w.below_high m);
        }

    moving_down : h < g → Moving g h n (at hi) (at lo)
    moving_down m =
        let s : g - h ≡ span g h = omega arith in
        record {
          near_time = subst (λ (q : ℕ). FaceTime (near_distance g h n) q (at hi)) s
              (subst⁻¹ (λ (p : ℕ). FaceTime p (g - h) (at hi)) (near_falling g h n m) (falling_face hi (128 * n + 128) (omega arith) U m));
          far_time = subst (λ (q : ℕ). FaceTime (far_distance g h n) q (at lo)) s
              (subst⁻¹ (λ (p : ℕ). FaceTime p (g - h) (at lo)) (far_falling g h n m) (falling_face lo (128 * n) (omega arith) L m));
          ordered = λ w. falling_ordered lo hi (128 * n) (128 * n + 128) (omega arith) (omega arith) L U m (w.above_low m);
        }

    axis_slab : Slab g h n lo hi x (minus y x)
    axis_slab =
        let still-or-not = offset_zero k x y key g h K l (omega arith) (omega arith) X Y in
        elim (cases_order g h) [
          | inl e ↦ still e (still-or-not.0 e)
          | inr (inl m) ↦ rising m (still-or-not.1 (λ q. omega arith)) (moving_up m)
          | inr (inr m) ↦ falling m (still-or-not.1 (λ q. omega arith)) (moving_down m)
        ]

    axis_box : AxisBox g h n lo hi x (minus y x)
    axis_box = let b = between_planes k x lo hi key g (128 * n) (128 * n + 128) X L U in record { slab = axis_slab; inside = b.0; inside_back = b.1 }

-- ---- a cell of the chunk, on one axis
cell_axis : {e key : ℤ} {size : Float} {g h : ℕ} → LookAxis e key size g h → (n : ℕ) → n ≤ 7
    → AxisBox g h n (minus (centre key n size) (over size two)) (plus (centre key n size) (over size two)) (metres e key g) (minus (metres e key h) (metres e key g))
cell_axis {e} {key} {size} {g} {h} a n N =
    axis_box (nat_abs (e +ℤ pos 10)) (metres e key g) (metres e key h) key g h a.unit_bound a.key_small a.camera_small a.target_small a.camera_exact a.target_exact
    (minus (centre key n size) (over size two)) (plus (centre key n size) (over size two)) n N (a.low_face n N) (a.high_face n N)

-- ---- three axes
-- the cell c on each axis of the line from o to t, beside the box and the line in floats
abbrev pub AxisBoxes : Point → Point → Cell → Aabb → Ray → Type 0
AxisBoxes o t c b r = (i : Axis) → AxisBox (coordinate o i) (coordinate t i) (index c i) (component b.mins (axis_of i)) (component b.maxs (axis_of i)) (component r.origin (axis_of i)) (component r.dir (axis_of i))

pub box_axes : (f : ChunkFrame) (e : ℤ) → T (exponent_fits (Some e)) → f.voxel_size ≡ cube e → (camera target : GridPoint) (c : Cell) → ((i : Axis) → index c i ≤ 7)
    → AxisBoxes (point_of camera) (point_of target) c (cell_box f (key_of_cell c)) (sight_line e f.key camera target)
unfolding cell_box
box_axes f e range size camera target c small X = cell_axis (look_axis f e range size camera target MathAxis.X) c.x (small X)
box_axes f e range size camera target c small Y = cell_axis (look_axis f e range size camera target MathAxis.Y) c.y (small Y)
box_axes f e range size camera target c small Z = cell_axis (look_axis f e range size camera target MathAxis.Z) c.z (small Z)
