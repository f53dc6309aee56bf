-- Whole numbers of units are exact: coordinates, planes, centres, sums and differences are whole numbers of units again, and compare as those do.
use Rattle.std.proofs.Common.{◌≡◌, ℕ, suc, ◌+◌, ◌-◌, ◌*◌, ◌/◌, ◌^◌, ◌<◌, ◌≤◌, Bool, true, false, cond, not, ◌&&◌, ◌||◌, T, eqb, ltb, ℤ, pos, negsuc, ◌+ℤ◌, ◌-ℤ◌, ◌*ℤ◌, neg_ℤ, nat_abs, sym, refl, ap, ◌∙◌, subst, true≢false, le_refl, lt_of_lt_of_le, mul-le-mul_right, lt-suc_self, suc-mul, div-lt_iff_lt-mul, add-mul, mul-le-mul, lt_of_mul-lt-mul_right, mul-lt-mul_of_pos_right, mul-pos, le-div_iff_mul-le, mul-one, le_of_mul-le-mul_right, arith, le→leb, ltb→lt, lt→ltb, nltb→le, pow_pos, pow_mono, pow-add}
use mathlib.Core.Path.{subst⁻¹}
use mathlib.Core.Bool.{beq}
use native.Mathlib.Nat.{eq_of_mul-eq-mul_right}
use lib.Signed.{lt_z}
use lib.IntN.{sub_ℕ, pos-ne-negsuc}
use lib.Ieee.{Float, nan, inf, fin, binary32, up, down, unlike, round, sum, of_int, to_signed, in_float, lt, eq, level}
use lib.Ieee.Fits.{down_pos}
use lib.Ieee.Exact.{HasValue, round_exact}
use lib.Ieee.Nearest.{div_same}
use lib.Ieee.Back.{round_whole, positive_back, negative_back}
use lib.Ieee.Scale.{round_same}
use Rattle.std.proofs.lemmas.Int.{ints}
use Rattle.std.proofs.lemmas.Bool.{le-ltb, lt-ltb, ne_eqb, eq-eqb}
use Rattle.std.proofs.lemmas.Bool.Decides.{nat_tests}
use Rattle.std.specs.Float as Floats
use Rattle.scalar.specs.Grid.{OnGrid, IsUnit, IsCell, place, cell_key, away}
use Rattle.scalar.specs.Single.{plus, minus, times, over, half, two, zero}
use Rattle.scalar.proofs.Values.{value_as, value_of_zero, zero_value, half_value, two_value, times_is, over_is, plus_is, minus_is, ltb_times, sub_times, lt_is, eq_is}

-- ---- up to 2 ^ 24 units, a whole number of units is a value of binary32
no_overflow : (n k : ℕ) → k ≤ 20 → n < 2 ^ 24 → n * 2 ^ (k + 132) < 2 ^ 277
no_overflow n k K h =
    let a : 2 ^ (k + 132) ≤ 2 ^ 152 = pow_mono {j = 152} (omega arith) in
    let b : n * 2 ^ (k + 132) ≤ 2 ^ 24 * 2 ^ 152 = mul-le-mul {n₂ = 2 ^ 24} {m₂ = 2 ^ 152} (omega arith) a in
    omega arith

round_units : (s : Bool) (n k : ℕ) → k ≤ 20 → n < 2 ^ 24 → HasValue (round binary32 s (n * 2 ^ k) (2 ^ 17)) s (n * 2 ^ k) (2 ^ 17)
round_units s n k K h = round_exact binary32 s (n * 2 ^ k) (2 ^ 17) n (k + 132) (pow_pos 17) h (no_overflow n k K h) (rw (pow-add 2 k 132) (omega arith))

round_units_at : (s : Bool) (n k a : ℕ) → k ≤ 20 → n < 2 ^ 24 → a ≡ n * 2 ^ k → HasValue (round binary32 s a (2 ^ 17)) s (n * 2 ^ k) (2 ^ 17)
round_units_at s n k a K h e = subst⁻¹ (λ (z : ℕ). HasValue (round binary32 s z (2 ^ 17)) s (n * 2 ^ k) (2 ^ 17)) e (round_units s n k K h)

-- ---- an integer as a float, times b units
times_units : (x y : Float) (s : Bool) (n b k : ℕ) → k ≤ 20 → n * b < 2 ^ 24 → HasValue x s n 1 → HasValue y false (b * 2 ^ k) (2 ^ 17)
    → HasValue (times x y) (unlike s false) (n * b * 2 ^ k) (2 ^ 17)
times_units x y s n b k K h u v =
    subst⁻¹ (λ (z : Float). HasValue z (unlike s false) (n * b * 2 ^ k) (2 ^ 17))
    (times_is x y s false n 1 (b * 2 ^ k) (2 ^ 17) (omega arith) (pow_pos 17) u v
    ∙ round_same binary32 (unlike s false) (n * (b * 2 ^ k)) (1 * 2 ^ 17) (n * b * 2 ^ k) (2 ^ 17) (pow_pos 17) (pow_pos 17) (omega arith))
    (round_units (unlike s false) (n * b) k K h)

-- x is z times b units
abbrev Multiple : Float → ℕ → ℕ → ℤ → Type 0
Multiple x b k (pos n) = HasValue x false (n * b * 2 ^ k) (2 ^ 17)
Multiple x b k (negsuc n) = HasValue x true (suc n * b * 2 ^ k) (2 ^ 17)

integer_times : (k b : ℕ) (y : Float) (z : ℤ) → k ≤ 20 → nat_abs z < 2 ^ 24 → nat_abs z * b < 2 ^ 24 → HasValue y false (b * 2 ^ k) (2 ^ 17)
    → Multiple (times (of_int binary32 z) y) b k z
unfolding of_int
integer_times k b y (pos n) K h l v = times_units (round binary32 false n 1) y false n b k K l (round_whole binary32 false n (omega arith)) v
integer_times k b y (negsuc n) K h l v = times_units (round binary32 true (suc n) 1) y true (suc n) b k K l (round_whole binary32 true (suc n) (omega arith)) v

-- `z as f32 * unit`
pub units_exact : (k : ℕ) (u : Float) (z : ℤ) → k ≤ 20 → IsUnit u k → nat_abs z < 2 ^ 24 → OnGrid (times (of_int binary32 z) u) k z
units_exact k u z K v h = at_one z _ (integer_times k 1 u z K h (omega arith) (value_as u false (2 ^ k) (2 ^ 17) (1 * 2 ^ k) (2 ^ 17) (pow_pos 17) (omega arith) v))
  where
    at_one : (z : ℤ) (x : Float) → Multiple x 1 k z → OnGrid x k z
    at_one (pos n) x w = subst (λ (i : ℕ). HasValue x false (i * 2 ^ k) (2 ^ 17)) (mul-one n) w
    at_one (negsuc n) x w = subst (λ (i : ℕ). HasValue x true (i * 2 ^ k) (2 ^ 17)) (mul-one (suc n)) w

pub place_bound : (key : ℤ) (g : ℕ) → nat_abs key ≤ 4096 → g ≤ 1024 → nat_abs (place key g) < 2 ^ 23
place_bound (pos a) g h l = omega arith
place_bound (negsuc a) g h l = omega (arith, ints)

-- a coordinate, `(1024 * key + g) as f32 * unit`
pub coordinate_exact : (k : ℕ) (u : Float) (key : ℤ) (g : ℕ) → k ≤ 20 → IsUnit u k → nat_abs key ≤ 4096 → g ≤ 1024
    → OnGrid (times (of_int binary32 (place key g)) u) k (place key g)
coordinate_exact k u key g K v h l = units_exact k u (place key g) K v (lt_of_lt_of_le (place_bound key g h l) (pow_mono {i = 23} {j = 24} (omega arith)))

-- a whole number of cells, `z as f32 * size`
pub cells_exact : (k : ℕ) (y : Float) (z : ℤ) → k ≤ 20 → IsCell y k → nat_abs z < 2 ^ 16 → OnGrid (times (of_int binary32 z) y) k (z *ℤ pos 128)
cells_exact k y (pos n) K v h = integer_times k 128 y (pos n) K (omega arith) (omega arith) v
cells_exact k y (negsuc n) K v h =
    let e : neg_ℤ (pos (suc n * 128)) ≡ negsuc (suc n * 128 - 1) = omega (arith, ints) in
    let f : suc n * 128 ≡ suc (suc n * 128 - 1) = omega arith in
    subst⁻¹ (λ (i : ℤ). OnGrid (times (of_int binary32 (negsuc n)) y) k i) e
    (subst (λ (i : ℕ). HasValue (times (of_int binary32 (negsuc n)) y) true (i * 2 ^ k) (2 ^ 17)) f (integer_times k 128 y (negsuc n) K (omega arith) (omega arith) v))

cell_key_bound : (key : ℤ) (n : ℕ) → nat_abs key ≤ 4096 → n ≤ 8 → nat_abs (cell_key key n) < 2 ^ 16
cell_key_bound (pos a) n h l = omega arith
cell_key_bound (negsuc a) n h l = omega (arith, ints)

cell_place : (key : ℤ) (n : ℕ) → cell_key key n *ℤ pos 128 ≡ place key (128 * n)
cell_place key n = omega (arith, ints)

-- the plane below the chunk's cell n, `(8 * key + n) as f32 * size`
pub plane_exact : (k : ℕ) (y : Float) (key : ℤ) (n : ℕ) → k ≤ 20 → IsCell y k → nat_abs key ≤ 4096 → n ≤ 8 → OnGrid (times (of_int binary32 (cell_key key n)) y) k (place key (128 * n))
plane_exact k y key n K v h l =
    subst (λ (i : ℤ). OnGrid (times (of_int binary32 (cell_key key n)) y) k i) (cell_place key n) (cells_exact k y (cell_key key n) K v (cell_key_bound key n h l))

-- ---- sums and differences. Two numbers of the same sign:
round_sum : (k : ℕ) (s : Bool) (a b n : ℕ) → k ≤ 20 → a + b < 2 ^ 24 → a + b ≡ n → HasValue (round binary32 s (a * 2 ^ k + b * 2 ^ k) (2 ^ 17)) s (n * 2 ^ k) (2 ^ 17)
round_sum k s a b n K h e = round_units_at s n k (a * 2 ^ k + b * 2 ^ k) K (subst (λ (i : ℕ). i < 2 ^ 24) e h) (sym (add-mul a b (2 ^ k)) ∙ ap (λ (i : ℕ). i * 2 ^ k) e)

-- and of two signs: an exact zero is the positive one
module _ (k : ℕ) (K : k ≤ 20) (a b : ℕ) (A : a < 2 ^ 24) (B : b < 2 ^ 24) where
  abbrev first : ℕ
  first = a * 2 ^ k

  abbrev second : ℕ
  second = b * 2 ^ k

  round_second_less : (n : ℕ) → b - a ≡ n → (s : Bool) → HasValue (round binary32 s (second - first) (2 ^ 17)) s (n * 2 ^ k) (2 ^ 17)
  round_second_less n e s = round_units_at s n k (second - first) K (omega arith) (sym (sub_times b a (2 ^ k)) ∙ ap (λ (i : ℕ). i * 2 ^ k) e)

  round_first_less : (n : ℕ) → a - b ≡ n → (s : Bool) → HasValue (round binary32 s (first - second) (2 ^ 17)) s (n * 2 ^ k) (2 ^ 17)
  round_first_less n e s = round_units_at s n k (first - second) K (omega arith) (sym (sub_times a b (2 ^ k)) ∙ ap (λ (i : ℕ). i * 2 ^ k) e)

  -- a - b
  second_negative : OnGrid (sum binary32 false first true second (2 ^ 17)) k (sub_ℕ a b)
  unfolding sum
  second_negative =
      subst⁻¹ (λ (v : Bool). OnGrid (cond v (round binary32 true (second - first) (2 ^ 17)) (round binary32 false (first - second) (2 ^ 17))) k (sub_ℕ a b)) (ltb_times a b (2 ^ k) (pow_pos k))
      (by_order (ltb a b) (ltb→lt a b))
    where
      by_order : (v : Bool) → (T v → a < b)
          → OnGrid (cond v (round binary32 true (second - first) (2 ^ 17)) (round binary32 false (first - second) (2 ^ 17))) k (cond v (negsuc (b - suc a)) (pos (a - b)))
      by_order true h = let l : a < b = h tt in round_second_less (suc (b - suc a)) (omega arith) true
      by_order false h = round_first_less (a - b) refl false

  -- b - a
  first_negative : OnGrid (sum binary32 true first false second (2 ^ 17)) k (sub_ℕ b a)
  unfolding sum
  first_negative =
      subst⁻¹ (λ (v : Bool). OnGrid (cond v (round binary32 false (second - first) (2 ^ 17)) (round binary32 (true && ltb second first) (first - second) (2 ^ 17))) k (sub_ℕ b a)) (ltb_times a b (2 ^ k) (pow_pos k))
      (subst⁻¹ (λ (w : Bool). OnGrid (cond (ltb a b) (round binary32 false (second - first) (2 ^ 17)) (round binary32 (true && w) (first - second) (2 ^ 17))) k (sub_ℕ b a)) (ltb_times b a (2 ^ k) (pow_pos k))
      (by_order (ltb a b) (ltb b a) (ltb→lt a b) (nltb→le a b) (ltb→lt b a) (nltb→le b a)))
    where
      by_order : (v w : Bool) → (T v → a < b) → (T (not v) → b ≤ a) → (T w → b < a) → (T (not w) → a ≤ b)
          → OnGrid (cond v (round binary32 false (second - first) (2 ^ 17)) (round binary32 (true && w) (first - second) (2 ^ 17))) k (cond w (negsuc (a - suc b)) (pos (b - a)))
      by_order true true h l m n = absurd (omega (arith, h tt, m tt))
      by_order true false h l m n = round_second_less (b - a) refl false
      by_order false true h l m n = let c : b < a = m tt in round_first_less (suc (a - suc b)) (omega arith) true
      by_order false false h l m n = round_first_less (b - a) (omega (arith, l tt, n tt)) false

pub sum_exact : (k : ℕ) (x y : Float) (z w : ℤ) → k ≤ 20 → nat_abs z < 2 ^ 23 → nat_abs w < 2 ^ 23 → OnGrid x k z → OnGrid y k w → OnGrid (plus x y) k (z +ℤ w)
unfolding sum
sum_exact k x y (pos a) (pos b) K h l u v =
    subst⁻¹ (λ (r : Float). OnGrid r k (pos (a + b))) (plus_is x y false false (a * 2 ^ k) (b * 2 ^ k) (2 ^ 17) (pow_pos 17) u v) (round_sum k false a b (a + b) K (omega arith) refl)
sum_exact k x y (pos a) (negsuc b) K h l u v =
    subst⁻¹ (λ (r : Float). OnGrid r k (sub_ℕ a (suc b))) (plus_is x y false true (a * 2 ^ k) (suc b * 2 ^ k) (2 ^ 17) (pow_pos 17) u v) (second_negative k K a (suc b) (omega arith) (omega arith))
sum_exact k x y (negsuc a) (pos b) K h l u v =
    subst⁻¹ (λ (r : Float). OnGrid r k (sub_ℕ b (suc a))) (plus_is x y true false (suc a * 2 ^ k) (b * 2 ^ k) (2 ^ 17) (pow_pos 17) u v) (first_negative k K (suc a) b (omega arith) (omega arith))
sum_exact k x y (negsuc a) (negsuc b) K h l u v =
    subst⁻¹ (λ (r : Float). OnGrid r k (negsuc (suc (a + b)))) (plus_is x y true true (suc a * 2 ^ k) (suc b * 2 ^ k) (2 ^ 17) (pow_pos 17) u v)
    (round_sum k true (suc a) (suc b) (suc (suc (a + b))) K (omega arith) (omega arith))

pub difference_exact : (k : ℕ) (x y : Float) (z w : ℤ) → k ≤ 20 → nat_abs z < 2 ^ 23 → nat_abs w < 2 ^ 23 → OnGrid x k z → OnGrid y k w → OnGrid (minus x y) k (z -ℤ w)
unfolding sum
difference_exact k x y (pos a) (pos b) K h l u v =
    subst⁻¹ (λ (r : Float). OnGrid r k (pos a -ℤ pos b)) (minus_is x y false false (a * 2 ^ k) (b * 2 ^ k) (2 ^ 17) (pow_pos 17) u v)
    (subst⁻¹ (λ (i : ℤ). OnGrid (sum binary32 false (a * 2 ^ k) true (b * 2 ^ k) (2 ^ 17)) k i) (as_subℕ a b) (second_negative k K a b (omega arith) (omega arith)))
  where
    as_subℕ : (a b : ℕ) → pos a -ℤ pos b ≡ sub_ℕ a b
    as_subℕ a ℕ.zero = ap pos {y = a - 0} (omega arith) ∙ sym (ap (λ (v : Bool). cond v (negsuc (0 - suc a)) (pos (a - 0))) (le-ltb a 0 (omega arith)))
    as_subℕ a (suc b) = refl
difference_exact k x y (pos a) (negsuc b) K h l u v =
    subst⁻¹ (λ (r : Float). OnGrid r k (pos (a + suc b))) (minus_is x y false true (a * 2 ^ k) (suc b * 2 ^ k) (2 ^ 17) (pow_pos 17) u v) (round_sum k false a (suc b) (a + suc b) K (omega arith) refl)
difference_exact k x y (negsuc a) (pos b) K h l u v =
    subst⁻¹ (λ (r : Float). OnGrid r k (negsuc a -ℤ pos b)) (minus_is x y true false (suc a * 2 ^ k) (b * 2 ^ k) (2 ^ 17) (pow_pos 17) u v)
    (subst⁻¹ (λ (i : ℤ). OnGrid (sum binary32 true (suc a * 2 ^ k) true (b * 2 ^ k) (2 ^ 17)) k i) {y = negsuc (a + b)} (omega (arith, ints))
    (round_sum k true (suc a) b (suc (a + b)) K (omega arith) (omega arith)))
difference_exact k x y (negsuc a) (negsuc b) K h l u v =
    subst⁻¹ (λ (r : Float). OnGrid r k (sub_ℕ (suc b) (suc a))) (minus_is x y true true (suc a * 2 ^ k) (suc b * 2 ^ k) (2 ^ 17) (pow_pos 17) u v)
    (first_negative k K (suc a) (suc b) (omega arith) (omega arith))

-- how far a grid number of the chunk lies from another one
pub offset_exact : (k : ℕ) (x y : Float) (key : ℤ) (g i : ℕ) → k ≤ 20 → nat_abs key ≤ 4096 → g ≤ 1024 → i ≤ 1024 → OnGrid x k (place key g) → OnGrid y k (place key i)
    → OnGrid (minus y x) k (away i g)
offset_exact k x y key g i K h l m u v =
    let e : place key i -ℤ place key g ≡ away i g = omega (arith, ints) in
    subst (λ (z : ℤ). OnGrid (minus y x) k z) e (difference_exact k y x (place key i) (place key g) K (place_bound key i h m) (place_bound key g h l) v u)

-- ---- halves and centres of cells. An integer and a half are whole numbers of halves, the units at k = 16
half_on_grid : OnGrid half 16 (pos 1)
half_on_grid = value_as half false 1 2 (1 * 2 ^ 16) (2 ^ 17) (omega arith) (omega arith) half_value

integer_on_grid : (n : ℤ) → nat_abs n < 2 ^ 16 → OnGrid (of_int binary32 n) 16 (n *ℤ pos 2)
unfolding of_int
integer_on_grid (pos n) h = value_as (round binary32 false n 1) false n 1 (n * 2 * 2 ^ 16) (2 ^ 17) (omega arith) (omega arith) (round_whole binary32 false n (omega arith))
integer_on_grid (negsuc n) h =
    subst⁻¹ (λ (i : ℤ). OnGrid (round binary32 true (suc n) 1) 16 i) {y = negsuc (suc n * 2 - 1)} (omega (arith, ints))
    (value_as (round binary32 true (suc n) 1) true (suc n) 1 (suc (suc n * 2 - 1) * 2 ^ 16) (2 ^ 17) (omega arith) (omega arith) (round_whole binary32 true (suc n) (omega arith)))

halves_times_cell : (x y : Float) (s : Bool) (n m k : ℕ) → k ≤ 20 → n * 64 < 2 ^ 24 → n * 64 ≡ m → HasValue x s (n * 2 ^ 16) (2 ^ 17) → IsCell y k
    → HasValue (times x y) (unlike s false) (m * 2 ^ k) (2 ^ 17)
halves_times_cell x y s n m k K h e u v =
    subst (λ (i : ℕ). HasValue (times x y) (unlike s false) (i * 2 ^ k) (2 ^ 17)) e
    (subst⁻¹ (λ (z : Float). HasValue z (unlike s false) (n * 64 * 2 ^ k) (2 ^ 17))
    (times_is x y s false (n * 2 ^ 16) (2 ^ 17) (128 * 2 ^ k) (2 ^ 17) (pow_pos 17) (pow_pos 17) u v
    ∙ round_same binary32 (unlike s false) (n * 2 ^ 16 * (128 * 2 ^ k)) (2 ^ 17 * 2 ^ 17) (n * 64 * 2 ^ k) (2 ^ 17) (pow_pos 34) (pow_pos 17) (omega arith))
    (round_units (unlike s false) (n * 64) k K h))

-- the middle of the cell n, `(n as f32 + 0.5) * size`
pub centre_exact : (k : ℕ) (y : Float) (n : ℤ) → k ≤ 20 → IsCell y k → nat_abs n < 2 ^ 16 → OnGrid (times (plus (of_int binary32 n) half) y) k (n *ℤ pos 128 +ℤ pos 64)
centre_exact k y (pos n) K v l =
    let x = plus (of_int binary32 (pos n)) half in
    let s = sum_exact 16 (of_int binary32 (pos n)) half (pos (n * 2)) (pos 1) (omega arith) (omega arith) (omega arith) (integer_on_grid (pos n) l) half_on_grid in
    halves_times_cell x y false (n * 2 + 1) (n * 128 + 64) k K (omega arith) (omega arith) s v
centre_exact k y (negsuc n) K v l =
    let i = of_int binary32 (negsuc n) in
    let twice : negsuc n *ℤ pos 2 ≡ negsuc (suc n * 2 - 1) = omega (arith, ints) in
    let next : negsuc (suc n * 2 - 1) +ℤ pos 1 ≡ negsuc (n * 2) = omega (arith, ints) in
    let e : negsuc n *ℤ pos 128 +ℤ pos 64 ≡ negsuc (suc (n * 2) * 64 - 1) = omega (arith, ints) in
    let at : OnGrid i 16 (negsuc (suc n * 2 - 1)) = subst (λ (z : ℤ). OnGrid i 16 z) twice (integer_on_grid (negsuc n) l) in
    let s : OnGrid (plus i half) 16 (negsuc (n * 2)) =
    subst (λ (z : ℤ). OnGrid (plus i half) 16 z) next (sum_exact 16 i half (negsuc (suc n * 2 - 1)) (pos 1) (omega arith) (omega arith) (omega arith) at half_on_grid) in
    subst⁻¹ (λ (z : ℤ). OnGrid (times (plus i half) y) k z) e (halves_times_cell (plus i half) y true (suc (n * 2)) (suc (suc (n * 2) * 64 - 1)) k K (omega arith) (omega arith) s v)

pub cell_over_two : (k : ℕ) (y : Float) → k ≤ 20 → IsCell y k → OnGrid (over y two) k (pos 64)
cell_over_two k y K v =
    subst⁻¹ (λ (z : Float). HasValue z false (64 * 2 ^ k) (2 ^ 17))
    (over_is y two false false (128 * 2 ^ k) (2 ^ 17) 2 1 (pow_pos 17) (omega arith) (omega arith) v two_value
    ∙ round_same binary32 false (128 * 2 ^ k * 1) (2 * 2 ^ 17) (64 * 2 ^ k) (2 ^ 17) (pow_pos 18) (pow_pos 17) (omega arith))
    (round_units false 64 k K (omega arith))

-- the two faces of the chunk's cell n, as its box has them: its centre less and plus half a cell, r
module _ (k : ℕ) (y r : Float) (key : ℤ) (n : ℕ) (K : k ≤ 20) (v : IsCell y k) (half-cell : OnGrid r k (pos 64)) (h : nat_abs key ≤ 4096) (l : n ≤ 7) where
  cell_centre_on_grid : OnGrid (times (plus (of_int binary32 (cell_key key n)) half) y) k (place key (128 * n + 64))
  cell_centre_on_grid =
      let e : cell_key key n *ℤ pos 128 +ℤ pos 64 ≡ place key (128 * n + 64) = omega (arith, ints) in
      subst (λ (i : ℤ). OnGrid (times (plus (of_int binary32 (cell_key key n)) half) y) k i) e (centre_exact k y (cell_key key n) K v (cell_key_bound key n h (omega arith)))

  pub low_face_exact : OnGrid (minus (times (plus (of_int binary32 (cell_key key n)) half) y) r) k (place key (128 * n))
  low_face_exact =
      let c = times (plus (of_int binary32 (cell_key key n)) half) y in
      let e : place key (128 * n + 64) -ℤ pos 64 ≡ place key (128 * n) = omega (arith, ints) in
      subst (λ (i : ℤ). OnGrid (minus c r) k i) e (difference_exact k c r (place key (128 * n + 64)) (pos 64) K (place_bound key (128 * n + 64) h (omega arith)) (omega arith) cell_centre_on_grid half-cell)

  pub high_face_exact : OnGrid (plus (times (plus (of_int binary32 (cell_key key n)) half) y) r) k (place key (128 * n + 128))
  high_face_exact =
      let c = times (plus (of_int binary32 (cell_key key n)) half) y in
      let e : place key (128 * n + 64) +ℤ pos 64 ≡ place key (128 * n + 128) = omega (arith, ints) in
      subst (λ (i : ℤ). OnGrid (plus c r) k i) e (sum_exact k c r (place key (128 * n + 64)) (pos 64) K (place_bound key (128 * n + 64) h (omega arith)) (omega arith) cell_centre_on_grid half-cell)

-- ---- the point at the start of a line, `origin + direction * start` with a start of zero, is the origin
plus_nothing : (k : ℕ) (s t : Bool) (n : ℕ) → k ≤ 20 → n < 2 ^ 24 → (s ≡ true → 0 < n) → HasValue (sum binary32 s (n * 2 ^ k) t 0 (2 ^ 17)) s (n * 2 ^ k) (2 ^ 17)
unfolding sum
plus_nothing k false false n K h p = round_units_at false n k (n * 2 ^ k + 0) K h (omega arith)
plus_nothing k true true n K h p = round_units_at true n k (n * 2 ^ k + 0) K h (omega arith)
plus_nothing k false true n K h p =
    subst⁻¹ (λ (v : Bool). HasValue (cond v (round binary32 true (0 - n * 2 ^ k) (2 ^ 17)) (round binary32 false (n * 2 ^ k - 0) (2 ^ 17))) false (n * 2 ^ k) (2 ^ 17)) (le-ltb (n * 2 ^ k) 0 (omega arith))
    (round_units_at false n k (n * 2 ^ k - 0) K h (omega arith))
plus_nothing k true false n K h p =
    subst⁻¹ (λ (v : Bool). HasValue (cond v (round binary32 false (0 - n * 2 ^ k) (2 ^ 17)) (round binary32 (true && ltb 0 (n * 2 ^ k)) (n * 2 ^ k - 0) (2 ^ 17))) true (n * 2 ^ k) (2 ^ 17))
    (le-ltb (n * 2 ^ k) 0 (omega arith))
    (subst⁻¹ (λ (v : Bool). HasValue (round binary32 (true && v) (n * 2 ^ k - 0) (2 ^ 17)) true (n * 2 ^ k) (2 ^ 17)) (lt-ltb 0 (n * 2 ^ k) (mul-pos (p refl) (pow_pos k)))
    (round_units_at true n k (n * 2 ^ k - 0) K h (omega arith)))

times_nothing : (d o : Float) (s t : Bool) (a c : ℕ) → 0 < c → HasValue d s a c → HasValue o t 0 1 → HasValue (times d o) (unlike s t) 0 (2 ^ 17)
times_nothing d o s t a c C u v =
    let P : 0 < c * 1 = omega arith in
    subst⁻¹ (λ (z : Float). HasValue z (unlike s t) 0 (2 ^ 17)) (times_is d o s t a c 0 1 C (omega arith) u v)
    (value_as (round binary32 (unlike s t) (a * 0) (c * 1)) (unlike s t) (a * 0) (c * 1) 0 (2 ^ 17) P (omega arith)
    (round_exact binary32 (unlike s t) (a * 0) (c * 1) 0 0 P (omega arith) (omega arith) (omega arith)))

-- d is finite
pub start_exact : (k : ℕ) (x d start : Float) (z : ℤ) (s : Bool) (a c : ℕ) → k ≤ 20 → nat_abs z < 2 ^ 23 → OnGrid x k z → 0 < c → HasValue d s a c → T (eq start zero)
    → OnGrid (plus x (times d start)) k z
start_exact k x d start (pos n) s a c K h g C u o =
    let v = value_of_zero start o in
    subst⁻¹ (λ (r : Float). OnGrid r k (pos n)) (plus_is x (times d start) false (unlike s v.0) (n * 2 ^ k) 0 (2 ^ 17) (pow_pos 17) g (times_nothing d start s v.0 a c C u v.1))
    (plus_nothing k false (unlike s v.0) n K (omega arith) (λ e. absurd (true≢false (sym e))))
start_exact k x d start (negsuc n) s a c K h g C u o =
    let v = value_of_zero start o in
    subst⁻¹ (λ (r : Float). OnGrid r k (negsuc n)) (plus_is x (times d start) true (unlike s v.0) (suc n * 2 ^ k) 0 (2 ^ 17) (pow_pos 17) g (times_nothing d start s v.0 a c C u v.1))
    (plus_nothing k true (unlike s v.0) (suc n) K (omega arith) (λ e. omega arith))

-- ---- the cell that holds a point, `(x / size).floor()` as an integer: dividing by a cell is exact
in_cells : (x y : Float) (k : ℕ) (s : Bool) (n : ℕ) → n < 2 ^ 24 → HasValue x s (n * 2 ^ k) (2 ^ 17) → IsCell y k → HasValue (over x y) (unlike s false) n 128
in_cells x y k s n h u v =
    let P : 0 < 128 * 2 ^ k = mul-pos {m = 128} (omega arith) (pow_pos k) in
    subst⁻¹ (λ (r : Float). HasValue r (unlike s false) n 128)
    (over_is x y s false (n * 2 ^ k) (2 ^ 17) (128 * 2 ^ k) (2 ^ 17) (pow_pos 17) (pow_pos 17) P u v
    ∙ round_same binary32 (unlike s false) (n * 2 ^ k * 2 ^ 17) (128 * 2 ^ k * 2 ^ 17) n 128 (mul-pos P (pow_pos 17)) (omega arith) (omega arith))
    (round_exact binary32 (unlike s false) n 128 n 142 (omega arith) h (omega arith) (omega arith))

-- rounding up sees only the value of the fraction
raised_same : (N D n d : ℕ) → 0 < D → 0 < d → N * d ≡ n * D → (N + D - 1) / D ≡ (n + d - 1) / d
raised_same N D n d P Q e =
    let j = (n + d - 1) / d in
    let reach : j * d ≤ n + d - 1 = (le-div_iff_mul-le Q).0 (le_refl j) in
    let pass : n + d - 1 < suc j * d = (div-lt_iff_lt-mul Q).0 (lt-suc_self j) in
    let a : j * d < n + d = omega arith in
    let b : n ≤ j * d = omega (arith, suc-mul j d) in
    let a' : j * D < N + D = lt_of_mul-lt-mul_right d (omega (arith, mul-lt-mul_of_pos_right a P)) in
    let b' : N ≤ j * D = le_of_mul-le-mul_right {k = d} (omega (arith, mul-le-mul_right D b)) Q in
    let least : j ≤ (N + D - 1) / D = (le-div_iff_mul-le P).1 (omega arith) in
    let most : (N + D - 1) / D < suc j = (div-lt_iff_lt-mul P).1 (omega (arith, suc-mul j D)) in
    omega arith

whole_back : (j : ℕ) → j < 2 ^ 24 → to_signed 31 (round binary32 false j 1) ≡ pos j
unfolding of_int in_float
whole_back j l = (positive_back binary32 31 j (le→leb j (2 ^ 24) (omega arith)) (omega arith)).1

negative_whole_back : (j : ℕ) → j < 2 ^ 23 → to_signed 31 (round binary32 true (suc j) 1) ≡ negsuc j
unfolding of_int in_float
negative_whole_back j l = (negative_back binary32 31 j (lt→ltb j (2 ^ 24) (omega arith)) (omega arith)).1

floor_positive : (x : Float) (n : ℕ) → n < 2 ^ 24 → HasValue x false n 128 → to_signed 31 (Floats.floor binary32 x) ≡ pos (n / 128)
unfolding Floats.round_with
floor_positive nan n h v = absurd v
floor_positive (inf s) n h v = absurd v
floor_positive (fin true m e) n h v = absurd (true≢false v.0)
floor_positive (fin false m e) n h v =
    ap (λ (i : ℕ). to_signed 31 (round binary32 false i 1)) (div_same (m * up e) (down e) n 128 (down_pos e) (omega arith) v.1)
    ∙ whole_back (n / 128) (omega arith)

floor_negative : (x : Float) (n : ℕ) → n < 2 ^ 23 → HasValue x true (suc n) 128 → to_signed 31 (Floats.floor binary32 x) ≡ negsuc (n / 128)
unfolding Floats.round_with
floor_negative nan n h v = absurd v
floor_negative (inf s) n h v = absurd v
floor_negative (fin false m e) n h v = absurd (true≢false (sym v.0))
floor_negative (fin true m e) n h v =
    let w : (suc n + 128 - 1) / 128 ≡ suc (n / 128) = omega arith in
    ap (λ (i : ℕ). to_signed 31 (round binary32 true i 1)) (raised_same (m * up e) (down e) (suc n) 128 (down_pos e) (omega arith) v.1 ∙ w)
    ∙ negative_whole_back (n / 128) (omega arith)

-- the whole number of cells at or below z units
abbrev pub cell_at : ℤ → ℤ
cell_at (pos n) = pos (n / 128)
cell_at (negsuc n) = negsuc (n / 128)

pub floor_exact : (k : ℕ) (x y : Float) (z : ℤ) → nat_abs z < 2 ^ 23 → OnGrid x k z → IsCell y k → to_signed 31 (Floats.floor binary32 (over x y)) ≡ cell_at z
floor_exact k x y (pos n) h u v = floor_positive (over x y) n (omega arith) (in_cells x y k false n (omega arith) u v)
floor_exact k x y (negsuc n) h u v = floor_negative (over x y) n (omega arith) (in_cells x y k true (suc n) (omega arith) u v)

cell_of_place : (key : ℤ) (g : ℕ) → g ≤ 1023 → cell_at (place key g) ≡ cell_key key (g / 128)
cell_of_place (pos a) g h = ap pos (omega arith)
cell_of_place (negsuc a) g h =
    let e : place (negsuc a) g ≡ negsuc (1024 * suc a - g - 1) = omega (arith, ints) in
    let j : (1024 * suc a - g - 1) / 128 ≡ 8 * suc a - g / 128 - 1 = omega arith in
    ap cell_at e ∙ ap negsuc j ∙ omega (arith, ints)

pub key_exact : (k : ℕ) (x y : Float) (key : ℤ) (g : ℕ) → nat_abs key ≤ 4096 → g ≤ 1023 → OnGrid x k (place key g) → IsCell y k
    → to_signed 31 (Floats.floor binary32 (over x y)) ≡ cell_key key (g / 128)
key_exact k x y key g h l u v = floor_exact k x y (place key g) (place_bound key g h (omega arith)) u v ∙ cell_of_place key g l

-- ---- numbers on one grid compare as the whole numbers do
pub zero_on_grid : (k : ℕ) → OnGrid zero k (pos 0)
zero_on_grid k = value_as zero false 0 1 (0 * 2 ^ k) (2 ^ 17) (omega arith) (omega arith) zero_value

pub grid_lt : (k : ℕ) (x y : Float) (z w : ℤ) → OnGrid x k z → OnGrid y k w → lt x y ≡ lt_z z w
grid_lt k x y (pos a) (pos b) u v = lt_is x y false false (a * 2 ^ k) (b * 2 ^ k) (2 ^ 17) (pow_pos 17) u v ∙ ltb_times a b (2 ^ k) (pow_pos k)
grid_lt k x y (pos a) (negsuc b) u v = lt_is x y false true (a * 2 ^ k) (suc b * 2 ^ k) (2 ^ 17) (pow_pos 17) u v
grid_lt k x y (negsuc a) (pos b) u v =
    lt_is x y true false (suc a * 2 ^ k) (b * 2 ^ k) (2 ^ 17) (pow_pos 17) u v ∙ lt-ltb 0 (suc a * 2 ^ k + b * 2 ^ k) (omega (arith, mul-pos {m = suc a} (omega arith) (pow_pos k)))
grid_lt k x y (negsuc a) (negsuc b) u v =
    lt_is x y true true (suc a * 2 ^ k) (suc b * 2 ^ k) (2 ^ 17) (pow_pos 17) u v ∙ ltb_times (suc b) (suc a) (2 ^ k) (pow_pos k) ∙ ltb_suc b a
  where
    ltb_suc : (a b : ℕ) → ltb (suc a) (suc b) ≡ ltb a b
    ltb_suc a b = grind (arith, nat_tests)

signed_value : (k : ℕ) (x : Float) (z : ℤ) → OnGrid x k z → (s : Bool) × HasValue x s (nat_abs z * 2 ^ k) (2 ^ 17)
signed_value k x (pos n) u = (false, u)
signed_value k x (negsuc n) u = (true, u)

level_equal : (s : Bool) (a b : ℕ) → a ≡ b → level s a s b ≡ true
level_equal true a b e = ap (λ (v : Bool). v && true) (eq-eqb a b e)
level_equal false a b e = ap (λ (v : Bool). v && true) (eq-eqb a b e)

level_unequal : (s t : Bool) (a b : ℕ) → (a ≡ b → ⊥) → level s a t b ≡ false
level_unequal s t a b n = ap (λ (v : Bool). v && (beq s t || eqb a 0)) (ne_eqb a b n)

level_across : (a b : ℕ) → 0 < a + b → (level false a true b ≡ false) × (level true a false b ≡ false)
level_across a b h = (grind (arith, nat_tests), grind (arith, nat_tests))

unequal_times : (a b K : ℕ) → 0 < K → (a ≡ b → ⊥) → a * K ≡ b * K → ⊥
unequal_times a b K P n e = n (eq_of_mul-eq-mul_right K P a b e)

pub grid_eq : (k : ℕ) (x y : Float) (z w : ℤ) → OnGrid x k z → OnGrid y k w → (z ≡ w → eq x y ≡ true) × ((z ≡ w → ⊥) → eq x y ≡ false)
grid_eq k x y (pos a) (pos b) u v =
    let e = eq_is x y false false (a * 2 ^ k) (b * 2 ^ k) (2 ^ 17) (pow_pos 17) u v in (
      λ q. e ∙ level_equal false (a * 2 ^ k) (b * 2 ^ k) (ap (λ (i : ℕ). i * 2 ^ k) (ap nat_abs q)),
      λ n. e ∙ level_unequal false false (a * 2 ^ k) (b * 2 ^ k) (unequal_times a b (2 ^ k) (pow_pos k) (λ q. n (ap pos q))),
    )
grid_eq k x y (pos a) (negsuc b) u v = (
  λ q. absurd (pos-ne-negsuc a b q),
  λ n. eq_is x y false true (a * 2 ^ k) (suc b * 2 ^ k) (2 ^ 17) (pow_pos 17) u v ∙ (level_across (a * 2 ^ k) (suc b * 2 ^ k) (omega (arith, mul-pos {m = suc b} (omega arith) (pow_pos k)))).0,
)
grid_eq k x y (negsuc a) (pos b) u v = (
  λ q. absurd (pos-ne-negsuc b a (sym q)),
  λ n. eq_is x y true false (suc a * 2 ^ k) (b * 2 ^ k) (2 ^ 17) (pow_pos 17) u v ∙ (level_across (suc a * 2 ^ k) (b * 2 ^ k) (omega (arith, mul-pos {m = suc a} (omega arith) (pow_pos k)))).1,
)
grid_eq k x y (negsuc a) (negsuc b) u v =
    let e = eq_is x y true true (suc a * 2 ^ k) (suc b * 2 ^ k) (2 ^ 17) (pow_pos 17) u v in (
      λ q. e ∙ level_equal true (suc a * 2 ^ k) (suc b * 2 ^ k) (ap (λ (i : ℕ). i * 2 ^ k) (ap nat_abs q)),
      λ n. e ∙ level_unequal true true (suc a * 2 ^ k) (suc b * 2 ^ k) (unequal_times (suc a) (suc b) (2 ^ k) (pow_pos k) (λ q. n (cc))),
    )

-- a place in a chunk lies between two planes where its grid number does
places_between : (key : ℤ) (g i j : ℕ)
    → (i ≤ g → g ≤ j → lt_z (place key g) (place key i) || lt_z (place key j) (place key g) ≡ false) × (lt_z (place key g) (place key i) || lt_z (place key j) (place key g) ≡ false → (i ≤ g) × (g ≤ j))
places_between key g i j = (λ a b. grind (arith, ints), λ s. (grind (arith, ints), grind (arith, ints)))

pub between_planes : (k : ℕ) (x lo hi : Float) (key : ℤ) (g i j : ℕ) → OnGrid x k (place key g) → OnGrid lo k (place key i) → OnGrid hi k (place key j)
    → (i ≤ g → g ≤ j → lt x lo || lt hi x ≡ false) × (lt x lo || lt hi x ≡ false → (i ≤ g) × (g ≤ j))
between_planes k x lo hi key g i j X L U =
    let low = grid_lt k x lo (place key g) (place key i) X L in
    let high = grid_lt k hi x (place key j) (place key g) U X in
    let same : lt x lo || lt hi x ≡ lt_z (place key g) (place key i) || lt_z (place key j) (place key g) = rw (low, high) in
    let b = places_between key g i j in
    (λ l h. same ∙ b.0 l h, λ e. b.1 (sym same ∙ e))

-- the offset of two places in a chunk is zero where they are one, and nowhere else
pub offset_zero : (k : ℕ) (x y : Float) (key : ℤ) (g h : ℕ) → k ≤ 20 → nat_abs key ≤ 4096 → g ≤ 1024 → h ≤ 1024 → OnGrid x k (place key g) → OnGrid y k (place key h)
    → (g ≡ h → eq (minus y x) zero ≡ true) × ((g ≡ h → ⊥) → eq (minus y x) zero ≡ false)
offset_zero k x y key g h K l G H X Y =
    let e = grid_eq k (minus y x) zero (away h g) (pos 0) (offset_exact k x y key g h K l G H X Y) (zero_on_grid k) in
    (λ q. e.0 (omega (arith, ints)), λ n. e.1 (λ q. n (omega (arith, ints))))
