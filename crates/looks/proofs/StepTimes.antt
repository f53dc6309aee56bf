-- The time of a step in floats is the quotient of its step fraction, rounded once, so times compare as the fractions do.
use Rattle.std.proofs.Common.{◌≡◌, ℕ, suc, ◌+◌, ◌-◌, ◌*◌, ◌<◌, ◌≤◌, Bool, true, false, ltb, ℤ, pos, negsuc, nat_abs, sym, refl, ap, ◌∙◌, subst, inl, inr, true≢false, arith}
use mathlib.Core.Path.{subst⁻¹}
use lib.Signed.{lt_z}
use lib.Ieee.{Float, unlike, lt}
use lib.Ieee.Bits.{is_true, is_false}
use Rattle.std.proofs.lemmas.Int.{ints}
use Rattle.std.proofs.lemmas.Bool.{cases_lt, cases_order, lt-ltb, le-ltb}
use Rattle.scalar.specs.Single.{minus, over, zero, largest}
use Rattle.scalar.specs.Grid.{OnGrid, place, away}
use Rattle.scalar.specs.Shares.{Close, Terms, NotNegative, is_negative}
use Rattle.scalar.proofs.Order.{le_of_lt, not_lt_of_le, lt_irrefl}
use Rattle.scalar.proofs.Values.{zero_value, lt_is}
use Rattle.scalar.proofs.Grid.{offset_exact, zero_on_grid, grid_lt}
use Rattle.scalar.proofs.Shares.{quotient_close, quotient_lt, close_zero, close_not_below_zero, close_below_largest, plus_not_negative, plane_terms}
use Rattle.voxels.specs.Chunk.{from_zero, step_time, next_place}
use Rattle.line.specs.Line.{Share, Within}
use Rattle.line.proofs.Steps.{rising_not_past, falling_not_past}
use Rattle.line.proofs.StepFractions.{step_fraction_rising, step_fraction_falling, step_fraction_level}
use Rattle.line.specs.StepFractions.{StepFraction, step_fraction, next_index}

-- ---- the time v of the step fraction f: its quotient, rounded once, or the largest value where the line keeps its height
pub data StepTimeOf (f : StepFraction) (v : Float) : Type 0 where
  moves : (s t : Bool) (x y : Float) → Terms s t f.gap f.size x y → NotNegative (unlike s t) f.gap → v ≡ over x y → StepTimeOf f v
  still : f.gap ≡ 1 → f.size ≡ 0 → v ≡ largest → StepTimeOf f v

-- times compare as their fractions do
pub step_time_lt : (f g : StepFraction) (v w : Float) → StepTimeOf f v → StepTimeOf g w → lt v w ≡ ltb (f.gap * g.size) (g.gap * f.size)
step_time_lt f g v w (moves s t x y a n e) (moves s' t' x' y' a' n' e') =
    rw (e, e') (quotient_lt s t s' t' f.gap f.size g.gap g.size x y x' y' a a' n n')
step_time_lt f g v w (moves s t x y a n e) (still p q e') =
    rw (e, e')
    (is_true (lt (over x y) largest) (close_below_largest (unlike s t) f.gap f.size (over x y) a.q_least a.p_most (quotient_close s t f.gap f.size x y a))
    ∙ sym (lt-ltb (f.gap * g.size) (g.gap * f.size) (omega (arith, a.q_least, ap (λ (i : ℕ). i * f.size) p, ap (λ (i : ℕ). f.gap * i) q))))
step_time_lt f g v w (still p q e) (moves s' t' x' y' a' n' e') =
    let c = close_below_largest (unlike s' t') g.gap g.size (over x' y') a'.q_least a'.p_most (quotient_close s' t' g.gap g.size x' y' a') in
    rw (e, e')
    (is_false (lt largest (over x' y')) (not_lt_of_le (over x' y') largest (le_of_lt (over x' y') largest c))
    ∙ sym (le-ltb (f.gap * g.size) (g.gap * f.size) (omega (arith, a'.q_least, ap (λ (i : ℕ). i * g.size) p, ap (λ (i : ℕ). g.gap * i) q))))
step_time_lt f g v w (still p q e) (still p' q' e') =
    rw (e, e')
    (is_false (lt largest largest) (lt_irrefl largest)
    ∙ sym (le-ltb (f.gap * g.size) (g.gap * f.size) (omega (arith, ap (λ (i : ℕ). f.gap * i) q', ap (λ (i : ℕ). g.gap * i) q))))

-- ---- one axis: x is the camera, at the grid number g, y the target, at h, and lo and hi are the faces of the cell n, which the line touches

-- a time is not below zero, though it may be the negative zero
quotient_kept : (s t : Bool) (p q : ℕ) (x y : Float) → Terms s t p q x y → NotNegative (unlike s t) p → from_zero (over x y) ≡ over x y
quotient_kept s t p q x y a n = rw (by_sign (unlike s t) n (quotient_close s t p q x y a))
  where
    by_sign : (b : Bool) → NotNegative b p → Close b p q (over x y) → lt (over x y) zero ≡ false
    by_sign false n c = is_false (lt (over x y) zero) (not_lt_of_le zero (over x y) (close_not_below_zero p q (over x y) c))
    by_sign true n c =
        lt_is (over x y) zero true false 0 0 1 (omega arith) (close_zero true q (over x y) a.q_least (subst (λ (i : ℕ). Close true i q (over x y)) (n refl) c)) zero_value

module _ (u : ℕ) (x y lo hi : Float) (key : ℤ) (g h n : ℕ) (K : u ≤ 20) (l : nat_abs key ≤ 4096) (G : g ≤ 1023) (H : h ≤ 1023) (N : n ≤ 7)
    (XG : OnGrid x u (place key g)) (YG : OnGrid y u (place key h)) (L : OnGrid lo u (place key (128 * n))) (U : OnGrid hi u (place key (128 * n + 128))) where
  direction_exact : OnGrid (minus y x) u (away h g)
  direction_exact = offset_exact u x y key g h K l (omega arith) (omega arith) XG YG

  rises : lt zero (minus y x) ≡ ltb g h
  rises =
      let e : lt_z (pos 0) (away h g) ≡ ltb g h = grind (arith, ints) in
      grid_lt u zero (minus y x) (pos 0) (away h g) (zero_on_grid u) direction_exact ∙ e

  falls : lt (minus y x) zero ≡ ltb h g
  falls =
      let e : lt_z (away h g) (pos 0) ≡ ltb h g = grind (arith, ints) in
      grid_lt u (minus y x) zero (away h g) (pos 0) direction_exact (zero_on_grid u) ∙ e

  pub next_place_exact : next_place n (minus y x) ≡ next_index g h n
  unfolding next_place next_index
  next_place_exact = rw rises

  rising_terms : g < h → g ≤ 128 * n + 128 → Terms false false (128 * n + 128 - g) (h - g) (minus hi x) (minus y x)
  rising_terms m r =
      let i = 128 * n + 128 in
      let z : away i g ≡ pos (i - g) = omega (arith, ints) in
      let w : away h g ≡ pos (h - g) = omega (arith, ints) in
      subst (λ (b : ℤ). Terms false (is_negative b) (i - g) (nat_abs b) (minus hi x) (minus y x)) w
      (subst (λ (b : ℤ). Terms (is_negative b) (is_negative (away h g)) (nat_abs b) (nat_abs (away h g)) (minus hi x) (minus y x)) z
      (plane_terms u x y hi key g h i K l G H (omega arith) XG YG U (λ e. omega arith)))

  falling_terms : h < g → 128 * n ≤ g → Terms (is_negative (away (128 * n) g)) true (g - 128 * n) (g - h) (minus lo x) (minus y x)
  falling_terms m r =
      let i = 128 * n in
      let z : nat_abs (away i g) ≡ g - i = omega (arith, ints) in
      let w : away h g ≡ negsuc (g - h - 1) = omega (arith, ints) in
      let v : suc (g - h - 1) ≡ g - h = omega arith in
      subst (λ (j : ℕ). Terms (is_negative (away i g)) true (g - i) j (minus lo x) (minus y x)) v
      (subst (λ (b : ℤ). Terms (is_negative (away i g)) (is_negative b) (g - i) (nat_abs b) (minus lo x) (minus y x)) w
      (subst (λ (j : ℕ). Terms (is_negative (away i g)) (is_negative (away h g)) j (nat_abs (away h g)) (minus lo x) (minus y x)) z
      (plane_terms u x y lo key g h i K l G H (omega arith) XG YG L (λ e. omega arith))))

  falling_not_negative : 128 * n ≤ g → NotNegative (unlike (is_negative (away (128 * n) g)) true) (g - 128 * n)
  falling_not_negative r e = elim (cases_lt (128 * n) g) [
    | inl m ↦
        let z : away (128 * n) g ≡ negsuc (g - 128 * n - 1) = omega (arith, ints) in
        absurd (true≢false (sym e ∙ ap (λ (b : ℤ). unlike (is_negative b) true) z))
    | inr m ↦ omega arith
  ]

  pub step_time_exact : (s : Share) → Within s g h n → StepTimeOf (step_fraction g h n) (step_time lo hi x (minus y x))
  unfolding step_time
  step_time_exact s w = elim (cases_order g h) [
    | inl e ↦
        subst⁻¹ (λ (f : StepFraction). StepTimeOf f (step_time lo hi x (minus y x))) (step_fraction_level g h n e)
        (still refl refl (rw (rises, falls, le-ltb g h (omega arith), le-ltb h g (omega arith))))
    | inr (inl m) ↦
        let a = rising_terms m (rising_not_past g h n s m w) in
        let k = plus_not_negative (128 * n + 128 - g) in
        subst⁻¹ (λ (f : StepFraction). StepTimeOf f (step_time lo hi x (minus y x))) (step_fraction_rising g h n m)
        (moves false false (minus hi x) (minus y x) a k
        (rw (rises, lt-ltb g h m) (quotient_kept false false (128 * n + 128 - g) (h - g) (minus hi x) (minus y x) a k)))
    | inr (inr m) ↦
        let r = falling_not_past g h n s m w in
        let a = falling_terms m r in
        let k = falling_not_negative r in
        let b = is_negative (away (128 * n) g) in
        subst⁻¹ (λ (f : StepFraction). StepTimeOf f (step_time lo hi x (minus y x))) (step_fraction_falling g h n m)
        (moves b true (minus lo x) (minus y x) a k
        (rw (rises, falls, le-ltb g h (omega arith), lt-ltb h g m) (quotient_kept b true (g - 128 * n) (g - h) (minus lo x) (minus y x) a k)))
  ]
