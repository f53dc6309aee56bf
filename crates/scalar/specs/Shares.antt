-- The share of a line's way at which it meets a plane, p / q, beside the floats that stand for it: a quotient of grid numbers, rounded once,
-- and a product with a rounded reciprocal, rounded twice.
use Rattle.std.specs.Prelude.{◌≡◌, ℕ, ◌+◌, ◌*◌, ◌^◌, ◌<◌, ◌≤◌, Bool, true, false, ℤ, pos, negsuc, Float}
use Rattle.std.specs.Float.Ieee.Exact.{HasValue}
use Rattle.scalar.specs.Single.{times, over, one}

-- v has the sign s, and its size differs from p / q by at most 2 ^ -22 of p / q: it is `units` of 2 ^ -149
pub record Close (s : Bool) (p q : ℕ) (v : Float) : Type 0 where
  pub units : ℕ
  pub value : HasValue v s units (2 ^ 149)
  pub most : units * q * 2 ^ 22 ≤ p * 2 ^ 149 * 2 ^ 22 + p * 2 ^ 149
  pub least : p * 2 ^ 149 * 2 ^ 22 ≤ units * q * 2 ^ 22 + p * 2 ^ 149

-- x is p and y is q of one and the same unit, 2 ^ k / 2 ^ 17, with the signs s and t; q is not zero
pub record Terms (s t : Bool) (p q : ℕ) (x y : Float) : Type 0 where
  pub k : ℕ
  pub k_most : k ≤ 20
  pub p_most : p ≤ 1024
  pub q_least : 0 < q
  pub q_most : q ≤ 1023
  pub x_is : HasValue x s (p * 2 ^ k) (2 ^ 17)
  pub y_is : HasValue y t (q * 2 ^ k) (2 ^ 17)

-- a number of the size p, over anything, with the sign s is not below zero; the negative zero is not
abbrev pub NotNegative : Bool → ℕ → Type 0
NotNegative s p = s ≡ true → p ≡ 0

abbrev pub is_negative : ℤ → Bool
is_negative (pos n) = false
is_negative (negsuc n) = true

-- n / d and n * (1 / d), as floats, have the sign s and are close to p / q
pub record Time (s : Bool) (p q : ℕ) (n d : Float) : Type 0 where
  pub quotient : Close s p q (over n d)
  pub product : Close s p q (times n (over one d))
