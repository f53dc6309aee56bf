-- A normal value as a whole number of 47 or 48 binary digits, whose root then has 24.
use Rattle.std.specs.Prelude.{ℕ, ◌+◌, ◌*◌, ◌^◌, ◌<◌, ◌≤◌, false, Float}
use Rattle.std.specs.Float.Ieee.Exact.{HasValue}

-- x is n * 2 ^ (2 * k) / 2 ^ 298, so its root is 2 ^ k times the root of n, in units of 2 ^ -149
pub record Scaled (x : Float) (n k : ℕ) : Type 0 where
  pub least : 2 ^ 46 ≤ n
  pub most : n < 2 ^ 48
  pub small : k ≤ 189
  pub value : HasValue x false (n * 2 ^ (k + k)) (2 ^ 298)
