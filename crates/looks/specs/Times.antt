-- A time in floats beside a share of the exact line's way.
use Rattle.std.specs.Prelude.{ℕ, ◌+◌, ◌*◌, ◌^◌, ◌≤◌, Bool, Float}
use Rattle.std.specs.Float.Ieee.Exact.{HasValue}
use Rattle.scalar.specs.Shares.{NotNegative}
use Rattle.line.specs.Line.{Share, parts}

-- v is not below zero, and differs from the share s by at most 2 ^ -22: it is `units` of 2 ^ -149
pub record TimeNear (s : Share) (v : Float) : Type 0 where
  pub sign : Bool
  pub units : ℕ
  pub value : HasValue v sign units (2 ^ 149)
  pub not_negative : NotNegative sign units
  pub most : units * parts s * 2 ^ 22 ≤ s.gone * 2 ^ 149 * 2 ^ 22 + parts s * 2 ^ 149
  pub least : s.gone * 2 ^ 149 * 2 ^ 22 ≤ units * parts s * 2 ^ 22 + parts s * 2 ^ 149
