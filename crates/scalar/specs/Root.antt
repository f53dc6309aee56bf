-- What the square root of a value of binary32 is, in whole numbers only.
use Rattle.std.specs.Prelude.{◌≡◌, ℕ, zero, suc, ◌+◌, ◌*◌, ◌^◌, ◌<◌, true, false, T, Float}
use Rattle.std.specs.Float.{nan, inf, fin, binary32}
use Rattle.std.specs.Float.Ieee.{up, down, fits}
use Rattle.std.specs.Float.Ieee.Exact.{HasValue}

-- r is the value of binary32 that is nearest to the root of the fraction a / c, which is above zero.
-- Every value is a whole number of 2 ^ -149, and r is `units` of them. Let y be another value that is not negative, q of them: the middle of the two is
-- (units + q) / 2 ^ 150, and the root lies on r's side of it. `HasValue y false q (2 ^ 149)` says that y is q / 2 ^ 149, with the sign bit clear.
pub record NearestRoot (a c : ℕ) (r : Float) : Type 0 where
  pub units : ℕ
  pub value : HasValue r false units (2 ^ 149)
  pub above : (y : Float) (q : ℕ) → T (fits binary32 y) → HasValue y false q (2 ^ 149) → units < q → a * 2 ^ 300 < (units + q) * (units + q) * c
  pub below : (y : Float) (q : ℕ) → T (fits binary32 y) → HasValue y false q (2 ^ 149) → q < units → (units + q) * (units + q) * c < a * 2 ^ 300

-- r is the root of x. A zero is its own root, sign and all, and so is +infinity; what is below zero, and a NaN, has none.
abbrev pub RootOf : Float → Float → Type 0
RootOf nan r = r ≡ nan
RootOf (inf false) r = r ≡ inf false
RootOf (inf true) r = r ≡ nan
RootOf (fin s zero e) r = r ≡ fin s 0 e
RootOf (fin true (suc m) e) r = r ≡ nan
RootOf (fin false (suc m) e) r = NearestRoot (suc m * up e) (down e) r
