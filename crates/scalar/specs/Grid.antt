-- Numbers on the grid of a room, as values of binary32.
-- A cell measures 2 ^ e, with e from -10 to 10, and a unit is 1/128 of it. With k = e + 10, from 0 to 20, a unit is 2 ^ k / 2 ^ 17.
use Rattle.std.specs.Prelude.{ℕ, suc, ◌*◌, ◌^◌, true, false, ℤ, pos, negsuc, ◌+ℤ◌, ◌-ℤ◌, ◌*ℤ◌, Float}
use Rattle.std.specs.Float.Ieee.Exact.{HasValue}

-- x is exactly z units, and is no negative zero
abbrev pub OnGrid : Float → ℕ → ℤ → Type 0
OnGrid x k (pos n) = HasValue x false (n * 2 ^ k) (2 ^ 17)
OnGrid x k (negsuc n) = HasValue x true (suc n * 2 ^ k) (2 ^ 17)

-- u is one unit
abbrev pub IsUnit : Float → ℕ → Type 0
IsUnit u k = HasValue u false (2 ^ k) (2 ^ 17)

-- y is the size of a cell
abbrev pub IsCell : Float → ℕ → Type 0
IsCell y k = HasValue y false (128 * 2 ^ k) (2 ^ 17)

-- ---- along one axis of the chunk `key`, which has 8 cells and so 1024 units

-- where the grid number g of the chunk stands, in units
abbrev pub place : ℤ → ℕ → ℤ
place key g = pos 1024 *ℤ key +ℤ pos g

-- the number of the chunk's cell n among the cells of the whole space
abbrev pub cell_key : ℤ → ℕ → ℤ
cell_key key n = pos 8 *ℤ key +ℤ pos n

-- how far the grid number i lies beyond g, in units
abbrev pub away : ℕ → ℕ → ℤ
away i g = pos i -ℤ pos g
