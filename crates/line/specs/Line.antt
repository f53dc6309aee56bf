-- The exact sight line from a camera o to a target t through a grid of cells: which cells it touches and crosses, and when it enters them.
-- All numbers are whole, in units of 1/128 of a cell's edge.
use Rattle.std.specs.Prelude.{ℕ, ◌+◌, ◌*◌, ◌<◌, ◌≤◌}

-- a place, in units
pub record Point : Type 0 where
  pub x : ℕ
  pub y : ℕ
  pub z : ℕ

-- a cell by its indices
pub record Cell : Type 0 where
  pub x : ℕ
  pub y : ℕ
  pub z : ℕ

pub data Axis : Type 0 where
  X Y Z : Axis

abbrev pub coordinate : Point → Axis → ℕ
coordinate p X = p.x
coordinate p Y = p.y
coordinate p Z = p.z

abbrev pub index : Cell → Axis → ℕ
index c X = c.x
index c Y = c.y
index c Z = c.z

-- ---- a share of the way from o to t: the fraction gone / (gone + left), from 0 at o to 1 at t
pub record Share : Type 0 where
  pub gone : ℕ
  pub left : ℕ
  pub positive : 0 < gone + left

abbrev pub parts : Share → ℕ
parts s = s.gone + s.left

-- s ≤ r, as fractions
abbrev pub NoLater : Share → Share → Type 0
NoLater s r = s.gone * parts r ≤ r.gone * parts s

-- the coordinate o + (gone / parts) * (t - o) that the line has at the share s, times the parts of s: left * o + gone * t
abbrev pub scaled_coordinate : Share → ℕ → ℕ → ℕ
scaled_coordinate s o t = s.left * o + s.gone * t

-- ---- a cell, which goes from 128 * k to 128 * k + 128 on an axis where its index is k

-- on one axis, the line is at the share s within the cell's bounds, ends included
pub record Within (s : Share) (o t k : ℕ) : Type 0 where
  pub low : parts s * (128 * k) ≤ scaled_coordinate s o t
  pub high : scaled_coordinate s o t ≤ parts s * (128 * k + 128)

-- the same, ends left out
pub record StrictlyWithin (s : Share) (o t k : ℕ) : Type 0 where
  pub low : parts s * (128 * k) < scaled_coordinate s o t
  pub high : scaled_coordinate s o t < parts s * (128 * k + 128)

abbrev pub TouchesAt : Point → Point → Cell → Share → Type 0
TouchesAt o t c s = (i : Axis) → Within s (coordinate o i) (coordinate t i) (index c i)

abbrev pub CrossesAt : Point → Point → Cell → Share → Type 0
CrossesAt o t c s = (i : Axis) → StrictlyWithin s (coordinate o i) (coordinate t i) (index c i)

-- somewhere on the way the line is on or in the cell
abbrev pub Touches : Point → Point → Cell → Type 0
Touches o t c = (s : Share) × TouchesAt o t c s

-- somewhere on the way the line is strictly inside the cell
abbrev pub Crosses : Point → Point → Cell → Type 0
Crosses o t c = (s : Share) × CrossesAt o t c s

-- the line enters the cell at the share s, the least that touches it
pub record Entry (o t : Point) (c : Cell) (s : Share) : Type 0 where
  pub touches : TouchesAt o t c s
  pub first : (r : Share) → TouchesAt o t c r → NoLater s r
