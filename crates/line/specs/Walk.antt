-- Walks from cell to cell along a line from o to t, by any rule for the next cell.
use Rattle.std.specs.Prelude.{◌≡◌, ℕ, zero, suc, ◌+◌, ◌*◌, ◌/◌, ◌<◌, ◌≤◌, ◌⊎◌, List, [], ◌∷◌, Some, None, Option}
use Rattle.line.specs.Line.{Point, Cell, Axis, X, Y, Z, coordinate, index, Share, NoLater, TouchesAt}

-- a place in the grid of 8 cells on each axis
abbrev pub InGrid : Point → Type 0
InGrid p = (i : Axis) → coordinate p i ≤ 1023

-- the cell that a place lies in, the upper one where it lies between two
abbrev pub cell_of : Point → Cell
cell_of p = record { x = p.x / 128; y = p.y / 128; z = p.z / 128 }

abbrev pub with_index : Cell → Axis → ℕ → Cell
with_index c X n = record { x = n; y = c.y; z = c.z }
with_index c Y n = record { x = c.x; y = n; z = c.z }
with_index c Z n = record { x = c.x; y = c.y; z = n }

-- ---- steps

-- on one axis, the line reaches the face ahead of the cell k at the share s, and behind the face is the cell n:
-- what is gone at s is the way to the face, and what is left is the way from there to t
pub data Step (o t k : ℕ) (s : Share) (n : ℕ) : Type 0 where
  up : o < t → o + s.gone ≡ 128 * k + 128 → 128 * k + 128 + s.left ≡ t → n ≡ k + 1 → Step o t k s n
  down : t < o → 128 * k + s.gone ≡ o → t + s.left ≡ 128 * k → k ≡ n + 1 → Step o t k s n

-- no step from the cell c comes before the share s
abbrev pub Least : Point → Point → Cell → Share → Type 0
Least o t c s = (j : Axis) (r : Share) (n : ℕ) → Step (coordinate o j) (coordinate t j) (index c j) r n → NoLater s r

-- a least step leads from the cell c to the cell d
pub record LeastStep (o t : Point) (c d : Cell) : Type 0 where
  pub axis : Axis
  pub next : ℕ
  pub share : Share
  pub step : Step (coordinate o axis) (coordinate t axis) (index c axis) share next
  pub least : Least o t c share
  pub leads : d ≡ with_index c axis next

-- on one axis, the line does not pass the face ahead of the cell k before t
pub record Reaches (o t k : ℕ) : Type 0 where
  pub up : o < t → t ≤ 128 * k + 128
  pub down : t < o → 128 * k ≤ t

-- the line does not leave the cell c before t, so a walk may end there
abbrev pub MayEnd : Point → Point → Cell → Type 0
MayEnd o t c = (i : Axis) → Reaches (coordinate o i) (coordinate t i) (index c i)

-- ---- rules for the next cell

-- none only where a walk may end, else the cell that a least step leads to, whichever where several are least
abbrev pub Choice : Point → Point → Cell → Option Cell → Type 0
Choice o t c None = MayEnd o t c
Choice o t c (Some d) = LeastStep o t c d

-- the rule chooses so at every cell that the line touches
abbrev pub Chooses : Point → Point → (Cell → Option Cell) → Type 0
Chooses o t rule = (c : Cell) (s : Share) → TouchesAt o t c s → Choice o t c (rule c)

-- ---- the cells that the walk by a rule stands on, from c and at most so many
abbrev pub walk_on : (Cell → List Cell) → Option Cell → List Cell
walk_on rest None = []
walk_on rest (Some d) = rest d

unfoldable pub walk : (Cell → Option Cell) → ℕ → Cell → List Cell
walk rule zero c = []
walk rule (suc n) c = c ∷ walk_on (walk rule n) (rule c)

abbrev pub Visits : List Cell → Cell → Type 0
Visits [] c = ⊥
Visits (d ∷ ds) c = (d ≡ c) ⊎ Visits ds c
