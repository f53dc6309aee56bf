-- What a look says, in the words of the exact line from camera to target.
use Rattle.std.specs.Prelude.{◌≡◌, ℕ, ◌+◌, ◌*◌, ◌≤◌, Bool, true, false, is_some, Some, None, Option, Float}
use Rattle.query.specs.declared.ray.RayIntersection.{RayIntersection}
use Rattle.query.specs.declared.feature_id.FeatureId.TheVariants.{Face}
use Rattle.voxels.specs.declared.chunk_cast.ChunkCast.{ChunkCast}
use Rattle.grid.specs.Frame.{cell_number}
use Rattle.voxels.specs.Chunk.{stops}
use Rattle.line.specs.Line.{Point, Cell, Axis, index, Share, NoLater, TouchesAt, Touches, Crosses, Entry}
use Rattle.looks.specs.Units.{key_of_cell}
use Rattle.looks.specs.Times.{TimeNear}

-- the number of a cell whose indices are 0 to 7
abbrev pub number_of : Cell → ℕ
number_of c = c.x + 8 * c.y + 64 * c.z

abbrev pub filled_number : (ℕ → ℕ) → Option ℕ → Bool
filled_number kinds None = false
filled_number kinds (Some n) = stops (kinds n)

-- the cell is one of the chunk, and its kind stops lines
abbrev pub filled_in : (ℕ → ℕ) → Cell → Bool
filled_in kinds c = filled_number kinds (cell_number (key_of_cell c))

-- the hit names a filled cell, which the line enters no later than it touches any filled cell that it crosses
pub record NamesFirst (o t : Point) (id : ℕ) (kinds : ℕ → ℕ) (h : RayIntersection) : Type 0 where
  pub cell : Cell
  pub inside : (i : Axis) → index cell i ≤ 7
  pub feature : h.feature ≡ Face (id * 512 + number_of cell)
  pub filled : stops (kinds (number_of cell)) ≡ true
  pub share : Share
  pub entry : Entry o t cell share
  pub first : (c : Cell) → Crosses o t c → filled_in kinds c ≡ true → (r : Share) → TouchesAt o t c r → NoLater share r
  pub near : TimeNear share h.time_of_impact

pub record ExactLook (o t : Point) (id : ℕ) (kinds : ℕ → ℕ) (r : ChunkCast) : Type 0 where
  -- a line that crosses the inside of a filled cell is not clear
  pub blocked : (c : Cell) → Crosses o t c → filled_in kinds c ≡ true → is_some r.hit ≡ true
  pub named : (h : RayIntersection) → r.hit ≡ Some h → NamesFirst o t id kinds h
  pub few : r.visited ≤ 22

-- ---- a cell and a time that are read out
-- the cell with that number is filled, the line enters it no later than it touches any filled cell that it crosses, and the time is near that entry
pub record FirstCell (o t : Point) (kinds : ℕ → ℕ) (number : ℕ) (time : Float) : Type 0 where
  pub cell : Cell
  pub inside : (i : Axis) → index cell i ≤ 7
  pub numbered : number ≡ number_of cell
  pub filled : stops (kinds number) ≡ true
  pub share : Share
  pub entry : Entry o t cell share
  pub first : (c : Cell) → Crosses o t c → filled_in kinds c ≡ true → (r : Share) → TouchesAt o t c r → NoLater share r
  pub near : TimeNear share time

-- ---- the look on other cells
-- of the cells that the line touches, the same are filled
abbrev pub SameWhereTouched : Point → Point → (ℕ → ℕ) → (ℕ → ℕ) → Type 0
SameWhereTouched o t kinds others = (c : Cell) → Touches o t c → filled_in kinds c ≡ filled_in others c
