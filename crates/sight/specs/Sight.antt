-- Sight lines between grid points of a chunk whose cells are cubes of 2^e metres.
use Rattle.std.specs.Prelude.{ℕ, ◌/◌, true, ℤ, pos, ◌+ℤ◌, ◌-ℤ◌, unsigned_abs, Float}
use Rattle.std.specs.Float.{binary32}
use Rattle.std.specs.Float.Ieee.{of_int}
use Rattle.scalar.specs.Single.{times, one}
use Rattle.scalar.specs.Grid.{OnGrid, place}
use Rattle.math.specs.declared.IVector.{IVector}
use Rattle.math.specs.declared.Vector.{Vector}
use Rattle.math.specs.Vectors.{vector, vsub}
use Rattle.query.specs.declared.ray.Ray.{Ray}
use Rattle.grid.specs.declared.frame.ChunkFrame.{ChunkFrame}
use Rattle.sight.specs.declared.grid_point.GridPoint.{GridPoint}
use Rattle.grid.specs.declared.voxel_key.VoxelKey.{VoxelKey}
use Rattle.voxels.specs.declared.chunk_cast.ChunkCast.{ChunkCast}
use Rattle.sight.specs.Power.{power_of_two}
use Rattle.voxels.specs.Chunk.{chunk_cast}

-- 1024 * key + g units
abbrev pub coordinate : Float → ℤ → ℕ → Float
coordinate unit key g = times (of_int binary32 (place key g)) unit

abbrev pub grid_position : Float → IVector → GridPoint → Vector
grid_position unit key p = vector (coordinate unit key.x p.x) (coordinate unit key.y p.y) (coordinate unit key.z p.z)

-- in metres, with a unit of 1/128 cell
abbrev pub position : ℤ → IVector → GridPoint → Vector
position e key p = grid_position (power_of_two (e -ℤ pos 7)) key p

-- from camera to target, which it reaches at time 1
abbrev pub sight_line : ℤ → IVector → GridPoint → GridPoint → Ray
sight_line e key camera target = record { origin = position e key camera; dir = vsub (position e key target) (position e key camera) }

abbrev pub look_at : ℤ → ChunkFrame → (ℕ → ℕ) → GridPoint → GridPoint → ChunkCast
look_at e f kinds camera target = chunk_cast f kinds (sight_line e f.key camera target) one true

-- x is exactly (1024 * key + g) * 2^(e - 7), for e from -10 on: a unit is 2^(e + 10) / 2^17
abbrev pub Exactly : Float → ℤ → ℤ → ℕ → Type 0
Exactly x e key g = OnGrid x (unsigned_abs (e +ℤ pos 10)) (place key g)

abbrev pub ExactlyAt : Vector → ℤ → IVector → GridPoint → Type 0
ExactlyAt v e key p = Exactly v.x e key.x p.x × Exactly v.y e key.y p.y × Exactly v.z e key.z p.z

-- the key of the cell that a grid point lies in, the upper one where it lies between two
abbrev pub cell_of : GridPoint → VoxelKey
cell_of p = record { x = p.x / 128; y = p.y / 128; z = p.z / 128 }
