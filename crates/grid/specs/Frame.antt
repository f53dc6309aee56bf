-- The geometry of a chunk of 8 by 8 by 8 cells: its box, its cells' boxes and numbers, and the cell of a point.
-- A cell's place on an axis is its key less the chunk's lowest key: 0 to 7, and 8 for one past the chunk.
use Rattle.std.specs.Prelude.{ℕ, ◌+◌, ◌*◌, cond, ◌&&◌, ℤ, pos, ◌+ℤ◌, ◌-ℤ◌, ◌*ℤ◌, Some, None, Option, int_lt, nat_lt, unsigned_abs, Float}
use Rattle.std.specs.Float.{binary32}
use Rattle.std.specs.Float.Ieee.{of_int}
use Rattle.scalar.specs.Single.{plus, times, over, half, two}
use Rattle.math.specs.declared.Vector.{Vector}
use Rattle.math.specs.Vectors.{vector, floor, to_i32}
use Rattle.boxes.specs.declared.aabb.Aabb.{Aabb}
use Rattle.query.specs.Cast.{and_then}
use Rattle.boxes.specs.Box.{around_centre}
use Rattle.grid.specs.declared.frame.ChunkFrame.{ChunkFrame}
use Rattle.grid.specs.declared.voxel_key.VoxelKey.{VoxelKey}

abbrev pub lowest_key : ℤ → ℤ
lowest_key key = pos 8 *ℤ key

-- the key of a place, as a float
abbrev pub key_float : ℤ → ℕ → Float
key_float key i = of_int binary32 (lowest_key key +ℤ pos i)

-- ---- boxes
abbrev pub corner : ChunkFrame → ℕ → Vector
corner f i =
    vector (times (key_float f.key.x i) f.voxel_size.x)
    (times (key_float f.key.y i) f.voxel_size.y)
    (times (key_float f.key.z i) f.voxel_size.z)

unfoldable pub chunk_box : ChunkFrame → Aabb
chunk_box f = record { mins = corner f 0; maxs = corner f 8 }

abbrev pub centre : ℤ → ℕ → Float → Float
centre key i size = times (plus (key_float key i) half) size

abbrev pub cell_centre : ChunkFrame → VoxelKey → Vector
cell_centre f k =
    vector (centre f.key.x k.x f.voxel_size.x)
    (centre f.key.y k.y f.voxel_size.y)
    (centre f.key.z k.z f.voxel_size.z)

abbrev pub half_size : Vector → Vector
half_size s = vector (over s.x two) (over s.y two) (over s.z two)

unfoldable pub cell_box : ChunkFrame → VoxelKey → Aabb
cell_box f k = around_centre (cell_centre f k) (half_size f.voxel_size)

-- ---- the cell of a point: its key, brought to the nearest place from 0 to 8
abbrev pub nearest_place : ℤ → ℤ → ℕ
nearest_place low key = cond (int_lt key low) 0 (cond (int_lt (low +ℤ pos 8) key) 8 (unsigned_abs (key -ℤ low)))

unfoldable pub place_of : ℤ → Float → Float → ℕ
place_of key p size = nearest_place (lowest_key key) (to_i32 (floor (over p size)))

abbrev pub key_of : ChunkFrame → Vector → VoxelKey
key_of f p = record {
  x = place_of f.key.x p.x f.voxel_size.x;
  y = place_of f.key.y p.y f.voxel_size.y;
  z = place_of f.key.z p.z f.voxel_size.z;
}

-- ---- numbers

-- a key outside the chunk has no cell
unfoldable pub cell_number : VoxelKey → Option ℕ
cell_number k = cond (nat_lt k.x 8 && (nat_lt k.y 8 && nat_lt k.z 8)) (Some (k.x + 8 * k.y + 64 * k.z)) None

abbrev pub flat_id : ChunkFrame → ℕ → ℕ
flat_id f n = f.id * 512 + n

-- the number of a cell among those of all chunks
abbrev pub flat_id_at : ChunkFrame → VoxelKey → Option ℕ
flat_id_at f k = and_then (cell_number k) (λ n. Some (flat_id f n))

-- the kind of the cell at a key
abbrev pub kind_at : (ℕ → ℕ) → VoxelKey → Option ℕ
kind_at kinds k = and_then (cell_number k) (λ n. Some (kinds n))
