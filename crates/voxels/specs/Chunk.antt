-- The cast of a chunk: a walk from cell to cell along the ray, up to the first filled cell whose box the ray hits.
use Rattle.std.specs.Prelude.{◌≡◌, ℕ, zero, suc, ◌+◌, ◌-◌, ◌<◌, Bool, true, false, cond, ◌&&◌, is_some, Some, None, Option, ◌==◌, nat_lt, Float}
use Rattle.std.specs.Float.Ieee.{lt}
use Rattle.scalar.specs.Single.{minus, over, largest}
use Rattle.scalar.specs.Single as Single
use Rattle.math.specs.declared.Vector.{Vector}
use Rattle.math.specs.declared.Axis.{Axis}
use Rattle.math.specs.declared.Axis.TheVariants.{X, Y, Z}
use Rattle.math.specs.Vectors.{vector, min_position}
use Rattle.boxes.specs.declared.aabb.Aabb.{Aabb}
use Rattle.query.specs.declared.ray.Ray.{Ray}
use Rattle.query.specs.declared.ray.RayIntersection.{RayIntersection}
use Rattle.query.specs.declared.feature_id.FeatureId.TheVariants.{Face}
use Rattle.query.specs.Cast.{and_then, hit, point_at}
use Rattle.boxes.specs.Clip.{clip_ray}
use Rattle.boxes.specs.Box.{box_cast}
use Rattle.std.specs.Float as Floats
use Rattle.grid.specs.declared.frame.ChunkFrame.{ChunkFrame}
use Rattle.grid.specs.declared.voxel_key.VoxelKey.{VoxelKey}
use Rattle.voxels.specs.declared.chunk_cast.ChunkCast.{ChunkCast}
use Rattle.voxels.specs.declared.chunk_cast.Turn.{Turn}
use Rattle.voxels.specs.declared.chunk_cast.Turn.TheVariants.{Hit, Stop, Step}
use Rattle.grid.specs.Frame.{chunk_box, cell_box, key_of, cell_number, flat_id}

-- ---- a cell

-- which kinds of cell stop a line
abbrev pub stops : ℕ → Bool
stops kind = kind == 1

-- each cell that stops lines by the kinds `fewer` does so by `more`
abbrev pub MoreFilled : (ℕ → ℕ) → (ℕ → ℕ) → Type 0
MoreFilled fewer more = (n : ℕ) → n < 512 → stops (fewer n) ≡ true → stops (more n) ≡ true

abbrev pub named : ℕ → RayIntersection → Option RayIntersection
named face h = Some (hit h.time_of_impact h.normal (Face face))

-- a cell that stops the line is a box, and its hit is named by the cell
abbrev pub boxed_hit : ChunkFrame → (ℕ → ℕ) → Ray → Float → Bool → VoxelKey → ℕ → Option RayIntersection
boxed_hit f kinds r limit solid k n = cond (stops (kinds n)) (and_then (box_cast (cell_box f k) r limit solid) (named (flat_id f n))) None

unfoldable pub cell_hit : ChunkFrame → (ℕ → ℕ) → Ray → Float → Bool → VoxelKey → Option RayIntersection
cell_hit f kinds r limit solid k = and_then (cell_number k) (boxed_hit f kinds r limit solid k)

-- ---- the step to the next cell

-- a face that the ray has left behind is passed at once
abbrev pub from_zero : Float → Float
from_zero t = cond (lt t Single.zero) Single.zero t

-- when the ray is at the height of the face ahead; never, where it keeps its height
unfoldable pub step_time : Float → Float → Float → Float → Float
step_time low high o d =
    cond (lt Single.zero d) (from_zero (over (minus high o) d)) (cond (lt d Single.zero) (from_zero (over (minus low o) d)) largest)

abbrev pub step_times : Aabb → Ray → Vector
step_times b r =
    vector (step_time b.mins.x b.maxs.x r.origin.x r.dir.x)
    (step_time b.mins.y b.maxs.y r.origin.y r.dir.y)
    (step_time b.mins.z b.maxs.z r.origin.z r.dir.z)

abbrev pub all_later : Vector → Float → Bool
all_later times limit = lt limit times.x && (lt limit times.y && lt limit times.z)

-- up where the direction is above zero, else down; none where that leaves the chunk
unfoldable pub next_place : ℕ → Float → Option ℕ
next_place i d = cond (lt Single.zero d) (cond (nat_lt i 7) (Some (i + 1)) None) (cond (nat_lt 0 i) (Some (i - 1)) None)

abbrev pub at_x : VoxelKey → ℕ → Option VoxelKey
at_x k i = Some (record { x = i; y = k.y; z = k.z })

abbrev pub at_y : VoxelKey → ℕ → Option VoxelKey
at_y k i = Some (record { x = k.x; y = i; z = k.z })

abbrev pub at_z : VoxelKey → ℕ → Option VoxelKey
at_z k i = Some (record { x = k.x; y = k.y; z = i })

abbrev pub next_key : VoxelKey → Vector → Axis → Option VoxelKey
next_key k d X = and_then (next_place k.x d.x) (at_x k)
next_key k d Y = and_then (next_place k.y d.y) (at_y k)
next_key k d Z = and_then (next_place k.z d.z) (at_z k)

-- along the axis whose face comes first, the lowest of equal ones; no further where all come after the limit
unfoldable pub step_from : VoxelKey → Vector → Vector → Float → Option VoxelKey
step_from k d times limit = cond (all_later times limit) None (next_key k d (min_position times))

-- ---- one turn at a key
abbrev pub step_to : Option VoxelKey → Turn
step_to None = Stop
step_to (Some k) = Step k

abbrev pub or_else : Option RayIntersection → Turn → Turn
or_else None next = next
or_else (Some h) next = Hit h

unfoldable pub turn_at : ChunkFrame → (ℕ → ℕ) → Ray → Float → Bool → VoxelKey → Turn
turn_at f kinds r limit solid k = or_else (cell_hit f kinds r limit solid k) (step_to (step_from k r.dir (step_times (cell_box f k) r) limit))

-- ---- the walk: at most that many turns, each key that is stood on counted
abbrev pub no_hit : ℕ → ChunkCast
no_hit n = record { hit = None; visited = n }

abbrev pub counted : ChunkCast → ChunkCast
counted c = record { hit = c.hit; visited = suc c.visited }

abbrev pub onward : (VoxelKey → ChunkCast) → Turn → ChunkCast
onward rest (Hit h) = record { hit = Some h; visited = 1 }
onward rest Stop = no_hit 1
onward rest (Step k) = counted (rest k)

unfoldable pub walk : (VoxelKey → Turn) → ℕ → VoxelKey → ChunkCast
walk turn zero k = no_hit 0
walk turn (suc n) k = onward (walk turn n) (turn k)

-- ---- the cast

-- no walk of more than 25 keys is possible: 24 steps lead from the place (8, 8, 8) to (0, 0, 0)
abbrev pub walk_within : ChunkFrame → (ℕ → ℕ) → Ray → Bool → Float → Float → ChunkCast
walk_within f kinds r solid start limit = walk (turn_at f kinds r limit solid) 25 (key_of f (point_at r start))

abbrev pub cast_clipped : ChunkFrame → (ℕ → ℕ) → Ray → Float → Bool → Option (Float × Float) → ChunkCast
cast_clipped f kinds r reach solid None = no_hit 0
cast_clipped f kinds r reach solid (Some clip) = cond (lt reach clip.0) (no_hit 0) (walk_within f kinds r solid clip.0 (Floats.float_min clip.1 reach))

unfoldable pub chunk_cast : ChunkFrame → (ℕ → ℕ) → Ray → Float → Bool → ChunkCast
chunk_cast f kinds r reach solid = cast_clipped f kinds r reach solid (clip_ray (chunk_box f) r)

-- ---- what a hit names: a cell that stops lines, by the face id * 512 + its number
pub record NamesCell (f : ChunkFrame) (kinds : ℕ → ℕ) (h : RayIntersection) : Type 0 where
  pub cell : ℕ
  pub inside : cell < 512
  pub filled : stops (kinds cell) ≡ true
  pub feature : h.feature ≡ Face (flat_id f cell)

-- ---- the same cast on other cells: filling some loses no hit, and emptying some brings none
pub record OnOtherCells (f : ChunkFrame) (kinds : ℕ → ℕ) (r : Ray) (reach : Float) (solid : Bool) (c : ChunkCast) : Type 0 where
  pub filling : (more : ℕ → ℕ) → MoreFilled kinds more → is_some c.hit ≡ true → is_some (chunk_cast f more r reach solid).hit ≡ true
  pub emptying : (fewer : ℕ → ℕ) → MoreFilled fewer kinds → is_some c.hit ≡ false → is_some (chunk_cast f fewer r reach solid).hit ≡ false
