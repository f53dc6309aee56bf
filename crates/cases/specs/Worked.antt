-- Worked rays with their known answers: a box, a ball, a triangle, a half-space, and looks through a chunk with one filled cell.
use Rattle.std.specs.Prelude.{◌≡◌, ℕ, true, false, pos, negsuc, Some, None, Float}
use Rattle.std.proofs.Common.{lit≤}
use Rattle.std.specs.Float.{inf, fin}
use Rattle.std.specs.Float.Ieee.{le, of_bits}
use Rattle.math.specs.declared.Vector.{Vector}
use Rattle.math.specs.Vectors.{vector}
use Rattle.query.specs.declared.ray.Ray.{Ray}
use Rattle.query.specs.declared.feature_id.FeatureId.TheVariants.{Face, Unknown}
use Rattle.boxes.specs.declared.aabb.Aabb.{Aabb}
use Rattle.query.specs.Cast.{hit}
use Rattle.boxes.specs.Box.{box_cast}
use Rattle.shapes.specs.declared.shape.Shape.{Shape}
use Rattle.shapes.specs.declared.shape.Shape.TheVariants.{Ball, HalfSpace, Triangle}
use Rattle.shapes.specs.Shape.{shape_cast}
use Rattle.grid.specs.declared.frame.ChunkFrame.{ChunkFrame}
use Rattle.sight.specs.declared.grid_point.GridPoint.{GridPoint}
use Rattle.voxels.specs.declared.chunk_cast.ChunkCast.{ChunkCast}
use Rattle.sight.specs.Power.{cube}
use Rattle.stores.specs.Store.{with_cell}
use Rattle.sight.specs.Sight.{look_at}

-- ---- floats: an odd whole number times a power of two
abbrev pub zero : Float
zero = fin false 0 (pos 0)

-- equal to zero as a number
abbrev pub minus_zero : Float
minus_zero = fin true 0 (pos 0)

abbrev pub quarter : Float
quarter = fin false 1 (negsuc 1)

abbrev pub minus_quarter : Float
minus_quarter = fin true 1 (negsuc 1)

abbrev pub half : Float
half = fin false 1 (negsuc 0)

abbrev pub five_eighths : Float
five_eighths = fin false 5 (negsuc 2)

abbrev pub one : Float
one = fin false 1 (pos 0)

abbrev pub minus_one : Float
minus_one = fin true 1 (pos 0)

abbrev pub one_and_a_half : Float
one_and_a_half = fin false 3 (negsuc 0)

abbrev pub two : Float
two = fin false 1 (pos 1)

abbrev pub minus_three : Float
minus_three = fin true 3 (pos 0)

abbrev pub ten : Float
ten = fin false 5 (pos 1)

abbrev pub infinity : Float
infinity = inf false

-- ---- the box from (-1, -1, -1) to (1, 1, 1)
abbrev pub origin : Vector
origin = vector zero zero zero

abbrev pub cube_at_origin : Aabb
cube_at_origin = record { mins = vector minus_one minus_one minus_one; maxs = vector one one one }

-- along x, from that x
abbrev pub along_x : Float → Ray
along_x x = record { origin = vector x zero zero; dir = vector one zero zero }

abbrev pub standing_at_origin : Ray
standing_at_origin = record { origin = origin; dir = origin }

abbrev pub leftward : Vector
leftward = vector minus_one zero zero

-- ---- a ball, a triangle and a half-space
abbrev pub unit_ball : Shape
unit_ball = Ball (record { radius = one })

-- the corners (0, 0, 0), (1, 0, 0) and (0, 1, 0)
abbrev pub floor_triangle : Shape
floor_triangle = Triangle (record { a = origin; b = vector one zero zero; c = vector zero one zero })

-- y at most 0
abbrev pub ground_half_space : Shape
ground_half_space = HalfSpace (record { normal = vector zero one zero })

-- from the triangle's plane, on which it starts at (x, y)
abbrev pub up_from : Float → Float → Ray
up_from x y = record { origin = vector x y zero; dir = vector zero zero one }

abbrev pub under_ground : Ray
under_ground = record { origin = vector zero minus_one zero; dir = vector one zero zero }

-- ---- looks in the chunk with key (0, 0, 0), id 0 and cells of one metre
abbrev pub frame : ChunkFrame
unfolding le of_bits
frame = record { key = record { x = pos 0; y = pos 0; z = pos 0 }; voxel_size = cube (pos 0); id = 0; ok = tt }

abbrev pub near_corner : GridPoint
near_corner = record { x = 64; y = 64; z = 64; ok = (lit≤ tt, (lit≤ tt, lit≤ tt)) }

abbrev pub four_cells_along : GridPoint
four_cells_along = record { x = 576; y = 64; z = 64; ok = (lit≤ tt, (lit≤ tt, lit≤ tt)) }

abbrev pub one_cell_across : GridPoint
one_cell_across = record { x = 192; y = 192; z = 64; ok = (lit≤ tt, (lit≤ tt, lit≤ tt)) }

-- cell n is filled, and no other
abbrev pub only : ℕ → ℕ → ℕ
only n = with_cell (λ _. 0) n 1

abbrev pub look : ℕ → GridPoint → ChunkCast
look n target = look_at (pos 0) frame (only n) near_corner target

pub record WorkedRays : Type 0 where
  -- a reach that ends on the face is enough
  pub face_at_the_reach : box_cast cube_at_origin (along_x minus_three) two true ≡ Some (hit two leftward (Face 0))
  pub face_past_the_reach : box_cast cube_at_origin (along_x minus_three) one_and_a_half true ≡ None
  -- from within: at once where the box is solid, else where the ray leaves
  pub inside_solid : box_cast cube_at_origin (along_x zero) ten true ≡ Some (hit zero origin (Face 3))
  pub inside_hollow : box_cast cube_at_origin (along_x zero) ten false ≡ Some (hit one leftward (Face 3))
  pub exit_past_the_reach : box_cast cube_at_origin (along_x zero) half false ≡ None
  -- a ray that stands still passes no face
  pub standing_inside : box_cast cube_at_origin standing_at_origin ten true ≡ Some (hit zero origin Unknown)
  pub ball_from_outside : shape_cast unit_ball (along_x minus_three) ten true ≡ Some (hit two leftward (Face 0))
  -- a ray that starts on a triangle hits it from the side that it leaves, and one that starts beside it misses it
  pub from_the_triangle : shape_cast floor_triangle (up_from quarter quarter) one true ≡ Some (hit minus_zero (vector minus_zero minus_zero minus_one) (Face 1))
  pub beside_the_triangle : shape_cast floor_triangle (up_from minus_quarter minus_quarter) one true ≡ None
  -- a ray along the plane never meets it
  pub along_the_ground : shape_cast ground_half_space under_ground infinity false ≡ None
  -- the fourth cell along x
  pub fourth_cell : look 3 four_cells_along ≡ record { hit = Some (hit five_eighths leftward (Face 3)); visited = 4 }
  -- over an edge between cells the walk steps along x first, so of the two cells beside the edge only that along x is seen
  pub edge_first_axis : look 1 one_cell_across ≡ record { hit = Some (hit half leftward (Face 1)); visited = 2 }
  pub edge_second_axis : look 8 one_cell_across ≡ record { hit = None; visited = 3 }
