use Rattle.std.proofs.Common.{refl}
use lib.Ieee.{root_below, root_twice, neg, add, sub, mul, div, lt, le, eq, is_nan, of_bits, of_int, to_signed}
use Rattle.std.specs.Float.{float_with_sign, sqrt, round_with}
use Rattle.math.specs.Vectors.{min_position}
use Rattle.boxes.specs.Clip.{or_edge, later_entry, earlier_exit, unless_empty, cut_by_slab, clip_axis, near_normal, far_normal, contains, inside_only, clip_line, clip_ray}
use Rattle.boxes.specs.Box.{box_point, box_cast}
use Rattle.shapes.specs.Ball.{time_on_sphere, ball_roots, ball_time, ball_normal, ball_hit, ball_cast}
use Rattle.shapes.specs.HalfSpace.{plane_hit, half_space_hit, half_space_cast}
use Rattle.shapes.specs.Triangle.{hit_within, plane_crossed, plane_reached, seen_from_corner, triangle_hit, triangle_cast}
use Rattle.grid.specs.Frame.{chunk_box, cell_box, place_of, cell_number}
use Rattle.voxels.specs.Chunk.{cell_hit, step_time, next_place, step_from, turn_at, walk, chunk_cast}
use Rattle.cases.proofs.worked_rays_hold.Goals as goal

pub returns-clause-rays : goal.returns-clause-rays
unfolding neg add sub mul div lt le eq is_nan of_bits of_int to_signed round_with float_with_sign root_below root_twice sqrt time_on_sphere ball_roots ball_time ball_normal ball_hit ball_cast plane_hit half_space_hit half_space_cast hit_within plane_crossed plane_reached seen_from_corner triangle_hit triangle_cast min_position or_edge later_entry earlier_exit unless_empty cut_by_slab clip_axis near_normal far_normal contains inside_only clip_line clip_ray box_point box_cast chunk_box cell_box place_of cell_number cell_hit step_time next_place step_from turn_at walk chunk_cast
returns-clause-rays c = record {
  face_at_the_reach = refl;
  face_past_the_reach = refl;
  inside_solid = refl;
  inside_hollow = refl;
  exit_past_the_reach = refl;
  standing_inside = refl;
  ball_from_outside = refl;
  from_the_triangle = refl;
  beside_the_triangle = refl;
  along_the_ground = refl;
  fourth_cell = refl;
  edge_first_axis = refl;
  edge_second_axis = refl;
}
