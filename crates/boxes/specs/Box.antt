-- The cast of a box.
use Rattle.std.specs.Prelude.{zero, suc, ◌+◌, Bool, cond, ℤ, pos, negsuc, Some, None, Option, Float}
use Rattle.std.specs.Float.Ieee.{lt, le}
use Rattle.scalar.specs.Single as Single
use Rattle.math.specs.declared.Vector.{Vector}
use Rattle.math.specs.Vectors.{vadd, vsub, zero_vector}
use Rattle.query.specs.declared.ray.Ray.{Ray}
use Rattle.query.specs.declared.ray.RayIntersection.{RayIntersection}
use Rattle.query.specs.declared.feature_id.FeatureId.{FeatureId}
use Rattle.query.specs.declared.feature_id.FeatureId.TheVariants.{Face, Unknown}
use Rattle.boxes.specs.declared.aabb.Aabb.{Aabb}
use Rattle.boxes.specs.declared.clip_aabb_line.Side.{Side}
use Rattle.boxes.specs.declared.clip_aabb_line.LinePoint.{LinePoint}
use Rattle.boxes.specs.declared.clip_aabb_line.Ends.{Ends}
use Rattle.query.specs.Cast.{and_then, hit}
use Rattle.boxes.specs.Clip.{clip_line, side_number}

abbrev pub around_centre : Vector → Vector → Aabb
around_centre centre halves = record { mins = vsub centre halves; maxs = vadd centre halves }

-- Side 0 is no face, s above zero is Face(s - 1), and s below zero is Face(2 - s).
abbrev pub numbered_face : ℤ → FeatureId
numbered_face (pos zero) = Unknown
numbered_face (pos (suc n)) = Face n
numbered_face (negsuc n) = Face (n + 3)

abbrev pub side_feature : Option Side → FeatureId
side_feature s = numbered_face (side_number s)

-- A ray from within a solid box hits at once; from within a hollow one it hits where it leaves; from outside, where it enters.
unfoldable pub box_point : Ends LinePoint → Float → Bool → Option LinePoint
box_point c reach solid =
    cond (lt c.near.time Single.zero)
    (cond solid (Some (record { time = Single.zero; normal = zero_vector; side = c.far.side }))
    (cond (le c.far.time reach) (Some c.far) None))
    (cond (le c.near.time reach) (Some c.near) None)

abbrev pub box_hit : LinePoint → Option RayIntersection
box_hit p = Some (hit p.time p.normal (side_feature p.side))

unfoldable pub box_cast : Aabb → Ray → Float → Bool → Option RayIntersection
box_cast b r reach solid = and_then (clip_line b r.origin r.dir) (λ c. and_then (box_point c reach solid) box_hit)
