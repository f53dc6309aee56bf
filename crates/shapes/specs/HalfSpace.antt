-- The cast of a half-space.
use Rattle.std.specs.Prelude.{Bool, cond, ◌&&◌, Some, None, Option, Float}
use Rattle.std.specs.Float.Ieee.{lt, eq}
use Rattle.scalar.specs.Single.{over, zero}
use Rattle.math.specs.declared.Vector.{Vector}
use Rattle.math.specs.Vectors.{dot, vneg, zero_vector}
use Rattle.query.specs.declared.ray.Ray.{Ray}
use Rattle.query.specs.declared.ray.RayIntersection.{RayIntersection}
use Rattle.query.specs.declared.feature_id.FeatureId.TheVariants.{Face}
use Rattle.query.specs.Cast.{and_then, hit}
use Rattle.shapes.specs.declared.half_space.HalfSpace.{HalfSpace}
use Rattle.shapes.specs.Reach.{ahead, up_to}

-- The depth is the normal's product with minus the origin, above zero for a ray that starts inside, and the speed is that with the direction.
-- The plane is met at their quotient; its normal is turned against a ray from inside.
unfoldable pub plane_hit : Vector → Float → Float → Option RayIntersection
plane_hit n depth speed = cond (eq speed zero) None (ahead (hit (over depth speed) (cond (lt zero depth) (vneg n) n) (Face 0)))

-- a ray from within a solid half-space hits at once
unfoldable pub half_space_hit : Vector → Float → Float → Float → Bool → Option RayIntersection
half_space_hit n depth speed reach solid = cond (solid && lt zero depth) (Some (hit zero zero_vector (Face 0))) (and_then (plane_hit n depth speed) (up_to reach))

unfoldable pub half_space_cast : HalfSpace → Ray → Float → Bool → Option RayIntersection
half_space_cast h r reach solid = half_space_hit h.normal (dot h.normal (vneg r.origin)) (dot h.normal r.dir) reach solid
