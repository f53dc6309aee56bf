-- The cast of a triangle.
use Rattle.std.specs.Prelude.{Bool, false, cond, ◌&&◌, ◌||◌, Some, None, Option, Float}
use Rattle.std.specs.Float.Ieee.{neg, lt, eq}
use Rattle.scalar.specs.Single.{plus, times, over, zero, one}
use Rattle.math.specs.declared.Vector.{Vector}
use Rattle.math.specs.Vectors.{dot, cross, vsub, vneg, normalized}
use Rattle.std.specs.Float.{float_with_sign}
use Rattle.query.specs.declared.ray.Ray.{Ray}
use Rattle.query.specs.declared.ray.RayIntersection.{RayIntersection}
use Rattle.query.specs.declared.feature_id.FeatureId.{FeatureId}
use Rattle.query.specs.declared.feature_id.FeatureId.TheVariants.{Face}
use Rattle.query.specs.Cast.{and_then, hit}
use Rattle.shapes.specs.declared.triangle.Triangle.{Triangle}
use Rattle.shapes.specs.Reach.{up_to}

-- v and w are the shares of b and c in the point that is hit, times the size
abbrev pub outside : Float → Float → Float → Bool
outside v w size = (lt v zero || lt size v) || (lt w zero || lt size (plus v w))

unfoldable pub hit_within : Float → Float → Float → Float → Vector → FeatureId → Option RayIntersection
hit_within v w size height normal feature = cond (outside v w size) None (Some (hit (times height (over one size)) normal feature))

-- The height is the origin's over the plane, and the speed that at which it rises along the ray, each times the normal's length.
abbrev pub goes_away : Float → Float → Bool
goes_away height speed = (lt height zero && lt speed zero) || (lt zero height && lt zero speed)

-- a ray that starts on the plane comes from the side that it leaves
abbrev pub from_below : Float → Float → Bool
from_below height speed = lt height zero || (eq height zero && lt zero speed)

-- ab and ac are the sides at a, n is their cross product, and e is minus that of the direction and the origin seen from a
unfoldable pub plane_crossed : Vector → Vector → Vector → Vector → Float → Float → Option RayIntersection
plane_crossed ab ac n e height speed =
    cond (from_below height speed)
    (hit_within (neg (dot ac e)) (dot ab e) (float_with_sign false speed) (neg height) (vneg (normalized n)) (cond (lt speed zero) (Face 0) (Face 1)))
    (hit_within (dot ac e) (neg (dot ab e)) (float_with_sign false speed) height (normalized n) (cond (lt speed zero) (Face 0) (Face 1)))

-- none where the ray is along the plane or goes away from it
unfoldable pub plane_reached : Vector → Vector → Vector → Vector → Float → Float → Option RayIntersection
plane_reached ab ac n e height speed = cond (eq speed zero) None (cond (goes_away height speed) None (plane_crossed ab ac n e height speed))

unfoldable pub seen_from_corner : Vector → Vector → Vector → Vector → Vector → Option RayIntersection
seen_from_corner ab ac n ap d = plane_reached ab ac n (vneg (cross d ap)) (dot ap n) (dot n d)

unfoldable pub triangle_hit : Vector → Vector → Vector → Ray → Option RayIntersection
triangle_hit a b c r = seen_from_corner (vsub b a) (vsub c a) (cross (vsub b a) (vsub c a)) (vsub r.origin a) r.dir

unfoldable pub triangle_cast : Triangle → Ray → Float → Bool → Option RayIntersection
triangle_cast x r reach solid = and_then (triangle_hit x.a x.b x.c r) (up_to reach)
