-- The cast of a ball.
use Rattle.std.specs.Prelude.{Bool, true, false, cond, ◌&&◌, Some, None, Option, option_map, Float}
use Rattle.std.specs.Float.Ieee.{neg, lt, le, eq}
use Rattle.scalar.specs.Single.{plus, minus, times, over, root, zero}
use Rattle.math.specs.declared.Vector.{Vector}
use Rattle.math.specs.Vectors.{dot, vsub, vneg, normalized, zero_vector}
use Rattle.query.specs.declared.ray.Ray.{Ray}
use Rattle.query.specs.declared.ray.RayIntersection.{RayIntersection}
use Rattle.query.specs.declared.feature_id.FeatureId.TheVariants.{Face}
use Rattle.query.specs.Cast.{and_then, hit, point_at}
use Rattle.shapes.specs.declared.ball.Ball.{Ball}
use Rattle.shapes.specs.declared.ball.BallHit.{BallHit}
use Rattle.shapes.specs.Reach.{ahead, up_to}

-- ---- when: the ray is on the sphere at the times t with a t² + 2 b t + c = 0
abbrev pub discriminant : Float → Float → Float → Float
discriminant a b c = minus (times b b) (times a c)

abbrev pub enters : Float → Float → Float → Float
enters a b delta = over (minus (neg b) (root delta)) a

abbrev pub leaves : Float → Float → Float → Float
leaves a b delta = over (plus (neg b) (root delta)) a

abbrev pub from_inside : Float → BallHit Float
from_inside t = record { inside = true; at = t }

abbrev pub from_outside : Float → BallHit Float
from_outside t = record { inside = false; at = t }

-- When the ray hits, and whether it starts inside. None where it never hits: such a ray counts as starting outside.
unfoldable pub time_on_sphere : Float → Float → Float → Bool → Option (BallHit Float)
time_on_sphere a b delta solid =
    cond (le (enters a b delta) zero) (cond solid (Some (from_inside zero)) (Some (from_inside (leaves a b delta)))) (Some (from_outside (enters a b delta)))

-- a ray that stands still is inside or not; one that starts outside and goes away never hits
unfoldable pub ball_roots : Float → Float → Float → Bool → Option (BallHit Float)
ball_roots a b c solid =
    cond (eq a zero) (cond (lt zero c) None (Some (from_inside zero)))
    (cond (lt zero c && lt zero b) None
    (cond (lt (discriminant a b c) zero) None (time_on_sphere a b (discriminant a b c) solid)))

abbrev pub ball_time_from : Vector → Vector → Float → Bool → Option (BallHit Float)
ball_time_from p d radius solid = ball_roots (dot d d) (dot p d) (minus (dot p p) (times radius radius)) solid

unfoldable pub ball_time : Vector → Float → Ray → Bool → Option (BallHit Float)
ball_time center radius r solid = ball_time_from (vsub r.origin center) r.dir radius solid

-- ---- where: the normal is against the ray
unfoldable pub ball_normal : Vector → Ray → Float → Bool → Vector
ball_normal center r t inside =
    cond inside (vneg (normalized (vsub (point_at r t) center))) (normalized (vsub (point_at r t) center))

abbrev pub with_normal : Vector → Ray → BallHit Float → BallHit RayIntersection
with_normal center r h = record { inside = h.inside; at = hit h.at (ball_normal center r h.at h.inside) (Face 0) }

unfoldable pub ball_hit : Vector → Float → Ray → Bool → Option (BallHit RayIntersection)
ball_hit center radius r solid = option_map (with_normal center r) (ball_time center radius r solid)

-- a hit that rounding puts before the origin is none
unfoldable pub ball_cast : Ball → Ray → Float → Bool → Option RayIntersection
ball_cast b r reach solid = and_then (and_then (option_map (λ h. h.at) (ball_hit zero_vector b.radius r solid)) ahead) (up_to reach)
