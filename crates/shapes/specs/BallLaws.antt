-- The two laws of the casts of a ball and of a bounding sphere.
use Rattle.std.specs.Prelude.{◌≡◌, Bool, true, T, is_some, Some, Option, option_map, Float}
use Rattle.std.specs.Float.Ieee.{le}
use Rattle.scalar.specs.Single.{NotBelowZero}
use Rattle.math.specs.Vectors.{vneg, zero_vector}
use Rattle.query.specs.declared.ray.Ray.{Ray}
use Rattle.query.specs.declared.ray.RayIntersection.{RayIntersection}
use Rattle.query.specs.Cast.{and_then, translated, Within}
use Rattle.shapes.specs.declared.ball.Ball.{Ball}
use Rattle.shapes.specs.declared.bounding_sphere.BoundingSphere.{BoundingSphere}
use Rattle.shapes.specs.Reach.{ahead}
use Rattle.shapes.specs.Ball.{ball_hit, ball_cast}
use Rattle.shapes.specs.BoundingSphere.{bounding_sphere_cast}
use Rattle.shapes.specs.ReachLaws.{ahead_is_ahead, up_to_timed, up_to_kept}

abbrev found : Ball → Ray → Bool → Option RayIntersection
found b r solid = option_map (λ h. h.at) (ball_hit zero_vector b.radius r solid)

pub ball_timed : (b : Ball) (r : Ray) (reach : Float) (solid : Bool) (h : RayIntersection) → NotBelowZero reach → ball_cast b r reach solid ≡ Some h → Within h.time_of_impact reach
unfolding ball_cast
ball_timed b r reach solid h n e = up_to_timed (and_then (found b r solid) ahead) reach h (ahead_is_ahead (found b r solid)) e

pub ball_kept : (b : Ball) (r : Ray) (reach longer : Float) (solid : Bool) → T (le reach longer) → is_some (ball_cast b r reach solid) ≡ true → is_some (ball_cast b r longer solid) ≡ true
unfolding ball_cast
ball_kept b r reach longer solid l e = up_to_kept (and_then (found b r solid) ahead) reach longer l e

pub bounding_sphere_timed : (s : BoundingSphere) (r : Ray) (reach : Float) (solid : Bool) (h : RayIntersection) → NotBelowZero reach → bounding_sphere_cast s r reach solid ≡ Some h → Within h.time_of_impact reach
bounding_sphere_timed s r = ball_timed (record { radius = s.radius }) (translated r (vneg s.center))

pub bounding_sphere_kept : (s : BoundingSphere) (r : Ray) (reach longer : Float) (solid : Bool) → T (le reach longer) → is_some (bounding_sphere_cast s r reach solid) ≡ true → is_some (bounding_sphere_cast s r longer solid) ≡ true
bounding_sphere_kept s r = ball_kept (record { radius = s.radius }) (translated r (vneg s.center))
