-- The cast of a bounding sphere: a ball's, seen from its centre.
use Rattle.std.specs.Prelude.{Bool, Option, Float}
use Rattle.math.specs.Vectors.{vneg}
use Rattle.query.specs.declared.ray.Ray.{Ray}
use Rattle.query.specs.declared.ray.RayIntersection.{RayIntersection}
use Rattle.query.specs.Cast.{translated}
use Rattle.shapes.specs.declared.bounding_sphere.BoundingSphere.{BoundingSphere}
use Rattle.shapes.specs.Ball.{ball_cast}

abbrev pub bounding_sphere_cast : BoundingSphere → Ray → Float → Bool → Option RayIntersection
bounding_sphere_cast s r reach solid = ball_cast (record { radius = s.radius }) (translated r (vneg s.center)) reach solid
