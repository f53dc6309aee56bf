-- Which hits count, where a hit's time does not depend on the reach.
use Rattle.std.specs.Prelude.{cond, Some, None, Option, Float}
use Rattle.std.specs.Float.Ieee.{le}
use Rattle.scalar.specs.Single.{zero}
use Rattle.query.specs.declared.ray.RayIntersection.{RayIntersection}

-- not before the ray's origin
abbrev pub ahead : RayIntersection → Option RayIntersection
ahead h = cond (le zero h.time_of_impact) (Some h) None

abbrev pub up_to : Float → RayIntersection → Option RayIntersection
up_to reach h = cond (le h.time_of_impact reach) (Some h) None
