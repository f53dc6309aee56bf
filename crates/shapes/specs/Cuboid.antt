-- The cast of a cuboid: the box's from minus its half extents to its half extents.
use Rattle.std.specs.Prelude.{Bool, Option, Float}
use Rattle.math.specs.Vectors.{vneg}
use Rattle.query.specs.declared.ray.Ray.{Ray}
use Rattle.query.specs.declared.ray.RayIntersection.{RayIntersection}
use Rattle.boxes.specs.Box.{box_cast}
use Rattle.shapes.specs.declared.cuboid.Cuboid.{Cuboid}

abbrev pub cuboid_cast : Cuboid → Ray → Float → Bool → Option RayIntersection
cuboid_cast c r reach solid = box_cast (record { mins = vneg c.half_extents; maxs = c.half_extents }) r reach solid
