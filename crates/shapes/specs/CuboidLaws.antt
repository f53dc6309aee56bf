-- The two laws of a cuboid's cast.
use Rattle.std.specs.Prelude.{◌≡◌, Bool, true, T, is_some, Some, Float}
use Rattle.std.specs.Float.Ieee.{le}
use Rattle.scalar.specs.Single.{NotBelowZero}
use Rattle.math.specs.Vectors.{vneg}
use Rattle.query.specs.declared.ray.Ray.{Ray}
use Rattle.query.specs.declared.ray.RayIntersection.{RayIntersection}
use Rattle.query.specs.Cast.{Within}
use Rattle.boxes.specs.BoxLemmas.{box_timed, box_kept}
use Rattle.shapes.specs.declared.cuboid.Cuboid.{Cuboid}
use Rattle.shapes.specs.Cuboid.{cuboid_cast}

pub cuboid_timed : (c : Cuboid) (r : Ray) (reach : Float) (solid : Bool) (h : RayIntersection) → NotBelowZero reach → cuboid_cast c r reach solid ≡ Some h → Within h.time_of_impact reach
cuboid_timed c = box_timed (record { mins = vneg c.half_extents; maxs = c.half_extents })

pub cuboid_kept : (c : Cuboid) (r : Ray) (reach longer : Float) (solid : Bool) → T (le reach longer) → is_some (cuboid_cast c r reach solid) ≡ true → is_some (cuboid_cast c r longer solid) ≡ true
cuboid_kept c = box_kept (record { mins = vneg c.half_extents; maxs = c.half_extents })
