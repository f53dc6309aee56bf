-- The cast of a shape is that of its kind.
use Rattle.std.specs.Prelude.{Bool, Option, Float}
use Rattle.query.specs.declared.ray.Ray.{Ray}
use Rattle.query.specs.declared.ray.RayIntersection.{RayIntersection}
use Rattle.boxes.specs.Box.{box_cast}
use Rattle.shapes.specs.declared.shape.Shape.{Shape}
use Rattle.shapes.specs.declared.shape.Shape.TheVariants.{Ball, Cuboid, BoundingSphere, HalfSpace, Triangle, Aabb}
use Rattle.shapes.specs.Ball.{ball_cast}
use Rattle.shapes.specs.Cuboid.{cuboid_cast}
use Rattle.shapes.specs.BoundingSphere.{bounding_sphere_cast}
use Rattle.shapes.specs.HalfSpace.{half_space_cast}
use Rattle.shapes.specs.Triangle.{triangle_cast}

abbrev pub shape_cast : Shape → Ray → Float → Bool → Option RayIntersection
shape_cast (Ball x) = ball_cast x
shape_cast (Cuboid x) = cuboid_cast x
shape_cast (BoundingSphere x) = bounding_sphere_cast x
shape_cast (HalfSpace x) = half_space_cast x
shape_cast (Triangle x) = triangle_cast x
shape_cast (Aabb x) = box_cast x
