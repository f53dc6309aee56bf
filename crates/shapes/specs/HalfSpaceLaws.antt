-- The two laws of a half-space's cast.
use Rattle.std.specs.Prelude.{◌≡◌, Bool, true, false, cond, ◌&&◌, T, is_some, Some, refl, Float}
use Rattle.std.proofs.Common.{subst, arith}
use Rattle.std.specs.Float.Ieee.{lt, le}
use Rattle.scalar.specs.Single.{zero, NotBelowZero}
use Rattle.scalar.proofs.Order.{zero_le_zero}
use Rattle.math.specs.declared.Vector.{Vector}
use Rattle.math.specs.Vectors.{dot, vneg, zero_vector}
use Rattle.query.specs.declared.ray.Ray.{Ray}
use Rattle.query.specs.declared.ray.RayIntersection.{RayIntersection}
use Rattle.query.specs.declared.feature_id.FeatureId.TheVariants.{Face}
use Rattle.query.specs.Cast.{and_then, hit, Within}
use Rattle.shapes.specs.declared.half_space.HalfSpace.{HalfSpace}
use Rattle.shapes.specs.Reach.{up_to}
use Rattle.shapes.specs.HalfSpace.{plane_hit, half_space_hit, half_space_cast}
use Rattle.shapes.specs.ReachLaws.{Ahead, up_to_timed, up_to_kept}

plane_hit_ahead : (n : Vector) (depth speed : Float) → Ahead (plane_hit n depth speed)
unfolding plane_hit
plane_hit_ahead n depth speed h e k = grind arith

hit_timed : (n : Vector) (depth speed reach : Float) (solid : Bool) (h : RayIntersection) → NotBelowZero reach → half_space_hit n depth speed reach solid ≡ Some h → Within h.time_of_impact reach
unfolding half_space_hit
hit_timed n depth speed reach solid h k e = go (solid && lt zero depth) e
  where
    go : (inside : Bool) → cond inside (Some (hit zero zero_vector (Face 0))) (and_then (plane_hit n depth speed) (up_to reach)) ≡ Some h → Within h.time_of_impact reach
    go true e =
        let same : zero ≡ h.time_of_impact = cc in
        subst (λ (t : Float). Within t reach) same (zero_le_zero, k)
    go false e = up_to_timed (plane_hit n depth speed) reach h (plane_hit_ahead n depth speed) e

hit_kept : (n : Vector) (depth speed reach longer : Float) (solid : Bool) → T (le reach longer) → is_some (half_space_hit n depth speed reach solid) ≡ true → is_some (half_space_hit n depth speed longer solid) ≡ true
unfolding half_space_hit
hit_kept n depth speed reach longer solid l e = go (solid && lt zero depth) e
  where
    go : (inside : Bool)
        → is_some (cond inside (Some (hit zero zero_vector (Face 0))) (and_then (plane_hit n depth speed) (up_to reach))) ≡ true
        → is_some (cond inside (Some (hit zero zero_vector (Face 0))) (and_then (plane_hit n depth speed) (up_to longer))) ≡ true
    go true e = refl
    go false e = up_to_kept (plane_hit n depth speed) reach longer l e

pub half_space_timed : (x : HalfSpace) (r : Ray) (reach : Float) (solid : Bool) (h : RayIntersection) → NotBelowZero reach → half_space_cast x r reach solid ≡ Some h → Within h.time_of_impact reach
unfolding half_space_cast
half_space_timed x r = hit_timed x.normal (dot x.normal (vneg r.origin)) (dot x.normal r.dir)

pub half_space_kept : (x : HalfSpace) (r : Ray) (reach longer : Float) (solid : Bool) → T (le reach longer) → is_some (half_space_cast x r reach solid) ≡ true → is_some (half_space_cast x r longer solid) ≡ true
unfolding half_space_cast
half_space_kept x r = hit_kept x.normal (dot x.normal (vneg r.origin)) (dot x.normal r.dir)
