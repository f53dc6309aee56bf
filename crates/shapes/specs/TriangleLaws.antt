-- The two laws of a triangle's cast.
use Rattle.std.specs.Prelude.{◌≡◌, Bool, true, false, cond, not, T, is_some, Some, None, Option, Float}
use Rattle.std.proofs.Common.{subst, arith}
use Rattle.std.proofs.Math.Path.{subst⁻¹}
use Rattle.std.specs.Float.Ieee.{neg, lt, le, eq}
use Rattle.scalar.specs.Single.{times, over, zero, one, Number, NotBelowZero}
use Rattle.scalar.proofs.Order.{le_of_lt, le_of_eq, le_of_not_lt, zero_number}
use Rattle.scalar.proofs.Values.{zero_le_value, one_value}
use Rattle.scalar.proofs.Signs.{times_left_number, times_right_number, times_not_below_zero, over_size_not_below_zero, neg_not_below_zero}
use Rattle.math.specs.declared.Vector.{Vector}
use Rattle.math.specs.Vectors.{dot, cross, vsub, vneg, normalized}
use Rattle.std.specs.Float.{float_with_sign}
use Rattle.query.specs.declared.ray.Ray.{Ray}
use Rattle.query.specs.declared.ray.RayIntersection.{RayIntersection}
use Rattle.query.specs.declared.feature_id.FeatureId.{FeatureId}
use Rattle.query.specs.declared.feature_id.FeatureId.TheVariants.{Face}
use Rattle.query.specs.Cast.{hit, Within}
use Rattle.query.proofs.Options.{none_is_not_some}
use Rattle.shapes.specs.declared.triangle.Triangle.{Triangle}
use Rattle.shapes.specs.Triangle.{outside, hit_within, goes_away, from_below, plane_crossed, plane_reached, seen_from_corner, triangle_hit, triangle_cast}
use Rattle.shapes.specs.ReachLaws.{Ahead, up_to_timed, up_to_kept}

none_ahead : Ahead None
none_ahead h e n = none_is_not_some h e

cond_ahead : (b : Bool) (x y : Option RayIntersection) → (T b → Ahead x) → (T (not b) → Ahead y) → Ahead (cond b x y)
cond_ahead true x y p q = p tt
cond_ahead false x y p q = q tt

-- a time of height over size, times a number not below zero, is not below zero
time_ahead : (height speed : Float) → T (not (eq speed zero)) → (Number height → NotBelowZero height)
    → Number (times height (over one (float_with_sign false speed))) → NotBelowZero (times height (over one (float_with_sign false speed)))
time_ahead height speed s p n =
    let share = over one (float_with_sign false speed) in
    times_not_below_zero height share (p (times_left_number height share n))
    (over_size_not_below_zero one speed (zero_le_value one 1 1 (omega arith) one_value) s (times_right_number height share n)) n

hit_within_ahead : (v w speed height : Float) (normal : Vector) (feature : FeatureId) → T (not (eq speed zero)) → (Number height → NotBelowZero height) → Ahead (hit_within v w (float_with_sign false speed) height normal feature)
unfolding hit_within
hit_within_ahead v w speed height normal feature s p =
    cond_ahead (outside v w (float_with_sign false speed)) None (Some (hit (times height (over one (float_with_sign false speed))) normal feature)) (λ _. none_ahead) (λ _ h e n.
    let same : times height (over one (float_with_sign false speed)) ≡ h.time_of_impact = cc in
    subst NotBelowZero same (time_ahead height speed s p (subst⁻¹ Number same n)))

plane_crossed_ahead : (ab ac n e : Vector) (height speed : Float) → T (not (eq speed zero)) → Ahead (plane_crossed ab ac n e height speed)
unfolding plane_crossed
plane_crossed_ahead ab ac n e height speed s =
    let feature = cond (lt speed zero) (Face 0) (Face 1) in
    let size = float_with_sign false speed in
    let down : T (lt height zero) → T (le height zero) = le_of_lt height zero in
    let level : T (eq height zero) → T (le height zero) = le_of_eq height zero in
    let below : T (from_below height speed) → T (le height zero) = λ b. grind arith in
    let above : T (not (from_below height speed)) → T (not (lt height zero)) = λ b. grind arith in
    cond_ahead (from_below height speed) (hit_within (neg (dot ac e)) (dot ab e) size (neg height) (vneg (normalized n)) feature) (hit_within (dot ac e) (neg (dot ab e)) size height (normalized n) feature)
    (λ b. hit_within_ahead (neg (dot ac e)) (dot ab e) speed (neg height) (vneg (normalized n)) feature s (λ _. neg_not_below_zero height (below b)))
    (λ b. hit_within_ahead (dot ac e) (neg (dot ab e)) speed height (normalized n) feature s (λ k. le_of_not_lt height zero k zero_number (above b)))

plane_reached_ahead : (ab ac n e : Vector) (height speed : Float) → Ahead (plane_reached ab ac n e height speed)
unfolding plane_reached
plane_reached_ahead ab ac n e height speed =
    let crossed = plane_crossed ab ac n e height speed in
    cond_ahead (eq speed zero) None (cond (goes_away height speed) None crossed) (λ _. none_ahead) (λ s.
    cond_ahead (goes_away height speed) None crossed (λ _. none_ahead) (λ _. plane_crossed_ahead ab ac n e height speed s))

triangle_hit_ahead : (a b c : Vector) (r : Ray) → Ahead (triangle_hit a b c r)
unfolding triangle_hit seen_from_corner
triangle_hit_ahead a b c r =
    let n = cross (vsub b a) (vsub c a) in
    let ap = vsub r.origin a in
    plane_reached_ahead (vsub b a) (vsub c a) n (vneg (cross r.dir ap)) (dot ap n) (dot n r.dir)

pub triangle_timed : (x : Triangle) (r : Ray) (reach : Float) (solid : Bool) (h : RayIntersection) → NotBelowZero reach → triangle_cast x r reach solid ≡ Some h → Within h.time_of_impact reach
unfolding triangle_cast
triangle_timed x r reach solid h n e = up_to_timed (triangle_hit x.a x.b x.c r) reach h (triangle_hit_ahead x.a x.b x.c r) e

pub triangle_kept : (x : Triangle) (r : Ray) (reach longer : Float) (solid : Bool) → T (le reach longer) → is_some (triangle_cast x r reach solid) ≡ true → is_some (triangle_cast x r longer solid) ≡ true
unfolding triangle_cast
triangle_kept x r reach longer solid l e = up_to_kept (triangle_hit x.a x.b x.c r) reach longer l e
