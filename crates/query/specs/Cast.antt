-- What a cast answers: a hit or none, and what its time may be.
use Rattle.std.specs.Prelude.{T, Some, None, Option, option_map, Float}
use Rattle.std.specs.Float.Ieee.{le}
use Rattle.math.specs.declared.Vector.{Vector}
use Rattle.math.specs.declared.pose.Pose.{Pose}
use Rattle.math.specs.Vectors.{vadd, vscale}
use Rattle.math.specs.Poses.{rotated, inverse_rotation, world_point, local_point}
use Rattle.scalar.specs.Single.{zero}
use Rattle.query.specs.declared.ray.Ray.{Ray}
use Rattle.query.specs.declared.ray.RayIntersection.{RayIntersection}
use Rattle.query.specs.declared.feature_id.FeatureId.{FeatureId}

abbrev pub hit : Float → Vector → FeatureId → RayIntersection
hit t n f = record { time_of_impact = t; normal = n; feature = f }

-- from zero to the reach, and no NaN
abbrev pub Within : Float → Float → Type 0
Within t reach = T (le zero t) × T (le t reach)

abbrev pub point_at : Ray → Float → Vector
point_at r t = vadd r.origin (vscale r.dir t)

abbrev pub translated : Ray → Vector → Ray
translated r v = record { origin = vadd r.origin v; dir = r.dir }

-- ---- poses
abbrev pub world_ray : Pose → Ray → Ray
world_ray m r = record { origin = world_point m r.origin; dir = rotated m.rotation r.dir }

abbrev pub local_ray : Pose → Ray → Ray
local_ray m r = record { origin = local_point m r.origin; dir = rotated (inverse_rotation m.rotation) r.dir }

abbrev pub world_hit : Pose → RayIntersection → RayIntersection
world_hit m h = hit h.time_of_impact (rotated m.rotation h.normal) h.feature

-- ---- options

-- the second step on what the first gives, if it gives anything
abbrev pub and_then : {A B : Type 0} → Option A → (A → Option B) → Option B
and_then None f = None
and_then (Some x) f = f x

abbrev pub time_of : Option RayIntersection → Option Float
time_of = option_map (λ h. h.time_of_impact)

abbrev pub world_hit_of : Pose → Option RayIntersection → Option RayIntersection
world_hit_of m = option_map (world_hit m)
