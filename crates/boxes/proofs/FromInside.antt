-- The clip of a ray that starts within the box: on each axis it enters at zero or before and leaves after that, so the clip starts at zero.
use Rattle.std.proofs.Common.{◌≡◌, false, T, ◌⊎◌, Some, Option, ap, ◌∙◌, inl, inr}
use mathlib.Core.Path.{subst⁻¹}
use lib.Ieee.{Float, neg, lt, le, eq}
use lib.Ieee.Bits.{is_false}
use Rattle.scalar.specs.Single.{zero, largest}
use Rattle.scalar.proofs.Order.{le_of_lt, lt_of_le_of_lt, not_lt_of_le, zero_le_zero, lowest_below_zero, most_zero_of_le}
use Rattle.math.specs.declared.Vector.{Vector}
use Rattle.std.specs.Float as Floats
use Rattle.boxes.specs.declared.aabb.Aabb.{Aabb}
use Rattle.query.specs.declared.ray.Ray.{Ray}
use Rattle.boxes.specs.declared.clip_aabb_line.Ends.{Ends}
use Rattle.boxes.specs.declared.clip_aabb_line.LinePoint.{LinePoint}
use Rattle.query.specs.Cast.{and_then}
use Rattle.boxes.specs.Clip.{ray_parameters, clip_ray}
use Rattle.boxes.proofs.Slabs.{Cuts, Still, Clipped, stands, passes, line_clipped}

abbrev pub ByZero : Float → Type 0
ByZero n = T (le n zero)

-- the clip exists, starts at a zero and ends at zero or later; where the ray moves, its end is an exit from a slab, of which After holds
pub record StartsAtZero (After : Float → Type 0) (b : Aabb) (r : Ray) : Type 0 where
  pub start : Float
  pub end : Float
  pub clip : clip_ray b r ≡ Some (start, end)
  pub start_zero : T (eq start zero)
  pub end_least : T (le zero end)
  pub end_after : Still r.dir ⊎ After end

record AroundZero (After : Float → Type 0) (d : Vector) (c : Ends LinePoint) : Type 0 where
  enters : T (le c.near.time zero)
  leaves : T (le zero c.far.time)
  after : Still d ⊎ After c.far.time

module _ (After : Float → Type 0) (positive : (f : Float) → After f → T (lt zero f)) where
  around_zero : (d : Vector) (c : Ends LinePoint) → Clipped ByZero After d c → AroundZero After d c
  around_zero d c (stands s e) = subst⁻¹ (AroundZero After d) e (record { enters = zero_le_zero; leaves = zero_le_zero; after = inl s })
  around_zero d c (passes n f) = record { enters = n; leaves = le_of_lt zero c.far.time (positive c.far.time f); after = inr f }

  pub clip_from_inside : (b : Aabb) (r : Ray) → After largest → Cuts ByZero After b r.origin r.dir → StartsAtZero After b r
  unfolding clip_ray
  clip_from_inside b r late w =
      let p = line_clipped ByZero After (λ n f h k. lt_of_le_of_lt n zero f h (positive f k)) (λ f k. le_of_lt zero f (positive f k)) b r.origin r.dir
      (le_of_lt (neg largest) zero lowest_below_zero) late w in
      let c = p.0 in
      let z = around_zero r.dir c p.2 in
      let s : lt c.far.time zero ≡ false = is_false (lt c.far.time zero) (not_lt_of_le zero c.far.time z.leaves) in
      record {
        start = Floats.float_max c.near.time zero;
        end = c.far.time;
        clip = ap (λ (x : Option (Ends LinePoint)). and_then x ray_parameters) p.1 ∙ rw s;
        start_zero = most_zero_of_le c.near.time z.enters;
        end_least = z.leaves;
        end_after = z.after;
      }
