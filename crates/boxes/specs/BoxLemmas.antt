-- The two laws of a box's cast.
use Rattle.std.specs.Prelude.{◌≡◌, Bool, true, not, T, is_some, Some, None, Option, refl, Float}
use Rattle.std.proofs.Common.{sym, ◌∙◌, subst, arith}
use Rattle.std.specs.Float.Ieee.{lt, le}
use Rattle.scalar.specs.Single.{NotBelowZero, zero}
use Rattle.scalar.proofs.Order.{le_of_not_lt, le_trans, zero_number, zero_le_zero}
use Rattle.query.specs.declared.ray.Ray.{Ray}
use Rattle.query.specs.declared.ray.RayIntersection.{RayIntersection}
use Rattle.boxes.specs.declared.aabb.Aabb.{Aabb}
use Rattle.boxes.specs.declared.clip_aabb_line.LinePoint.{LinePoint}
use Rattle.boxes.specs.declared.clip_aabb_line.Ends.{Ends}
use Rattle.query.specs.Cast.{and_then, Within}
use Rattle.boxes.specs.Clip.{clip_line}
use Rattle.boxes.specs.Box.{box_point, box_hit, box_cast}
use Rattle.query.proofs.Options.{through}
use Rattle.boxes.specs.ClipLemmas.{SoundClip, clip_sound}

point_timed : (c : Ends LinePoint) (reach : Float) (solid : Bool) (p : LinePoint) → SoundClip c → NotBelowZero reach → box_point c reach solid ≡ Some p → Within p.time reach
unfolding box_point
point_timed c reach solid p s r e =
    let k : T (not (lt c.near.time zero)) → NotBelowZero c.near.time = le_of_not_lt c.near.time zero s.near_number zero_number in
    let f = s.far_not_below_zero in
    let l = zero_le_zero in
    let a : T (le zero p.time) = grind arith in
    let b : T (le p.time reach) = grind arith in
    (a, b)

point_kept : (c : Ends LinePoint) (reach longer : Float) (solid : Bool) → T (le reach longer) → is_some (box_point c reach solid) ≡ true → is_some (box_point c longer solid) ≡ true
unfolding box_point
point_kept c reach longer solid l e =
    let a : T (le c.near.time reach) → T (le c.near.time longer) = λ h. le_trans c.near.time reach longer h l in
    let b : T (le c.far.time reach) → T (le c.far.time longer) = λ h. le_trans c.far.time reach longer h l in
    grind arith

pub box_timed : (b : Aabb) (r : Ray) (reach : Float) (solid : Bool) (h : RayIntersection) → NotBelowZero reach → box_cast b r reach solid ≡ Some h → Within h.time_of_impact reach
unfolding box_cast
box_timed b r reach solid h n e =
    let p = through (clip_line b r.origin r.dir) (λ c. and_then (box_point c reach solid) box_hit) h e in
    let q = through (box_point p.0 reach solid) box_hit h p.2 in
    let w = point_timed p.0 reach solid q.0 (clip_sound b r.origin r.dir p.0 p.1) n q.1 in
    let same : q.0.time ≡ h.time_of_impact = cc q.2 in
    subst (λ (t : Float). Within t reach) same w

pub box_kept : (b : Aabb) (r : Ray) (reach longer : Float) (solid : Bool) → T (le reach longer) → is_some (box_cast b r reach solid) ≡ true → is_some (box_cast b r longer solid) ≡ true
unfolding box_cast
box_kept b r reach longer solid l e = go (clip_line b r.origin r.dir) e
  where
    same : (o : Option LinePoint) → is_some (and_then o box_hit) ≡ is_some o
    same None = refl
    same (Some p) = refl

    go : (o : Option (Ends LinePoint)) → is_some (and_then o (λ c. and_then (box_point c reach solid) box_hit)) ≡ true → is_some (and_then o (λ c. and_then (box_point c longer solid) box_hit)) ≡ true
    go None e = e
    go (Some c) e = same (box_point c longer solid) ∙ point_kept c reach longer solid l (sym (same (box_point c reach solid)) ∙ e)
