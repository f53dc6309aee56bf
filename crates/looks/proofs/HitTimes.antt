-- The time at which a line hits a solid box: the latest of the times at its near faces, or zero.
use Rattle.std.proofs.Common.{◌≡◌, Bool, true, false, cond, not, T, ◌⊎◌, Some, None, sym, refl, ap, ◌∙◌, subst, inl, inr, true≢false, arith}
use mathlib.Core.Path.{subst⁻¹}
use lib.Ieee.{Float, neg, lt, le, eq}
use Rattle.scalar.specs.Single.{zero, largest, Number}
use Rattle.scalar.proofs.Order.{le_of_lt, le_of_not_lt, le_trans, le_refl, le_right, lt_left, lowest_below_zero}
use Rattle.math.specs.declared.Vector.{Vector}
use Rattle.math.specs.declared.Axis.{Axis}
use Rattle.math.specs.declared.Axis.TheVariants.{X, Y, Z}
use Rattle.math.specs.Vectors.{component, zero_vector}
use Rattle.boxes.specs.declared.aabb.Aabb.{Aabb}
use Rattle.query.specs.declared.ray.Ray.{Ray}
use Rattle.query.specs.declared.ray.RayIntersection.{RayIntersection}
use Rattle.boxes.specs.declared.clip_aabb_line.Side.{Side}
use Rattle.boxes.specs.declared.clip_aabb_line.Bound.{Bound}
use Rattle.boxes.specs.declared.clip_aabb_line.Ends.{Ends}
use Rattle.boxes.specs.declared.clip_aabb_line.LinePoint.{LinePoint}
use Rattle.query.specs.Cast.{and_then}
use Rattle.boxes.specs.Clip.{or_edge, later_entry, earlier_exit, unless_empty, clip_slabs, contains, clip_line}
use Rattle.boxes.specs.Box.{box_point, box_hit, box_cast}
use Rattle.query.proofs.Options.{none_is_not_some, through}
use Rattle.boxes.specs.ClipLemmas.{first_face, last_face, Leaves, all, between, slabs_leave, LineEnds, at_origin, of_slabs, line_ends}
use Rattle.boxes.proofs.Slabs.{met_at, met_at_one}

-- ---- one bound
entry_later : (b : Bound) (t : Float) (s : Side) → Number b.time → Number t → T (le b.time (later_entry b t s).time) × T (le t (later_entry b t s).time)
unfolding later_entry or_edge
entry_later b t s n m = go (lt b.time t) (eq t b.time) (le_of_lt b.time t) (le_of_not_lt b.time t n m)
  where
    go : (u v : Bool) → (T u → T (le b.time t)) → (T (not u) → T (le t b.time)) → T (le b.time (met_at u v b t s).time) × T (le t (met_at u v b t s).time)
    go true v h k = (h tt, le_refl t m)
    go false true h k = (le_refl b.time n, k tt)
    go false false h k = (le_refl b.time n, k tt)

entry_is_one : (b : Bound) (t : Float) (s : Side) → ((later_entry b t s).time ≡ b.time) ⊎ ((later_entry b t s).time ≡ t)
unfolding later_entry or_edge
entry_is_one b t s = met_at_one (lt b.time t) (eq t b.time) b t s

-- ---- one axis
record Step (low high o d : Float) (i j : Ends Bound) : Type 0 where
  number : Number j.near.time
  grows : T (le i.near.time j.near.time)
  reaches : eq d zero ≡ false → T (le (first_face low high o d) j.near.time)
  attains : (j.near.time ≡ i.near.time) ⊎ ((eq d zero ≡ false) × (j.near.time ≡ first_face low high o d))

kept_near : (i j : Ends Bound) → unless_empty i ≡ Some j → i.near.time ≡ j.near.time
unfolding unless_empty
kept_near i j e = grind arith

axis_step : {low high o d : Float} {i j : Ends Bound} → Number i.near.time → (eq d zero ≡ false → Number (first_face low high o d)) → Leaves low high o d i j → Step low high o d i j
axis_step {low} {high} {o} {d} {i} {j} N M (all z same) =
    subst (λ (k : Ends Bound). Step low high o d i k) same (record { number = N; grows = le_refl i.near.time N; reaches = λ m. absurd (true≢false (sym z ∙ m)); attains = inl refl })
axis_step {low} {high} {o} {d} {i} {j} N M (between s r z e) =
    let n = first_face low high o d in
    let w = kept_near (record { near = later_entry i.near n s; far = earlier_exit i.far (last_face low high o d) r }) j e in
    let l = entry_later i.near n s N (M z) in
    let grows : T (le i.near.time j.near.time) = subst (λ (t : Float). T (le i.near.time t)) w l.0 in
    record {
      number = le_right i.near.time j.near.time grows;
      grows = grows;
      reaches = λ _. subst (λ (t : Float). T (le n t)) w l.1;
      attains = elim (entry_is_one i.near n s) [
        | inl q ↦ inl (sym w ∙ q)
        | inr q ↦ inr (z, sym w ∙ q)
      ];
    }

-- ---- three axes
abbrev pub first_face_on : Aabb → Vector → Vector → Axis → Float
first_face_on b o d a = first_face (component b.mins a) (component b.maxs a) (component o a) (component d a)

abbrev pub Moves : Vector → Axis → Type 0
Moves d a = eq (component d a) zero ≡ false

-- n is the latest of the times at which the line is at a first face; lower than all numbers, where there is none
pub record LatestFace (b : Aabb) (o d : Vector) (n : Float) : Type 0 where
  pub reached : (a : Axis) → Moves d a → T (le (first_face_on b o d a) n)
  pub attained : (n ≡ neg largest) ⊎ ((a : Axis) × Moves d a × (n ≡ first_face_on b o d a))

slabs_latest : (b : Aabb) (o d : Vector) (i : Ends Bound) → ((a : Axis) → Moves d a → Number (first_face_on b o d a)) → clip_slabs b o d ≡ Some i → LatestFace b o d i.near.time
slabs_latest b o d i N e =
    let p = slabs_leave b o d i e in
    let u = axis_step (lt_left (neg largest) zero lowest_below_zero) (N X) p.2 in
    let v = axis_step u.number (N Y) p.3 in
    let w = axis_step v.number (N Z) p.4 in
    let n = i.near.time in
    let m = p.1.near.time in
    let l = p.0.near.time in
    record {
      reached = λ a. by_axis a n
          (λ h. le_trans (first_face_on b o d X) m n (le_trans (first_face_on b o d X) l m (u.reaches h) v.grows) w.grows)
          (λ h. le_trans (first_face_on b o d Y) m n (v.reaches h) w.grows)
          w.reaches;
      attained = elim w.attains [
        | inr h ↦ inr (Z, h.0, h.1)
        | inl h ↦ elim v.attains [
          | inr k ↦ inr (Y, k.0, h ∙ k.1)
          | inl k ↦ elim u.attains [
            | inr r ↦ inr (X, r.0, h ∙ k ∙ r.1)
            | inl r ↦ inl (h ∙ k ∙ r)
          ]
        ]
      ];
    }
  where
    by_axis : (a : Axis) (n : Float) → (Moves d X → T (le (first_face_on b o d X) n)) → (Moves d Y → T (le (first_face_on b o d Y) n)) → (Moves d Z → T (le (first_face_on b o d Z) n))
        → Moves d a → T (le (first_face_on b o d a) n)
    by_axis X n x y z = x
    by_axis Y n x y z = y
    by_axis Z n x y z = z

-- ---- the cast
data NearEnd (b : Aabb) (o d : Vector) (n : Float) : Type 0 where
  contained : contains b o ≡ true → n ≡ zero → NearEnd b o d n
  at_face : LatestFace b o d n → NearEnd b o d n

line_near : (b : Aabb) (o d : Vector) (c : Ends LinePoint) → ((a : Axis) → Moves d a → Number (first_face_on b o d a)) → LineEnds b o d c → NearEnd b o d c.near.time
line_near b o d c N (at_origin h e) = contained h (ap (λ (k : Ends LinePoint). k.near.time) e)
line_near b o d c N (of_slabs i h n f) = at_face (subst (LatestFace b o d) n (slabs_latest b o d i N h))

-- a hit is at zero where the line starts in the box or past its near faces, else at the latest of these
pub data HitTime (b : Aabb) (o d : Vector) (t : Float) : Type 0 where
  from_inside : contains b o ≡ true → t ≡ zero → HitTime b o d t
  past_faces : (n : Float) → LatestFace b o d n → T (lt n zero) → t ≡ zero → HitTime b o d t
  at_latest : LatestFace b o d t → T (not (lt t zero)) → HitTime b o d t

point_time : (c : Ends LinePoint) (reach : Float) (p : LinePoint) → box_point c reach true ≡ Some p
    → (T (lt c.near.time zero) × (p.time ≡ zero)) ⊎ (T (not (lt c.near.time zero)) × (p.time ≡ c.near.time))
unfolding box_point
point_time c reach p e = go (lt c.near.time zero) (le c.near.time reach) e
  where
    go : (u v : Bool) → cond u (Some (record { time = zero; normal = zero_vector; side = c.far.side })) (cond v (Some c.near) None) ≡ Some p
        → (T u × (p.time ≡ zero)) ⊎ (T (not u) × (p.time ≡ c.near.time))
    go true v e = let z : p.time ≡ zero = grind arith in inl (tt, z)
    go false true e = let z : p.time ≡ c.near.time = grind arith in inr (tt, z)
    go false false e = none_is_not_some p e

pub hit_time : (b : Aabb) (r : Ray) (reach : Float) (h : RayIntersection) → ((a : Axis) → Moves r.dir a → Number (first_face_on b r.origin r.dir a)) → box_cast b r reach true ≡ Some h
    → HitTime b r.origin r.dir h.time_of_impact
unfolding box_cast
hit_time b r reach h N e =
    let o = r.origin in
    let d = r.dir in
    let p = through (clip_line b o d) (λ c. and_then (box_point c reach true) box_hit) h e in
    let c = p.0 in
    let q = through (box_point c reach true) box_hit h p.2 in
    let same : q.0.time ≡ h.time_of_impact = hit_is_point q.0 h q.2 in
    subst (λ (t : Float). HitTime b o d t) same (by_end c.near.time q.0.time (line_near b o d c N (line_ends b o d c p.1)) (point_time c reach q.0 q.1))
  where
    hit_is_point : (p : LinePoint) (h : RayIntersection) → box_hit p ≡ Some h → p.time ≡ h.time_of_impact
    hit_is_point p h e = grind arith

    by_end : (n t : Float) → NearEnd b r.origin r.dir n → (T (lt n zero) × (t ≡ zero)) ⊎ (T (not (lt n zero)) × (t ≡ n)) → HitTime b r.origin r.dir t
    by_end n t (contained k z) (inl u) = from_inside k u.1
    by_end n t (contained k z) (inr u) = from_inside k (u.1 ∙ z)
    by_end n t (at_face l) (inl u) = past_faces n l u.0 u.1
    by_end n t (at_face l) (inr u) = subst⁻¹ (λ (s : Float). HitTime b r.origin r.dir s) u.1 (at_latest l u.0)
