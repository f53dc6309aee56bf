-- The clip of a line by a box whose near faces it passes before each far face: it exists, and its ends are among the faces' times.
use Rattle.std.proofs.Common.{◌≡◌, Bool, true, false, cond, not, T, ◌⊎◌, is_some, Some, None, Option, sym, refl, ap, ◌∙◌, inl, inr, true≢false, arith}
use mathlib.Core.Path.{subst⁻¹}
use lib.Ieee.{Float, neg, lt, le, eq}
use lib.Ieee.Bits.{is_true, is_false}
use Rattle.scalar.specs.Single.{zero, one, largest}
use Rattle.scalar.proofs.Order.{le_of_lt, not_lt_of_le}
use Rattle.math.specs.declared.Vector.{Vector}
use Rattle.math.specs.declared.Axis.{Axis}
use Rattle.math.specs.declared.Axis.TheVariants.{X, Y, Z}
use Rattle.math.specs.Vectors.{component, along, vneg, normalized}
use Rattle.boxes.specs.declared.aabb.Aabb.{Aabb}
use Rattle.boxes.specs.declared.clip_aabb_line.Side.{Side}
use Rattle.boxes.specs.declared.clip_aabb_line.Side.TheVariants.{Low, High}
use Rattle.boxes.specs.declared.clip_aabb_line.Bound.{Bound}
use Rattle.boxes.specs.declared.clip_aabb_line.Ends.{Ends}
use Rattle.boxes.specs.declared.clip_aabb_line.LinePoint.{LinePoint}
use Rattle.query.specs.Cast.{and_then}
use Rattle.boxes.specs.Clip.{face_time, at_face, or_edge, later_entry, earlier_exit, unless_empty, cut_by_slab, clip_axis, whole_line, clip_along, clip_slabs, face_normal, near_normal, far_normal, with_normal, beyond, contains, stands_inside, inside_only, join_ends, clip_line}

-- ---- one bound
-- an end so far, after a slab that is met at the time t: replaced by that, on an edge with it, or kept
abbrev pub met_at : Bool → Bool → Bound → Float → Side → Bound
met_at replaced edge b t s = cond replaced (at_face t s) (cond edge (record { time = b.time; side = b.side; edge = true }) b)

pub met_at_one : (replaced edge : Bool) (b : Bound) (t : Float) (s : Side) → ((met_at replaced edge b t s).time ≡ b.time) ⊎ ((met_at replaced edge b t s).time ≡ t)
met_at_one true edge b t s = inr refl
met_at_one false true b t s = inl refl
met_at_one false false b t s = inl refl

met_keeps : (P : Float → Type 0) (replaced edge : Bool) (b : Bound) (t : Float) (s : Side) → P b.time → P t → P (met_at replaced edge b t s).time
met_keeps P replaced edge b t s h k = elim (met_at_one replaced edge b t s) [
  | inl e ↦ subst⁻¹ P e h
  | inr e ↦ subst⁻¹ P e k
]

entry_kept : (P : Float → Type 0) (b : Bound) (t : Float) (s : Side) → P b.time → P t → P (later_entry b t s).time
unfolding later_entry or_edge
entry_kept P b t s h k = met_keeps P (lt b.time t) (eq t b.time) b t s h k

exit_kept : (P : Float → Type 0) (b : Bound) (t : Float) (s : Side) → P b.time → P t → P (earlier_exit b t s).time
unfolding earlier_exit or_edge
exit_kept P b t s h k = met_keeps P (lt t b.time) (eq t b.time) b t s h k

abbrev AtFace : Bound → Type 0
AtFace b = is_some b.side ≡ true

met_at_face : (replaced edge : Bool) (b : Bound) (t : Float) (s : Side) → (replaced ≡ true) ⊎ AtFace b → AtFace (met_at replaced edge b t s)
met_at_face true edge b t s h = refl
met_at_face false edge b t s (inl e) = absurd (true≢false (sym e))
met_at_face false true b t s (inr h) = h
met_at_face false false b t s (inr h) = h

entry_face : (b : Bound) (t : Float) (s : Side) → (lt b.time t ≡ true) ⊎ AtFace b → AtFace (later_entry b t s)
unfolding later_entry or_edge
entry_face b t s h = met_at_face (lt b.time t) (eq t b.time) b t s h

exit_face : (b : Bound) (t : Float) (s : Side) → (lt t b.time ≡ true) ⊎ AtFace b → AtFace (earlier_exit b t s)
unfolding earlier_exit or_edge
exit_face b t s h = met_at_face (lt t b.time) (eq t b.time) b t s h

-- ---- one axis

-- what holds of the times at a near and a far face
pub record AtFaces (Before After : Float → Type 0) (near far : Float) : Type 0 where
  pub enters : Before near
  pub leaves : After far
  pub near_bounded : T (lt (neg largest) near)
  pub far_bounded : T (lt far largest)

pub data Cut (Before After : Float → Type 0) (low high o d : Float) : Type 0 where
  level : eq d zero ≡ true → beyond o low high ≡ false → Cut Before After low high o d
  up : eq d zero ≡ false → AtFaces Before After (face_time low o d) (face_time high o d) → Cut Before After low high o d
  down : eq d zero ≡ false → AtFaces Before After (face_time high o d) (face_time low o d) → Cut Before After low high o d

-- the line is level on the axes seen so far, or each end is at a face
data Sides (D : Type 0) (i : Ends Bound) : Type 0 where
  standing : D → i ≡ whole_line → Sides D i
  passing : AtFace i.near → AtFace i.far → Sides D i

still_sides : (D E : Type 0) (i : Ends Bound) → E → Sides D i → Sides (D × E) i
still_sides D E i x (standing d w) = standing (d, x) w
still_sides D E i x (passing u v) = passing u v

-- an end at a face has a normal
some_normal : (edge : Bool) (s : Option Side) (v : Vector) (low high : Float) → is_some s ≡ true → (n : Vector) × (cond edge (Some v) (face_normal s low high) ≡ Some n)
some_normal true s v low high h = (v, refl)
some_normal false None v low high h = absurd (true≢false (sym h))
some_normal false (Some (Low axis)) v low high h = (along axis low, refl)
some_normal false (Some (High axis)) v low high h = (along axis high, refl)

-- ---- three axes
abbrev pub Cuts : (Float → Type 0) → (Float → Type 0) → Aabb → Vector → Vector → Type 0
Cuts Before After b o d = (a : Axis) → Cut Before After (component b.mins a) (component b.maxs a) (component o a) (component d a)

abbrev pub Still : Vector → Type 0
Still d = (a : Axis) → eq (component d a) zero ≡ true

abbrev Level : Aabb → Vector → Vector → Axis → Type 0
Level b o d a = (eq (component d a) zero ≡ true) × (beyond (component o a) (component b.mins a) (component b.maxs a) ≡ false)

abbrev AllLevel : Aabb → Vector → Vector → Type 0
AllLevel b o d = ((T true × Level b o d X) × Level b o d Y) × Level b o d Z

all_contained : (b : Aabb) (o d : Vector) → AllLevel b o d → contains b o ≡ true
unfolding contains
all_contained b o d l = rw (l.0.0.1.1, l.0.1.1, l.1.1)

each_still : (b : Aabb) (o d : Vector) → AllLevel b o d → Still d
each_still b o d l X = l.0.0.1.0
each_still b o d l Y = l.0.1.0
each_still b o d l Z = l.1.0

-- the line's clip: at once, where the line stands still, else from a near face to a far one
pub data Clipped (Before After : Float → Type 0) (d : Vector) (c : Ends LinePoint) : Type 0 where
  stands : Still d → c ≡ stands_inside → Clipped Before After d c
  passes : Before c.near.time → After c.far.time → Clipped Before After d c

-- each entry comes before each exit, and no exit before zero
module _ (Before After : Float → Type 0) (ordered : (n f : Float) → Before n → After f → T (lt n f)) (positive : (f : Float) → After f → T (le zero f)) where
  record Kept (i : Ends Bound) : Type 0 where
    enters : Before i.near.time
    leaves : After i.far.time

  not_empty : (i : Ends Bound) → Kept i → unless_empty i ≡ Some i
  unfolding unless_empty
  not_empty i z =
      let n = i.near.time in
      let f = i.far.time in
      let a : T (not (lt f zero)) = not_lt_of_le zero f (positive f z.leaves) in
      let b : T (not (lt f n)) = not_lt_of_le n f (le_of_lt n f (ordered n f z.enters z.leaves)) in
      grind arith

  narrowed : (i : Ends Bound) (n f : Float) (s r : Side) → Kept i → AtFaces Before After n f → Kept (record { near = later_entry i.near n s; far = earlier_exit i.far f r })
  narrowed i n f s r z e = record { enters = entry_kept Before i.near n s z.enters e.enters; leaves = exit_kept After i.far f r z.leaves e.leaves }

  narrowed_sides : (D E : Type 0) (i : Ends Bound) (n f : Float) (s r : Side) → Sides D i → AtFaces Before After n f
      → Sides E (record { near = later_entry i.near n s; far = earlier_exit i.far f r })
  narrowed_sides D E i n f s r (standing x w) e =
      passing (entry_face i.near n s (inl (ap (λ (j : Ends Bound). lt j.near.time n) w ∙ is_true (lt (neg largest) n) e.near_bounded)))
      (exit_face i.far f r (inl (ap (λ (j : Ends Bound). lt f j.far.time) w ∙ is_true (lt f largest) e.far_bounded)))
  narrowed_sides D E i n f s r (passing u v) e = passing (entry_face i.near n s (inr u)) (exit_face i.far f r (inr v))

  record Next (E : Type 0) (o : Option (Ends Bound)) : Type 0 where
    interval : Ends Bound
    is : o ≡ Some interval
    kept : Kept interval
    sides : Sides E interval

  axis_next : (D : Type 0) (i : Ends Bound) (a : Axis) (low high o d : Float) → Kept i → Sides D i → Cut Before After low high o d
      → Next (D × ((eq d zero ≡ true) × (beyond o low high ≡ false))) (clip_axis i a low high o d)
  unfolding clip_axis cut_by_slab
  axis_next D i a low high o d z s (level e l) = record { interval = i; is = rw (e, l); kept = z; sides = still_sides D ((eq d zero ≡ true) × (beyond o low high ≡ false)) i (e, l) s }
  axis_next D i a low high o d z s (up e n) =
      let t = face_time low o d in
      let u = face_time high o d in
      let j : Ends Bound = record { near = later_entry i.near t (Low a); far = earlier_exit i.far u (High a) } in
      let w : Kept j = narrowed i t u (Low a) (High a) z n in
      let q : lt u t ≡ false = is_false (lt u t) (not_lt_of_le t u (le_of_lt t u (ordered t u n.enters n.leaves))) in
      record { interval = j; is = rw (e, q) (not_empty j w); kept = w; sides = narrowed_sides D (D × ((eq d zero ≡ true) × (beyond o low high ≡ false))) i t u (Low a) (High a) s n }
  axis_next D i a low high o d z s (down e n) =
      let t = face_time low o d in
      let u = face_time high o d in
      let j : Ends Bound = record { near = later_entry i.near u (High a); far = earlier_exit i.far t (Low a) } in
      let w : Kept j = narrowed i u t (High a) (Low a) z n in
      let q : lt u t ≡ true = is_true (lt u t) (ordered u t n.enters n.leaves) in
      record { interval = j; is = rw (e, q) (not_empty j w); kept = w; sides = narrowed_sides D (D × ((eq d zero ≡ true) × (beyond o low high ≡ false))) i u t (High a) (Low a) s n }

  slabs_next : (b : Aabb) (o d : Vector) → Before (neg largest) → After largest → Cuts Before After b o d → Next (AllLevel b o d) (clip_slabs b o d)
  slabs_next b o d n f w =
      let p = axis_next (T true) whole_line X b.mins.x b.maxs.x o.x d.x (record { enters = n; leaves = f }) (standing tt refl) (w X) in
      let q = axis_next (T true × Level b o d X) p.interval Y b.mins.y b.maxs.y o.y d.y p.kept p.sides (w Y) in
      let r = axis_next ((T true × Level b o d X) × Level b o d Y) q.interval Z b.mins.z b.maxs.z o.z d.z q.kept q.sides (w Z) in
      record {
        interval = r.interval;
        is = ap (λ (x : Option (Ends Bound)). and_then x (λ i. and_then (clip_along b o d Y i) (clip_along b o d Z))) p.is
            ∙ ap (λ (x : Option (Ends Bound)). and_then x (clip_along b o d Z)) q.is
            ∙ r.is;
        kept = r.kept;
        sides = r.sides;
      }

  joined : (b : Aabb) (o d : Vector) (i : Ends Bound) → Kept i → Sides (AllLevel b o d) i
      → (c : Ends LinePoint) × (join_ends b o (with_normal i.near (near_normal i.near d)) (with_normal i.far (far_normal i.far d)) ≡ Some c) × Clipped Before After d c
  unfolding near_normal far_normal inside_only
  joined b o d i z (standing l w) = (
    stands_inside,
    ap (λ (j : Ends Bound). join_ends b o (with_normal j.near (near_normal j.near d)) (with_normal j.far (far_normal j.far d))) w ∙ rw (all_contained b o d l),
    stands (each_still b o d l) refl,
  )
  joined b o d i z (passing u v) =
      let n = some_normal i.near.edge i.near.side (vneg (normalized d)) (neg one) one u in
      let f = some_normal i.far.edge i.far.side (vneg (normalized d)) one (neg one) v in (
        _,
        ap (λ (m : Option Vector). join_ends b o (with_normal i.near m) (with_normal i.far (far_normal i.far d))) n.1 ∙ ap (λ (m : Option Vector). join_ends b o (with_normal i.near (Some n.0)) (with_normal i.far m)) f.1,
        passes z.enters z.leaves,
      )

  pub line_clipped : (b : Aabb) (o d : Vector) → Before (neg largest) → After largest → Cuts Before After b o d → (c : Ends LinePoint) × (clip_line b o d ≡ Some c) × Clipped Before After d c
  unfolding clip_line
  line_clipped b o d n f w =
      let p = slabs_next b o d n f w in
      let q = joined b o d p.interval p.kept p.sides in
      (q.0, ap (λ (x : Option (Ends Bound)). and_then x (λ i. join_ends b o (with_normal i.near (near_normal i.near d)) (with_normal i.far (far_normal i.far d)))) p.is ∙ q.1, q.2)
