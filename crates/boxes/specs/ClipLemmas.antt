-- The ends of a clipped line: which faces they are at, and that the entry's time is a number and the exit's is not below zero.
use Rattle.std.specs.Prelude.{◌≡◌, Bool, true, false, cond, not, ◌||◌, T, Some, None, Option, refl}
use Rattle.std.proofs.Common.{subst, arith}
use Rattle.std.proofs.Math.Path.{subst⁻¹}
use lib.Ieee.{Float, of_bits, is_nan, lt, le, eq}
use Rattle.scalar.specs.Single.{Number, NotBelowZero, zero}
use Rattle.scalar.proofs.Order.{le_left, le_right, le_of_lt, le_of_not_lt, zero_number, zero_le_zero}
use Rattle.math.specs.declared.Vector.{Vector}
use Rattle.math.specs.declared.Axis.{Axis}
use Rattle.math.specs.declared.Axis.TheVariants.{X, Y, Z}
use Rattle.math.specs.Vectors.{component}
use Rattle.boxes.specs.declared.aabb.Aabb.{Aabb}
use Rattle.boxes.specs.declared.clip_aabb_line.Side.{Side}
use Rattle.boxes.specs.declared.clip_aabb_line.Side.TheVariants.{Low, High}
use Rattle.boxes.specs.declared.clip_aabb_line.Bound.{Bound}
use Rattle.boxes.specs.declared.clip_aabb_line.Ends.{Ends}
use Rattle.boxes.specs.declared.clip_aabb_line.LinePoint.{LinePoint}
use Rattle.query.specs.Cast.{and_then}
use Rattle.boxes.specs.Clip.{face_time, or_edge, later_entry, earlier_exit, unless_empty, cut_by_slab, clip_axis, whole_line, clip_along, clip_slabs, near_normal, far_normal, with_normal, contains, stands_inside, inside_only, join_ends, clip_line}
use Rattle.query.proofs.Options.{none_is_not_some, through}

-- ---- what a clip that exists came from

-- on one axis, the face that is passed first and the one that is passed last
abbrev pub first_face : Float → Float → Float → Float → Float
first_face low high o d = cond (lt (face_time high o d) (face_time low o d)) (face_time high o d) (face_time low o d)

abbrev pub last_face : Float → Float → Float → Float → Float
last_face low high o d = cond (lt (face_time high o d) (face_time low o d)) (face_time low o d) (face_time high o d)

-- a slab leaves j of i: all of it, where the line is level, else what lies between its faces
pub data Leaves (low high o d : Float) (i j : Ends Bound) : Type 0 where
  all : eq d zero ≡ true → i ≡ j → Leaves low high o d i j
  between : (s r : Side) → eq d zero ≡ false
      → unless_empty (record { near = later_entry i.near (first_face low high o d) s; far = earlier_exit i.far (last_face low high o d) r }) ≡ Some j → Leaves low high o d i j

axis_leaves : (i j : Ends Bound) (a : Axis) (low high o d : Float) → clip_axis i a low high o d ≡ Some j → Leaves low high o d i j
unfolding clip_axis cut_by_slab
axis_leaves i j a low high o d = go (eq d zero) (lt o low || lt high o) (lt u t) refl refl
  where
    t : Float
    t = face_time low o d

    u : Float
    u = face_time high o d

    go : (still out flipped : Bool) → eq d zero ≡ still → lt u t ≡ flipped
        → cond still (cond out None (Some i))
        (cond flipped (unless_empty (record { near = later_entry i.near u (High a); far = earlier_exit i.far t (Low a) }))
        (unless_empty (record { near = later_entry i.near t (Low a); far = earlier_exit i.far u (High a) }))) ≡ Some j → Leaves low high o d i j
    go true true flipped z q e = none_is_not_some j e
    go true false flipped z q e = all z cc
    go false out true z q e = between (High a) (Low a) z (rw q e)
    go false out false z q e = between (Low a) (High a) z (rw q e)

abbrev pub LeavesAlong : Aabb → Vector → Vector → Axis → Ends Bound → Ends Bound → Type 0
LeavesAlong b o d a i j = Leaves (component b.mins a) (component b.maxs a) (component o a) (component d a) i j

pub slabs_leave : (b : Aabb) (o d : Vector) (i : Ends Bound) → clip_slabs b o d ≡ Some i
    → (j : Ends Bound) × (k : Ends Bound) × LeavesAlong b o d X whole_line j × LeavesAlong b o d Y j k × LeavesAlong b o d Z k i
slabs_leave b o d i e =
    let along : (a : Axis) (j k : Ends Bound) → clip_along b o d a j ≡ Some k → LeavesAlong b o d a j k = λ a j k. axis_leaves j k a (component b.mins a) (component b.maxs a) (component o a) (component d a) in
    let p = through (clip_along b o d X whole_line) (λ j. and_then (clip_along b o d Y j) (clip_along b o d Z)) i e in
    let q = through (clip_along b o d Y p.0) (clip_along b o d Z) i p.2 in
    (p.0, q.0, along X whole_line p.0 p.1, along Y p.0 q.0 q.1, along Z q.0 i q.2)

-- the line's ends are its origin, in the box, where it passes no face, else what the slabs leave
pub data LineEnds (b : Aabb) (o d : Vector) (c : Ends LinePoint) : Type 0 where
  at_origin : contains b o ≡ true → c ≡ stands_inside → LineEnds b o d c
  of_slabs : (i : Ends Bound) → clip_slabs b o d ≡ Some i → i.near.time ≡ c.near.time → i.far.time ≡ c.far.time → LineEnds b o d c

origin_ends : (b : Aabb) (o d : Vector) (c : Ends LinePoint) → inside_only b o ≡ Some c → LineEnds b o d c
unfolding inside_only
origin_ends b o d c = go (contains b o) refl
  where
    go : (inside : Bool) → contains b o ≡ inside → cond inside (Some stands_inside) None ≡ Some c → LineEnds b o d c
    go true h e = at_origin h cc
    go false h e = none_is_not_some c e

joined_ends : (b : Aabb) (o d : Vector) (i : Ends Bound) (n f : Option Vector) (c : Ends LinePoint) → clip_slabs b o d ≡ Some i → join_ends b o (with_normal i.near n) (with_normal i.far f) ≡ Some c → LineEnds b o d c
joined_ends b o d i None f c h e = origin_ends b o d c e
joined_ends b o d i (Some n) None c h e = origin_ends b o d c e
joined_ends b o d i (Some n) (Some f) c h e = of_slabs i h (grind arith) (grind arith)

pub line_ends : (b : Aabb) (o d : Vector) (c : Ends LinePoint) → clip_line b o d ≡ Some c → LineEnds b o d c
unfolding clip_line
line_ends b o d c e =
    let p = through (clip_slabs b o d) (λ i. join_ends b o (with_normal i.near (near_normal i.near d)) (with_normal i.far (far_normal i.far d))) c e in
    joined_ends b o d p.0 (near_normal p.0.near d) (far_normal p.0.far d) c p.1 p.2

-- ---- the two times
entry_number : (b : Bound) (t : Float) (s : Side) → Number b.time → Number (later_entry b t s).time
unfolding later_entry or_edge
entry_number b t s n = let k : T (lt b.time t) → Number t = λ h. le_right b.time t (le_of_lt b.time t h) in grind arith

exit_number : (b : Bound) (t : Float) (s : Side) → Number b.time → Number (earlier_exit b t s).time
unfolding earlier_exit or_edge
exit_number b t s n = let k : T (lt t b.time) → Number t = λ h. le_left t b.time (le_of_lt t b.time h) in grind arith

-- what every slab keeps true of the line's two times
pub record Sound (near far : Float) : Type 0 where
  pub near_number : Number near
  pub far_not_below_zero : NotBelowZero far

abbrev SoundInterval : Ends Bound → Type 0
SoundInterval i = Sound i.near.time i.far.time

abbrev pub SoundClip : Ends LinePoint → Type 0
SoundClip c = Sound c.near.time c.far.time

unless_empty_sound : (i j : Ends Bound) → Number i.near.time → Number i.far.time → unless_empty i ≡ Some j → SoundInterval j
unfolding unless_empty
unless_empty_sound i j n f e =
    let k : T (not (lt i.far.time zero)) → NotBelowZero i.far.time = le_of_not_lt i.far.time zero f zero_number in
    let p : Number j.near.time = grind arith in
    let q : NotBelowZero j.far.time = grind arith in
    record { near_number = p; far_not_below_zero = q }

axis_sound : {low high o d : Float} {i j : Ends Bound} → Leaves low high o d i j → SoundInterval i → SoundInterval j
axis_sound (all z q) s = subst SoundInterval q s
axis_sound {low} {high} {o} {d} {i} {j} (between p q z e) s =
    let n = first_face low high o d in
    let f = last_face low high o d in
    unless_empty_sound (record { near = later_entry i.near n p; far = earlier_exit i.far f q }) j
    (entry_number i.near n p s.near_number) (exit_number i.far f q (le_right zero i.far.time s.far_not_below_zero)) e

whole_line_sound : SoundInterval whole_line
unfolding is_nan of_bits le lib.Ieee.neg
whole_line_sound = record { near_number = tt; far_not_below_zero = tt }

slabs_sound : (b : Aabb) (o d : Vector) (i : Ends Bound) → clip_slabs b o d ≡ Some i → SoundInterval i
slabs_sound b o d i e = let p = slabs_leave b o d i e in axis_sound p.4 (axis_sound p.3 (axis_sound p.2 whole_line_sound))

pub clip_sound : (b : Aabb) (o d : Vector) (c : Ends LinePoint) → clip_line b o d ≡ Some c → SoundClip c
clip_sound b o d c e = by_ends (line_ends b o d c e)
  where
    by_ends : LineEnds b o d c → SoundClip c
    by_ends (at_origin h q) = subst⁻¹ SoundClip q (record { near_number = zero_number; far_not_below_zero = zero_le_zero })
    by_ends (of_slabs i h n f) = let s = slabs_sound b o d i h in record { near_number = subst Number n s.near_number; far_not_below_zero = subst NotBelowZero f s.far_not_below_zero }
