-- The part of a line that lies within a box: what the three slabs between opposite faces leave of it, one axis after the other.
use Rattle.std.specs.Prelude.{Bool, true, false, cond, ◌||◌, ℤ, pos, negsuc, Some, None, Option, Float}
use Rattle.std.specs.Float.Ieee.{neg, lt, eq}
use Rattle.scalar.specs.Single.{minus, times, over, zero, one, largest}
use Rattle.math.specs.declared.Vector.{Vector}
use Rattle.math.specs.declared.Axis.{Axis}
use Rattle.math.specs.declared.Axis.TheVariants.{X, Y, Z}
use Rattle.math.specs.Vectors.{component, along, vneg, normalized, zero_vector}
use Rattle.std.specs.Float as Floats
use Rattle.query.specs.declared.ray.Ray.{Ray}
use Rattle.boxes.specs.declared.aabb.Aabb.{Aabb}
use Rattle.boxes.specs.declared.clip_aabb_line.Side.{Side}
use Rattle.boxes.specs.declared.clip_aabb_line.Side.TheVariants.{Low, High}
use Rattle.boxes.specs.declared.clip_aabb_line.Bound.{Bound}
use Rattle.boxes.specs.declared.clip_aabb_line.Ends.{Ends}
use Rattle.boxes.specs.declared.clip_aabb_line.LinePoint.{LinePoint}
use Rattle.query.specs.Cast.{and_then}

-- ---- the sides of a box by their numbers
abbrev pub axis_number : Axis → ℤ
axis_number X = pos 1
axis_number Y = pos 2
axis_number Z = pos 3

abbrev pub side_number : Option Side → ℤ
side_number None = pos 0
side_number (Some (Low axis)) = axis_number axis
side_number (Some (High X)) = negsuc 0
side_number (Some (High Y)) = negsuc 1
side_number (Some (High Z)) = negsuc 2

-- ---- one slab

-- when the line is at the height of a face
abbrev pub face_time : Float → Float → Float → Float
face_time face o d = times (minus face o) (over one d)

abbrev pub at_face : Float → Side → Bound
at_face t s = record { time = t; side = Some s; edge = false }

-- at the time of the end so far another slab meets it on an edge
unfoldable pub or_edge : Bound → Float → Bound
or_edge b t = cond (eq t b.time) (record { time = b.time; side = b.side; edge = true }) b

-- a face that cuts off more takes the place of the end so far
abbrev pub cut_end : Bound → Bound → Bool → Bound
cut_end b face more = cond more face (or_edge b face.time)

-- of entries the later cuts off more, and of exits the earlier
unfoldable pub later_entry : Bound → Float → Side → Bound
later_entry b t s = cut_end b (at_face t s) (lt b.time t)

unfoldable pub earlier_exit : Bound → Float → Side → Bound
earlier_exit b t s = cut_end b (at_face t s) (lt t b.time)

-- nothing is left where the exit comes before time zero or before the entry
unfoldable pub unless_empty : Ends Bound → Option (Ends Bound)
unless_empty i = cond (lt i.far.time zero || lt i.far.time i.near.time) None (Some i)

-- the line is at the low face at a, and at the high face at b
unfoldable pub cut_by_slab : Ends Bound → Axis → Float → Float → Option (Ends Bound)
cut_by_slab i axis a b =
    cond (lt b a)
    (unless_empty (record { near = later_entry i.near b (High axis); far = earlier_exit i.far a (Low axis) }))
    (unless_empty (record { near = later_entry i.near a (Low axis); far = earlier_exit i.far b (High axis) }))

-- a line along the slab is within it or not
unfoldable pub clip_axis : Ends Bound → Axis → Float → Float → Float → Float → Option (Ends Bound)
clip_axis i axis low high o d =
    cond (eq d zero) (cond (lt o low || lt high o) None (Some i)) (cut_by_slab i axis (face_time low o d) (face_time high o d))

-- ---- three slabs
abbrev pub whole_line : Ends Bound
whole_line = record { near = record { time = neg largest; side = None; edge = false }; far = record { time = largest; side = None; edge = false } }

abbrev pub clip_along : Aabb → Vector → Vector → Axis → Ends Bound → Option (Ends Bound)
clip_along b o d axis i = clip_axis i axis (component b.mins axis) (component b.maxs axis) (component o axis) (component d axis)

abbrev pub clip_slabs : Aabb → Vector → Vector → Option (Ends Bound)
clip_slabs b o d = and_then (clip_along b o d X whole_line) (λ i. and_then (clip_along b o d Y i) (clip_along b o d Z))

-- ---- the two ends

-- the normal of the face that is passed, out of the box at the entry and into it at the exit; none where no face was
abbrev pub face_normal : Option Side → Float → Float → Option Vector
face_normal None low high = None
face_normal (Some (Low axis)) low high = Some (along axis low)
face_normal (Some (High axis)) low high = Some (along axis high)

-- over an edge it is against the direction
abbrev pub end_normal : Bound → Vector → Float → Float → Option Vector
end_normal b d low high = cond b.edge (Some (vneg (normalized d))) (face_normal b.side low high)

unfoldable pub near_normal : Bound → Vector → Option Vector
near_normal b d = end_normal b d (neg one) one

unfoldable pub far_normal : Bound → Vector → Option Vector
far_normal b d = end_normal b d one (neg one)

abbrev pub with_normal : Bound → Option Vector → Option LinePoint
with_normal b None = None
with_normal b (Some n) = Some (record { time = b.time; normal = n; side = b.side })

-- with a normal of that length along the axis at a low face, and the other way at a high one
unfoldable pub end_point : Bound → Vector → Float → Option LinePoint
end_point b d low = with_normal b (end_normal b d low (neg low))

abbrev pub beyond : Float → Float → Float → Bool
beyond p low high = lt p low || lt high p

unfoldable pub contains : Aabb → Vector → Bool
contains b p =
    cond (beyond p.x b.mins.x b.maxs.x) false
    (cond (beyond p.y b.mins.y b.maxs.y) false
    (cond (beyond p.z b.mins.z b.maxs.z) false true))

-- where no face is passed, the line stands still or is no number: both ends are its origin, if that is in the box
abbrev pub stands_inside : Ends LinePoint
stands_inside = record { near = record { time = zero; normal = zero_vector; side = None }; far = record { time = zero; normal = zero_vector; side = None } }

unfoldable pub inside_only : Aabb → Vector → Option (Ends LinePoint)
inside_only b o = cond (contains b o) (Some stands_inside) None

abbrev pub join_ends : Aabb → Vector → Option LinePoint → Option LinePoint → Option (Ends LinePoint)
join_ends b o None far = inside_only b o
join_ends b o (Some near) None = inside_only b o
join_ends b o (Some near) (Some far) = Some (record { near = near; far = far })

unfoldable pub clip_line : Aabb → Vector → Vector → Option (Ends LinePoint)
clip_line b o d = and_then (clip_slabs b o d) (λ i. join_ends b o (with_normal i.near (near_normal i.near d)) (with_normal i.far (far_normal i.far d)))

-- ---- a ray: from time zero on
abbrev pub ray_parameters : Ends LinePoint → Option (Float × Float)
ray_parameters c = cond (lt c.far.time zero) None (Some (Floats.float_max c.near.time zero, c.far.time))

unfoldable pub clip_ray : Aabb → Ray → Option (Float × Float)
clip_ray b r = and_then (clip_line b r.origin r.dir) ray_parameters
