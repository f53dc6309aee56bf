-- Vectors of three floats: each operation rounds once, in the order written.
use Rattle.std.specs.Prelude.{Bool, cond, ◌&&◌, ℤ, int_le, Float}
use Rattle.std.specs.Float.{binary32}
use Rattle.std.specs.Float.Ieee.{neg, lt, to_signed}
use Rattle.std.specs.Float as Floats
use Rattle.scalar.specs.Single.{plus, minus, times, over, root, zero, one}
use Rattle.math.specs.declared.Vector.{Vector}
use Rattle.math.specs.declared.IVector.{IVector}
use Rattle.math.specs.declared.Axis.{Axis}
use Rattle.math.specs.declared.Axis.TheVariants.{X, Y, Z}

abbrev pub vector : Float → Float → Float → Vector
vector a b c = record { x = a; y = b; z = c }

abbrev pub zero_vector : Vector
zero_vector = vector zero zero zero

abbrev pub component : Vector → Axis → Float
component v X = v.x
component v Y = v.y
component v Z = v.z

-- the vector along an axis, of that length
abbrev pub along : Axis → Float → Vector
along X a = vector a zero zero
along Y a = vector zero a zero
along Z a = vector zero zero a

abbrev pub vadd : Vector → Vector → Vector
vadd a b = vector (plus a.x b.x) (plus a.y b.y) (plus a.z b.z)

abbrev pub vsub : Vector → Vector → Vector
vsub a b = vector (minus a.x b.x) (minus a.y b.y) (minus a.z b.z)

abbrev pub vscale : Vector → Float → Vector
vscale a k = vector (times a.x k) (times a.y k) (times a.z k)

abbrev pub vneg : Vector → Vector
vneg a = vector (neg a.x) (neg a.y) (neg a.z)

abbrev pub dot : Vector → Vector → Float
dot a b = plus (plus (times a.x b.x) (times a.y b.y)) (times a.z b.z)

abbrev pub cross : Vector → Vector → Vector
cross a b =
    vector (minus (times a.y b.z) (times b.y a.z))
    (minus (times a.z b.x) (times b.z a.x))
    (minus (times a.x b.y) (times b.x a.y))

-- times one over the root of the dot product with itself
abbrev pub normalized : Vector → Vector
normalized a = vscale a (over one (root (dot a a)))

-- the axis of the least component: x, and a later one only where its component is less
unfoldable pub min_position : Vector → Axis
min_position v = cond (lt v.y v.x) (cond (lt v.z v.y) Z Y) (cond (lt v.z v.x) Z X)

-- to the nearest end of the range of i32 where it is outside, and 0 for a NaN
abbrev pub to_i32 : Float → ℤ
to_i32 a = to_signed 31 a

abbrev pub floor : Float → Float
floor a = Floats.floor binary32 a

-- ---- whole numbers: from the least to the most, both ends among them
abbrev pub between : ℤ → ℤ → ℤ → Bool
between least most z = int_le least z && int_le z most

-- all three numbers are
abbrev pub all_between : ℤ → ℤ → IVector → Bool
all_between least most v = between least most v.x && (between least most v.y && between least most v.z)
