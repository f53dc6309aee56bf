-- Rotations and poses.
use Rattle.scalar.specs.Single.{minus, times, two}
use Rattle.math.specs.declared.Vector.{Vector}
use Rattle.math.specs.declared.rotation.Rotation.{Rotation}
use Rattle.math.specs.declared.pose.Pose.{Pose}
use Rattle.math.specs.Vectors.{vadd, vsub, vscale, vneg, dot, cross}

-- (v (w w - b·b) + b ((v·b) 2)) + (b × v) (w 2)
abbrev pub rotated : Rotation → Vector → Vector
rotated q v =
    vadd (vadd (vscale v (minus (times q.w q.w) (dot q.b q.b))) (vscale q.b (times (dot v q.b) two)))
    (vscale (cross q.b v) (times q.w two))

abbrev pub inverse_rotation : Rotation → Rotation
inverse_rotation q = record { b = vneg q.b; w = q.w }

abbrev pub world_point : Pose → Vector → Vector
world_point m p = vadd (rotated m.rotation p) m.translation

abbrev pub local_point : Pose → Vector → Vector
local_point m p = rotated (inverse_rotation m.rotation) (vsub p m.translation)
