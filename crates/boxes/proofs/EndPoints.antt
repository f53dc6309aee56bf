-- The two ends' points by the length of a low face's normal: minus one at the entry and one at the exit.
use Rattle.std.proofs.Common.{◌≡◌, refl}
use lib.Ieee.{neg, of_bits}
use Rattle.scalar.specs.Single.{one}
use Rattle.math.specs.declared.Vector.{Vector}
use Rattle.boxes.specs.declared.clip_aabb_line.Bound.{Bound}
use Rattle.boxes.specs.Clip.{near_normal, far_normal, with_normal, end_point}

-- minus minus one is one
pub near_end : (b : Bound) (d : Vector) → end_point b d (neg one) ≡ with_normal b (near_normal b d)
unfolding neg of_bits near_normal end_point
near_end b d = refl

pub far_end : (b : Bound) (d : Vector) → end_point b d one ≡ with_normal b (far_normal b d)
unfolding far_normal end_point
far_end b d = refl
