-- The two laws of a cast whose hit does not depend on the reach and is then tested against it.
use Rattle.std.specs.Prelude.{◌≡◌, true, T, is_some, Some, None, Option, Float}
use Rattle.std.proofs.Common.{arith}
use Rattle.std.specs.Float.Ieee.{le}
use Rattle.scalar.specs.Single.{Number, NotBelowZero}
use Rattle.scalar.proofs.Order.{le_left, le_trans}
use Rattle.query.specs.declared.ray.RayIntersection.{RayIntersection}
use Rattle.query.specs.Cast.{and_then, Within}
use Rattle.shapes.specs.Reach.{ahead, up_to}

-- a hit's time, where it is a number, is not below zero
abbrev pub Ahead : Option RayIntersection → Type 0
Ahead o = (h : RayIntersection) → o ≡ Some h → Number h.time_of_impact → NotBelowZero h.time_of_impact

pub ahead_is_ahead : (o : Option RayIntersection) → Ahead (and_then o ahead)
ahead_is_ahead None h e n = grind arith
ahead_is_ahead (Some k) h e n = grind arith

pub up_to_timed : (o : Option RayIntersection) (reach : Float) (h : RayIntersection) → Ahead o → and_then o (up_to reach) ≡ Some h → Within h.time_of_impact reach
up_to_timed None reach h a e = grind arith
up_to_timed (Some k) reach h a e =
    let same : Some k ≡ Some h = grind arith in
    let until : T (le h.time_of_impact reach) = grind arith in
    (a h same (le_left h.time_of_impact reach until), until)

pub up_to_kept : (o : Option RayIntersection) (reach longer : Float) → T (le reach longer) → is_some (and_then o (up_to reach)) ≡ true → is_some (and_then o (up_to longer)) ≡ true
up_to_kept None reach longer l e = e
up_to_kept (Some h) reach longer l e =
    let k : T (le h.time_of_impact reach) → T (le h.time_of_impact longer) = λ p. le_trans h.time_of_impact reach longer p l in
    grind arith
