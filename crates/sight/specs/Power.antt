-- Powers of two, which f32 holds exactly.
use Rattle.std.specs.Prelude.{false, ℤ, Float}
use Rattle.std.specs.Float.{fin}
use Rattle.math.specs.declared.Vector.{Vector}
use Rattle.math.specs.Vectors.{vector}

-- 2^e
abbrev pub power_of_two : ℤ → Float
power_of_two e = fin false 1 e

-- the size of cells that are cubes of 2^e metres
abbrev pub cube : ℤ → Vector
cube e = vector (power_of_two e) (power_of_two e) (power_of_two e)
