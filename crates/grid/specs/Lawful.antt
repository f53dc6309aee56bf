-- What a chunk may be made of.
use Rattle.std.specs.Prelude.{ℕ, Bool, true, cond, ◌&&◌, ℤ, pos, negsuc, Some, None, Ok, Err, Option, Result, nat_le, Float}
use Rattle.std.specs.Float.Ieee.{lt, le}
use Rattle.scalar.specs.Single.{zero, largest}
use Rattle.math.specs.declared.IVector.{IVector}
use Rattle.math.specs.declared.Vector.{Vector}
use Rattle.math.specs.Vectors.{between, all_between}
use Rattle.refusals.specs.declared.Refusal.{Refusal}
use Rattle.refusals.specs.declared.Refusal.TheVariants.{BadMaking}

-- the size of a room's cells is 2^e metres, e from -10 to 10; a chunk alone has no e
abbrev pub exponent_fits : Option ℤ → Bool
exponent_fits None = true
exponent_fits (Some e) = between (negsuc 9) (pos 10) e

-- finite and above zero
abbrev pub size_fits : Float → Bool
size_fits s = lt zero s && le s largest

abbrev pub keys_fit : IVector → Bool
keys_fit key = all_between (negsuc 4095) (pos 4096) key

abbrev pub sizes_fit : Vector → Bool
sizes_fit size = size_fits size.x && (size_fits size.y && size_fits size.z)

abbrev pub chunk_fits : IVector → Vector → ℕ → Bool
chunk_fits key size id = keys_fit key && (nat_le id 8388607 && sizes_fit size)

-- ---- the test before a making
abbrev pub making_answer : Bool → Result (Unit {0}) Refusal
making_answer fits = cond fits (Ok tt) (Err BadMaking)
