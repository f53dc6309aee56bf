-- The number of a cell by its coordinates and by its key.
use Rattle.std.proofs.Common.{◌≡◌, ℕ, ◌+◌, ◌*◌, Bool, true, false, cond, ◌&&◌, ℤ, pos, negsuc, ◌≤◌, Some, None, Ok, Err, refl, sym, arith}
use Rattle.std.specs.Option.{ok_or}
use Rattle.std.specs.Int.{FitsUnsignedBits}
use Rattle.std.specs.Prelude.{nat_lt}
use Rattle.std.proofs.Math.Bool.{and-false}
use Rattle.std.proofs.lemmas.Int.{ints}
use Rattle.std.proofs.lemmas.Bool.Decides.{nat_tests}
use Rattle.math.specs.declared.IVector.{IVector}
use Rattle.math.specs.Vectors.{between}
use Rattle.refusals.specs.declared.Refusal.TheVariants.{CellOutside}
use Rattle.grid.specs.declared.voxel_key.VoxelKey.{VoxelKey}
use Rattle.grid.specs.Frame.{cell_number}
use Rattle.sight.specs.Cells.{index_answer}

coordinate_test : (i : ℕ) (z : ℤ) → pos i ≡ z → between (pos 0) (pos 7) z ≡ nat_lt i 8
coordinate_test i z e = rw (sym e) (grind (arith, ints, nat_tests))

numbered : (inside : Bool) (n : ℕ) → ok_or (cond inside (Some n) None) CellOutside ≡ cond inside (Ok n) (Err CellOutside)
numbered true n = refl
numbered false n = refl

-- a key that has these coordinates
pub key_number : (k : VoxelKey) (c : IVector) → pos k.x ≡ c.x → pos k.y ≡ c.y → pos k.z ≡ c.z → ok_or (cell_number k) CellOutside ≡ index_answer c
unfolding cell_number index_answer
key_number k c x y z =
    rw (coordinate_test k.x c.x x, coordinate_test k.y c.y y, coordinate_test k.z c.z z, sym x, sym y, sym z)
    (numbered (nat_lt k.x 8 && (nat_lt k.y 8 && nat_lt k.z 8)) (k.x + 8 * k.y + 64 * k.z))

-- ---- a coordinate that is no byte
not_in_chunk : (z : ℤ) → (FitsUnsignedBits 8 z → ⊥) → between (pos 0) (pos 7) z ≡ false
not_in_chunk (pos n) h = let l : 256 ≤ n = omega (arith, h) in grind (arith, ints, nat_tests)
not_in_chunk (negsuc n) h = refl

module _ (c : IVector) where
  pub no_x : (FitsUnsignedBits 8 c.x → ⊥) → Err CellOutside ≡ index_answer c
  unfolding index_answer
  no_x h = rw (not_in_chunk c.x h) refl

  pub no_y : (FitsUnsignedBits 8 c.y → ⊥) → Err CellOutside ≡ index_answer c
  unfolding index_answer
  no_y h = rw (not_in_chunk c.y h, and-false (between (pos 0) (pos 7) c.x)) refl

  pub no_z : (FitsUnsignedBits 8 c.z → ⊥) → Err CellOutside ≡ index_answer c
  unfolding index_answer
  no_z h = rw (not_in_chunk c.z h, and-false (between (pos 0) (pos 7) c.y), and-false (between (pos 0) (pos 7) c.x)) refl
