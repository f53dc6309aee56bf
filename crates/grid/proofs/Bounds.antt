-- What a frame and a cell's number keep within bounds.
use Rattle.std.proofs.Common.{◌≡◌, ℕ, ◌<◌, ◌≤◌, T, ℤ, pos, negsuc, ◌+ℤ◌, nat_abs, Some, arith}
use Rattle.std.proofs.lemmas.Int.{ints}
use Rattle.std.proofs.lemmas.Bool.Decides.{nat_tests}
use Rattle.math.specs.Vectors.{between}
use Rattle.grid.specs.declared.frame.ChunkFrame.{ChunkFrame}
use Rattle.grid.specs.declared.voxel_key.VoxelKey.{VoxelKey}
use Rattle.grid.specs.Lawful.{exponent_fits}
use Rattle.grid.specs.Frame.{cell_number}

pub id_bound : (f : ChunkFrame) → f.id ≤ 8388607
id_bound f = let ok = f.ok in grind (arith, nat_tests)

pub number_bound : (k : VoxelKey) (n : ℕ) → cell_number k ≡ Some n → n < 512
unfolding cell_number
number_bound k n e = grind (arith, nat_tests)

between_bound : (k : ℤ) → T (between (negsuc 4095) (pos 4096) k) → nat_abs k ≤ 4096
between_bound k h = grind (arith, ints)

pub key_bound : (f : ChunkFrame) → (nat_abs f.key.x ≤ 4096) × (nat_abs f.key.y ≤ 4096) × (nat_abs f.key.z ≤ 4096)
key_bound f =
    let ok = f.ok in
    let x : T (between (negsuc 4095) (pos 4096) f.key.x) = grind (arith, nat_tests) in
    let y : T (between (negsuc 4095) (pos 4096) f.key.y) = grind (arith, nat_tests) in
    let z : T (between (negsuc 4095) (pos 4096) f.key.z) = grind (arith, nat_tests) in
    (between_bound f.key.x x, between_bound f.key.y y, between_bound f.key.z z)

pub exponent_bound : (e : ℤ) → T (exponent_fits (Some e)) → (e +ℤ pos 10 ≡ pos (nat_abs (e +ℤ pos 10))) × (nat_abs (e +ℤ pos 10) ≤ 20)
exponent_bound e h = (grind (arith, ints), grind (arith, ints))
