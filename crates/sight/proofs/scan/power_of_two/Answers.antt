use Rattle.std.proofs.Common.{pos, ◌+ℤ◌, nat_abs, ◌∙◌, arith, w32, to_z, of_z}
use Rattle.std.proofs.lemmas.Int.{ints}
use Rattle.sight.proofs.Powers.{power_by_bits}
use Rattle.sight.proofs.scan.power_of_two.Goals as goal

pub returns : goal.returns
returns c =
    let n = nat_abs (to_z w32 (of_z w32 (to_z w32 (of_z w32 c.args.e) +ℤ pos 127))) in
    c.f32_from_bits_with_nan.ensures ∙ power_by_bits n c.args.e (omega (arith, ints)) (omega (arith, ints)) (omega (arith, ints))
