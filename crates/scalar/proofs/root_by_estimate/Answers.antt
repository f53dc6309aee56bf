use mathlib.Core.Path.{subst⁻¹}
use Rattle.std.proofs.Common.{T, rules}
use Rattle.scalar.proofs.RootTest.{normal_scaled}
use Rattle.scalar.proofs.root_by_estimate.Goals as goal

pub certified_root-requires : goal.certified_root-requires
certified_root-requires c =
    normal_scaled c.args.x c.f32_to_bits_with_nan-bits.result (subst⁻¹ T c.well_formed.0.1 tt) c.f32_to_bits_with_nan-bits.ensures
    (search rules) (search rules)
