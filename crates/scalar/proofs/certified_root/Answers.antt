use Rattle.std.proofs.Common.{T, ◌∙◌, rules}
use mathlib.Core.Path.{subst⁻¹}
use Rattle.scalar.proofs.RootTest.{estimate_is_root}
use Rattle.scalar.proofs.certified_root.Goals as goal

pub returns : goal.returns
returns c =
    c.f32_from_bits_with_nan.ensures
    ∙ estimate_is_root c.args.x c.args.n c.args.k c.args.s (subst⁻¹ T c.well_formed.0.1 tt) c.requires
    (search rules) (search rules) c.if-n-wide.false c.if-n-square.false
