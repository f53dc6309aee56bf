use mathlib.Core.Path.{subst⁻¹}
use Rattle.std.proofs.Common.{T}
use lib.Ieee.{Float}
use Rattle.scalar.specs.Root.{RootOf}
use Rattle.scalar.specs.Single.{NotBelowZero}
use Rattle.scalar.proofs.NearestRoot.{root_of}
use Rattle.scalar.proofs.RootTest.{root_not_below_zero}
use Rattle.scalar.proofs.sqrt.Goals as goal

pub returns : goal.returns
returns c =
    let x : Float = c.args.x in
    let fits = subst⁻¹ T c.well_formed.0.1 tt in
    let same = c.root_by_estimate.ensures in
    record {
      value = same;
      bound = λ h. subst⁻¹ NotBelowZero same (root_not_below_zero x fits h);
      nearest = subst⁻¹ (RootOf x) same (root_of x fits);
    }
