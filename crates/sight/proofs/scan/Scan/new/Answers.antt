use Rattle.std.proofs.Common.{◌≡◌, T, true, false, ℤ, pos, negsuc, Some, ap, ◌∙◌, subst, rules, arith, w32, to_z, of_z}
use mathlib.Core.Path.{subst⁻¹}
use lib.Ieee.{Float}
use Rattle.std.proofs.Math.Bool.{and-false}
use Rattle.std.proofs.lemmas.Int.{ints}
use Rattle.std.proofs.lemmas.Result.{err_from_is_err_and}
use Rattle.math.specs.declared.Vector.{Vector}
use Rattle.math.specs.Vectors.{vector, between}
use Rattle.sight.specs.Power.{cube}
use Rattle.grid.specs.Lawful.{exponent_fits, chunk_fits}
use Rattle.grid.specs.declared.frame.ChunkFrame.{ChunkFrame}
use Rattle.sight.proofs.scan.Scan.new.Goals as goal

pub returns : goal.returns
returns g c =
    let fits : between (negsuc 9) (pos 10) c.args.exponent ≡ true = search rules in
    let size : c.new-2.result ≡ cube c.args.exponent = search rules in
    let same : to_z w32 (of_z w32 c.args.exponent) ≡ c.args.exponent = omega (arith, ints) in
    let made = c.in_ok-frame.ensures in
    let chunk : chunk_fits c.args.key (cube c.args.exponent) c.args.id ≡ true = subst (λ (v : Vector). chunk_fits c.args.key v c.args.id ≡ true) size made.0 in
    let frame = c.new-4.ensures.frame in
    (rw fits chunk, (same, (ap (λ (f : ChunkFrame). f.key) frame ∙ made.1.0, (ap (λ (f : ChunkFrame). f.id) frame ∙ made.1.1.1, c.new-4.ensures.empty))))

pub invariant_of-result : goal.invariant_of-result
invariant_of-result g c =
    let fits : between (negsuc 9) (pos 10) c.args.exponent ≡ true = search rules in
    let size : c.new-2.result ≡ cube c.args.exponent = search rules in
    let same : to_z w32 (of_z w32 c.args.exponent) ≡ c.args.exponent = omega (arith, ints) in
    record {
      range = subst⁻¹ (λ (e : ℤ). T (exponent_fits (Some e))) same (rw fits tt);
      cubes = ∣ ap (λ (f : ChunkFrame). f.voxel_size) c.new-4.ensures.frame ∙ c.in_ok-frame.ensures.1.1.0 ∙ c.new-2.ensures ∙ ap (λ (s : Float). vector s s s) c.power_of_two-size.ensures ∣₁;
    }

pub returns-in_err-frame : goal.returns-in_err-frame
returns-in_err-frame g c =
    let size : c.new-2.result ≡ cube c.args.exponent = search rules in
    let p = err_from_is_err_and c.from_residual.result c.from_residual.ensures.1 in
    let refused = c.in_err-frame.ensures in
    let chunk : chunk_fits c.args.key (cube c.args.exponent) c.args.id ≡ false = subst (λ (v : Vector). chunk_fits c.args.key v c.args.id ≡ false) size refused.0 in
    rw (p.1, chunk) (and-false (between (negsuc 9) (pos 10) c.args.exponent), p.2 ∙ refused.1)
