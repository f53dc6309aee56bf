use Rattle.std.proofs.Common.{◌∙◌}
use mathlib.Core.Path.{subst⁻¹}
use Rattle.voxels.specs.declared.chunk_cast.ChunkCast.{ChunkCast}
use Rattle.sight.proofs.Cubes.{cube_size}
use Rattle.looks.specs.Units.{point_of}
use Rattle.looks.specs.Exact.{ExactLook}
use Rattle.looks.proofs.Exactness.{look_is_exact}
use Rattle.looks.proofs.Untouched.{untouched_do_not_matter}
use Rattle.looks.proofs.look.Goals as goal

pub returns-clause-exact : goal.returns-clause-exact
returns-clause-exact g c =
    let s = c.args.scan.now in
    let kinds = g.S.CellStore.kinds s.chunk.cells in
    let camera = c.args.camera.now in
    let target = c.args.target.now in
    subst⁻¹ (λ (r : ChunkCast). ExactLook (point_of camera) (point_of target) s.chunk.frame.id kinds r) c.look.ensures.value
    (look_is_exact s.chunk.frame s.exponent s.range (cube_size s) camera target kinds)

pub returns-clause-untouched : goal.returns-clause-untouched
returns-clause-untouched g c others same =
    let s = c.args.scan.now in
    c.look.ensures.value ∙ untouched_do_not_matter s.chunk.frame s.exponent s.range (cube_size s) c.args.camera.now c.args.target.now (g.S.CellStore.kinds s.chunk.cells) others same
