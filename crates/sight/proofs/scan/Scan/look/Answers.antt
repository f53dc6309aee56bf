use Rattle.std.proofs.Common.{◌≡◌, ◌≤◌, rules}
use mathlib.Core.Path.{subst⁻¹}
use Rattle.voxels.specs.declared.chunk_cast.ChunkCast.{ChunkCast}
use Rattle.sight.specs.Sight.{look_at}
use Rattle.sight.proofs.Cubes.{cube_size}
use Rattle.sight.proofs.LookStart.{look_few}
use Rattle.sight.proofs.scan.Scan.look.Goals as goal

pub returns-clause-few : goal.returns-clause-few
returns-clause-few g c =
    let s = c.args.self.now in
    let camera = c.args.camera.now in
    let target = c.args.target.now in
    let kinds = g.S.CellStore.kinds s.chunk.cells in
    let value : c.cast_ray.result ≡ look_at s.exponent s.chunk.frame kinds camera target = search rules in
    subst⁻¹ (λ (r : ChunkCast). r.visited ≤ 22) value (look_few s.chunk.frame s.exponent s.range (cube_size s) camera target kinds)
