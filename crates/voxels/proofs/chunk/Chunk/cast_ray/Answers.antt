use Rattle.std.proofs.Common.{◌≡◌, ℕ, ◌≤◌, Bool, Some, sym, ap, ◌∙◌, subst, arith, rules}
use mathlib.Core.Path.{subst⁻¹}
use lib.Ieee.{Float}
use Rattle.query.specs.declared.ray.Ray.{Ray}
use Rattle.query.specs.declared.ray.RayIntersection.{RayIntersection}
use Rattle.grid.specs.declared.frame.ChunkFrame.{ChunkFrame}
use Rattle.grid.specs.declared.voxel_key.VoxelKey.{VoxelKey}
use Rattle.voxels.specs.declared.chunk_cast.ChunkCast.{ChunkCast}
use Rattle.voxels.specs.Chunk.{no_hit, chunk_cast, turn_at, NamesCell, OnOtherCells}
use Rattle.voxels.specs.Laws.{chunk_named}
use Rattle.voxels.specs.Keeping.{chunk_on_other_cells}
use Rattle.voxels.proofs.Walk.{place_few, visited_few}
use Rattle.voxels.proofs.chunk.Chunk.cast_ray.Goals as goal

-- what the cast's value says
said : (f : ChunkFrame) (kinds : ℕ → ℕ) (r : Ray) (reach : Float) (solid : Bool) (w : ChunkCast) → w ≡ chunk_cast f kinds r reach solid
    → ((h : RayIntersection) → w.hit ≡ Some h → NamesCell f kinds h) × OnOtherCells f kinds r reach solid w
said f kinds r reach solid w v = (
  λ h e. chunk_named f kinds r reach solid h (sym (ap (λ (x : ChunkCast). x.hit) v) ∙ e),
  subst⁻¹ (OnOtherCells f kinds r reach solid) v (chunk_on_other_cells f kinds r reach solid),
)

pub returns-in_default : goal.returns-in_default
unfolding chunk_cast
returns-in_default g c =
    let f = c.args.self.now.frame in
    let kinds = g.S.CellStore.kinds c.args.self.now.cells in
    let v : no_hit 0 ≡ chunk_cast f kinds c.args.ray.now c.args.max_time_of_impact c.args.solid = search rules in
    let s = said f kinds c.args.ray.now c.args.max_time_of_impact c.args.solid (no_hit 0) v in
    record { value = v; few = search rules; named = s.0; others = s.1 }

pub returns-then-start-max_time_of_impact : goal.returns-then-start-max_time_of_impact
unfolding chunk_cast
returns-then-start-max_time_of_impact g c =
    let f = c.args.self.now.frame in
    let kinds = g.S.CellStore.kinds c.args.self.now.cells in
    let v : no_hit 0 ≡ chunk_cast f kinds c.args.ray.now c.args.max_time_of_impact c.args.solid = search rules in
    let s = said f kinds c.args.ray.now c.args.max_time_of_impact c.args.solid (no_hit 0) v in
    record { value = v; few = search rules; named = s.0; others = s.1 }

pub walk_from-requires : goal.walk_from-requires
walk_from-requires g c =
    let f = c.args.self.now.frame in
    let p = c.point_at.result in
    let e = c.voxel_at_point-first.ensures in (
      omega (arith, ap (λ (k : VoxelKey). k.x) e, place_few f.key.x p.x f.voxel_size.x),
      (
        omega (arith, ap (λ (k : VoxelKey). k.y) e, place_few f.key.y p.y f.voxel_size.y),
        omega (arith, ap (λ (k : VoxelKey). k.z) e, place_few f.key.z p.z f.voxel_size.z),
      ),
    )

pub returns : goal.returns
unfolding chunk_cast
returns g c =
    let f = c.args.self.now.frame in
    let kinds = g.S.CellStore.kinds c.args.self.now.cells in
    let r = c.args.ray.now in
    let turn = turn_at f kinds r c.min-limit.result c.args.solid in
    let v : c.walk_from.result ≡ chunk_cast f kinds r c.args.max_time_of_impact c.args.solid = search rules in
    let s = said f kinds r c.args.max_time_of_impact c.args.solid c.walk_from.result v in
    record {
      value = v;
      few = subst (λ (w : ChunkCast). w.visited ≤ 25) (sym c.walk_from.ensures) (visited_few turn 25 c.voxel_at_point-first.result);
      named = s.0;
      others = s.1;
    }
