use Rattle.std.proofs.Common.{◌+◌, ◌-◌, sym, ◌∙◌, arith}
use Rattle.voxels.specs.Chunk.{turn_at, walk}
use Rattle.voxels.specs.declared.chunk_cast.Turn.TheVariants.{Hit, Stop, Step}
use Rattle.voxels.proofs.Walk.{turned, after_step, turn_uses_one}
use Rattle.voxels.proofs.ray_chunk.Walk.walk_from.Goals as goal

pub returns-in-Hit : goal.returns-in-Hit
returns-in-Hit g c =
    let turn = turn_at c.args.self.now.chunk.now.frame (g.S.CellStore.kinds c.args.self.now.chunk.now.cells) c.args.self.now.ray.now c.args.self.now.limit c.args.self.now.solid in
    turned turn c.loop-hit.visited c.loop-hit.key (walk turn 25 c.args.first) (Hit c.in-Hit.hit) (omega (arith, c.loop-hit.invariant.0)) c.loop-hit.invariant.1 (sym c.in-Hit.ensures)

pub returns-in-Stop : goal.returns-in-Stop
returns-in-Stop g c =
    let turn = turn_at c.args.self.now.chunk.now.frame (g.S.CellStore.kinds c.args.self.now.chunk.now.cells) c.args.self.now.ray.now c.args.self.now.limit c.args.self.now.solid in
    turned turn c.loop-hit.visited c.loop-hit.key (walk turn 25 c.args.first) Stop (omega (arith, c.loop-hit.invariant.0)) c.loop-hit.invariant.1 (sym c.in-Stop.ensures)

pub loop-hit-smaller : goal.loop-hit-smaller
loop-hit-smaller g c =
    omega (
      arith,
      turn_uses_one c.args.self.now.chunk.now.frame (g.S.CellStore.kinds c.args.self.now.chunk.now.cells) c.args.self.now.ray.now c.args.self.now.limit c.args.self.now.solid
          c.loop-hit.key c.in-Step.next (sym c.in-Step.ensures),
    )

pub loop-hit-preserved : goal.loop-hit-preserved
loop-hit-preserved g c =
    let kinds = g.S.CellStore.kinds c.args.self.now.chunk.now.cells in
    let turn = turn_at c.args.self.now.chunk.now.frame kinds c.args.self.now.ray.now c.args.self.now.limit c.args.self.now.solid in
    let n = c.loop-hit.visited in
    let used = turn_uses_one c.args.self.now.chunk.now.frame kinds c.args.self.now.ray.now c.args.self.now.limit c.args.self.now.solid c.loop-hit.key c.in-Step.next (sym c.in-Step.ensures) in (
      omega (arith, used, c.loop-hit.invariant.0),
      sym (after_step n (walk turn (25 - (n + 1)) c.in-Step.next))
          ∙ turned turn n c.loop-hit.key (walk turn 25 c.args.first) (Step c.in-Step.next) (omega (arith, c.loop-hit.invariant.0)) c.loop-hit.invariant.1 (sym c.in-Step.ensures),
    )
