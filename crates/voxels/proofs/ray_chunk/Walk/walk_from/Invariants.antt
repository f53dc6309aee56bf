use Rattle.std.proofs.Common.{◌≡◌, ◌+◌, ◌-◌, ◌≤◌}
use Rattle.voxels.specs.Chunk.{turn_at, walk}
use Rattle.voxels.proofs.Walk.{steps_left, after}
use Rattle.voxels.proofs.ray_chunk.Walk.walk_from.Given as goal

-- the walk so far and what is left of it are the whole walk
abbrev pub invariant-loop-hit : goal.invariant-loop-hit
invariant-loop-hit g l =
    (l.visited + steps_left l.self.ray.now.dir l.key ≤ 24)
    × (after l.visited (walk (turn_at l.self.chunk.now.frame (g.S.CellStore.kinds l.self.chunk.now.cells) l.self.ray.now l.self.limit l.self.solid) (25 - l.visited) l.key)
    ≡ walk (turn_at l.self.chunk.now.frame (g.S.CellStore.kinds l.self.chunk.now.cells) l.self.ray.now l.self.limit l.self.solid) 25 l.initial.key)

abbrev pub decreases-loop-hit : goal.decreases-loop-hit
decreases-loop-hit g l = steps_left l.self.ray.now.dir l.key
