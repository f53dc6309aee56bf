use Rattle.std.proofs.Common.{sym, arith}
use Rattle.grid.proofs.Bounds.{id_bound, number_bound}
use Rattle.grid.proofs.frame.ChunkFrame.flat_id.Goals as goal

pub overflow_add-result : goal.overflow_add-result
overflow_add-result c =
    let i = id_bound c.args.self.now in
    let n = number_bound c.args.key c.in_ok-number.number (sym c.in_ok-number.ensures) in
    omega arith
