use Rattle.std.proofs.Common.{refl, rules}
use Rattle.std.proofs.lemmas.Result.{err_from_is_err_and}
use Rattle.sight.proofs.Giving.{index_refused, index_accepted, outside_changes_nothing, never_bad, given, full_changes_nothing}
use Rattle.sight.proofs.scan.Scan.give_kind.Goals as goal

pub returns-in_err-number : goal.returns-in_err-number
returns-in_err-number g c =
    let kinds = g.S.CellStore.kinds c.args.self.now.chunk.cells in
    let p = err_from_is_err_and c.from_residual.result c.from_residual.ensures.1 in
    let no = index_refused c.args.cell c.in_err-number.field-0.0 (search rules) in
    rw (p.1, p.2, no.1) (record { cells = outside_changes_nothing kinds g.S.CellStore.capacity c.args.cell c.args.kind no.0; exponent = refl; frame = refl })

pub returns-in-Ok : goal.returns-in-Ok
returns-in-Ok g c =
    let in-chunk = index_accepted c.args.cell c.in_ok-number.number (search rules) in
    record {
      cells = given (g.S.CellStore.kinds c.args.self.now.chunk.cells) (g.S.CellStore.kinds c.set.new.self) g.S.CellStore.capacity c.args.cell c.in_ok-number.number c.args.kind
          in-chunk.0 in-chunk.1 c.requires c.in-Ok.ensures;
      exponent = refl;
      frame = refl;
    }

pub returns-in-Err-Full : goal.returns-in-Err-Full
returns-in-Err-Full g c =
    let in-chunk = index_accepted c.args.cell c.in_ok-number.number (search rules) in
    record {
      cells = full_changes_nothing (g.S.CellStore.kinds c.args.self.now.chunk.cells) (g.S.CellStore.kinds c.set.new.self) g.S.CellStore.capacity c.args.cell c.in_ok-number.number c.args.kind
          in-chunk.0 in-chunk.1 c.requires (search rules);
      exponent = refl;
      frame = refl;
    }

pub unreachable-requires : goal.unreachable-requires
unreachable-requires g c =
    let in-chunk = index_accepted c.args.cell c.in_ok-number.number (search rules) in
    never_bad (g.S.CellStore.kinds c.args.self.now.chunk.cells) (g.S.CellStore.kinds c.set.new.self) g.S.CellStore.capacity c.args.cell c.in_ok-number.number c.args.kind
    in-chunk.0 in-chunk.1 c.requires (search rules)
