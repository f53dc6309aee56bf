use Rattle.std.proofs.Common.{◌+◌, sym, ap, arith, length-drop}
use Rattle.std.proofs.lemmas.List.{nil_from_length, take_rest}
use Rattle.std.proofs.lemmas.List.Sums.{prefix_len-le-length}
use Rattle.std.proofs.lemmas.Bool.{eqb-true, eqb-false}
use Rattle.setup.specs.Grammar.{lines, other, newline}
use Rattle.setup.proofs.Pieces.{pieces_first, pieces_last}
use Rattle.setup.proofs.scan.split_line.Goals as goal

pub returns-then-is_empty-clause-first : goal.returns-then-is_empty-clause-first
unfolding lines
returns-then-is_empty-clause-first c = let empty = eqb-true _ _ (sym c.if-is_empty.ensures) in ap lines (nil_from_length _ empty)

pub returns-then-end-text : goal.returns-then-end-text
unfolding lines
returns-then-end-text c =
    let text = c.args.text.now in
    let end = c.len_before-end.result in
    let rest = length-drop (end + 1) text in
    record {
      first = rw take_rest (pieces_first newline text end c.len_before-end.ensures c.if-end-text.true);
      shorter = rw take_rest (omega arith);
    }

pub returns-else-end-text-clause-first : goal.returns-else-end-text-clause-first
unfolding lines
returns-else-end-text-clause-first c =
    let text = c.args.text.now in
    let some = eqb-false _ _ (sym c.if-is_empty.ensures) in
    let all = prefix_len-le-length (other newline) text in
    let end = c.len_before-end.ensures in
    pieces_last newline text (omega arith) (omega arith)
