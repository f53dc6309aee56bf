use Rattle.std.proofs.Common.{sym, arith, rules}
use Rattle.std.proofs.lemmas.List.Sums.{prefix_len-le-length}
use Rattle.std.proofs.lemmas.Bool.{eqb-true, eqb-false}
use Rattle.setup.specs.Grammar.{other, blank}
use Rattle.setup.proofs.FirstWord.{no_word, word_first}
use Rattle.setup.proofs.scan.split_word.Goals as goal

pub returns-then-is_empty : goal.returns-then-is_empty
returns-then-is_empty c =
    no_word c.args.line.now c.skip_blanks-start.result.now c.skip_blanks-start.ensures (eqb-true _ _ (sym c.if-is_empty.ensures))

pub split_at-requires : goal.split_at-requires
split_at-requires c = search (rules, prefix_len-le-length (other blank) c.skip_blanks-start.result.now)

pub returns : goal.returns
returns c =
    let some = eqb-false _ _ (sym c.if-is_empty.ensures) in
    rw (c.split_at.ensures.front, c.split_at.ensures.back)
    (word_first c.args.line.now c.skip_blanks-start.result.now c.skip_blanks-start.ensures c.word_len.result (omega arith) c.word_len.ensures)
