use Rattle.setup.specs.Grammar.{words}
use Rattle.setup.proofs.Numbers.{Gathered}
use Rattle.setup.proofs.number.whole_numbers.Given as goal

abbrev pub invariant-loop-i : goal.invariant-loop-i
invariant-loop-i g l = Gathered g.row.N (words l.line) l.i-iterator.count l.numbers (words l.i-iterator.iter.rest.now)
