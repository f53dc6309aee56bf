use Rattle.setup.proofs.Numbers.{Read}
use Rattle.setup.proofs.number.natural_number.Given as goal

abbrev pub invariant-loop-digit : goal.invariant-loop-digit
invariant-loop-digit l = Read l.digits l.digit-index l.value
