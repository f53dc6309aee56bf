use Rattle.std.proofs.Common.{◌≡◌, take, fold}
use Rattle.session.specs.Runs.{none_yet, tallied}
use Rattle.session.proofs.Tallies.{Within}
use Rattle.session.proofs.tally.tally_of.Given as goal

abbrev pub invariant-loop-outcome : goal.invariant-loop-outcome
invariant-loop-outcome l = (l.tally ≡ fold tallied none_yet (take l.outcome-index l.outcomes)) × Within l.tally l.outcome-index
