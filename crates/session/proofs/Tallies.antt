-- A tally counts each line at most once.
use Rattle.std.proofs.Common.{ℕ, ◌+◌, ◌≤◌, arith}
use Rattle.session.specs.declared.outcome.Outcome.{Outcome}
use Rattle.session.specs.declared.outcome.Outcome.TheVariants.{Blank, Done, Clear, Blocked, Refused, RoomMissing, RoomTwice, Unclear}
use Rattle.session.specs.declared.tally.Tally.{Tally}
use Rattle.session.specs.Runs.{tallied}

abbrev pub Within : Tally → ℕ → Type 0
Within t n = (t.clear ≤ n) × ((t.blocked ≤ n) × ((t.refused ≤ n) × (t.unclear ≤ n)))

pub one_more : (t : Tally) (o : Outcome) (n : ℕ) → Within t n → Within (tallied t o) (n + 1)
one_more t Blank n h = omega arith
one_more t Done n h = omega arith
one_more t (Clear v) n h = omega arith
one_more t (Blocked c u v) n h = omega arith
one_more t (Refused r) n h = omega arith
one_more t RoomMissing n h = omega arith
one_more t RoomTwice n h = omega arith
one_more t (Unclear w) n h = omega arith
