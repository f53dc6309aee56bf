use Rattle.std.proofs.Common.{◌≡◌}
use Rattle.query.specs.FirstHit.{first_among, hits_of}
use Rattle.query.proofs.first_hit.first_hit.Given as goal

abbrev pub invariant-loop-i : goal.invariant-loop-i
invariant-loop-i g l = l.best ≡ first_among (hits_of (λ e. g.E.RayCast.casts e l.ray l.max_time_of_impact l.solid) l.things) l.i
