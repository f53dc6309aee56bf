use Rattle.std.proofs.Common.{◌≡◌, sym, subst, rules}
use Rattle.math.specs.declared.Vector.{Vector}
use Rattle.sight.specs.Sight.{position, ExactlyAt}
use Rattle.sight.proofs.Positions.{position_exact}
use Rattle.sight.proofs.scan.Scan.position.Goals as goal

pub returns-clause-exact : goal.returns-clause-exact
returns-clause-exact g c =
    let s = c.args.self.now in
    let p = c.args.point.now in
    let value : c.grid_position.result ≡ position s.exponent s.chunk.frame.key p = search rules in
    subst (λ (v : Vector). ExactlyAt v s.exponent s.chunk.frame.key p) (sym value) (position_exact s.exponent s.chunk.frame p s.range)
