use Rattle.std.proofs.Common.{◌≡◌, ◌+◌, length, Option, sym, refl, ap, ◌∙◌, subst, add-one, arith}
use Rattle.scalar.specs.Single as Single
use Rattle.scalar.proofs.Order.{le_right}
use Rattle.query.specs.declared.ray.RayIntersection.{RayIntersection}
use Rattle.query.specs.declared.first_hit.FirstHit.{FirstHit}
use Rattle.query.specs.FirstHit.{hits_of, earlier, first_among, Earliest}
use Rattle.query.proofs.Earliest.{first_is_earliest, earlier_missed, hit_at_index, hit_of_some}
use Rattle.query.proofs.first_hit.first_hit.Goals as goal
use Rattle.query.proofs.first_hit.first_hit.Goals.{then-is_some, else-is_some}

pub loop-i-init : goal.loop-i-init
unfolding first_among
loop-i-init g c = refl

pub loop-i-preserved : goal.loop-i-preserved
unfolding first_among
loop-i-preserved g c =
    let cast : g.row.E.Denot → Option RayIntersection = λ e. g.E.RayCast.casts e c.args.ray.now c.args.max_time_of_impact c.args.solid in
    let things = c.args.things.now in
    let hits = hits_of cast things in
    let i = c.loop-i.i in
    let found : c.cast_local_ray_and_get_normal-found.result ≡ hits i =
    c.cast_local_ray_and_get_normal-found.ensures ∙ ap cast c.index-things-i.is ∙ sym (hit_at_index cast things i c.index-things-i.result c.loop-i-test.true) in
    let step : earlier c.loop-i.best i c.cast_local_ray_and_get_normal-found.result ≡ first_among hits (i + 1) =
    ap (λ (o : Option RayIntersection). earlier c.loop-i.best i o) found
    ∙ ap (λ (b : Option FirstHit). earlier b i (hits i)) c.loop-i.invariant
    ∙ ap (first_among hits) (sym (add-one i)) in
    elim c.if-is_some.branch [
      | then-is_some w ↦ w.best-is ∙ w.earlier-best.ensures ∙ step
      | else-is_some w ↦ w.best-is ∙ sym (earlier_missed c.loop-i.best i c.cast_local_ray_and_get_normal-found.result (sym c.is_some.ensures ∙ w.if-is_some.false)) ∙ step
    ]

pub returns : goal.returns
returns g c =
    let cast : g.row.E.Denot → Option RayIntersection = λ e. g.E.RayCast.casts e c.args.ray.now c.args.max_time_of_impact c.args.solid in
    let hits = hits_of cast c.args.things.now in
    let n = length c.args.things.now in
    let all : c.loop-i.i ≡ n = omega arith in
    let value : c.loop-i.best ≡ first_among hits n = c.loop-i.invariant ∙ ap (first_among hits) all in
    record {
      value = value;
      earliest = λ reach. subst (Earliest hits n) (sym value)
          (first_is_earliest hits (λ k h e.
          let x = hit_of_some cast c.args.things.now k h e in
          le_right Single.zero h.time_of_impact (g.met.E.RayCast.timed x.0 c.args.ray.now c.args.max_time_of_impact c.args.solid h reach x.1).0) n);
    }
