use Rattle.std.proofs.Common.{◌%◌, rules}
use Rattle.session.specs.declared.outcome.Outcome.TheVariants.{Clear, Blocked}
use Rattle.session.specs.Answers.{Looked}
use Rattle.session.proofs.Sights.{clear_is_right, sight_is_right}
use Rattle.session.proofs.session.sight.Goals as goal

pub unreachable-requires : goal.unreachable-requires
unreachable-requires g c = let n = c.look-cast.ensures.exact.named c.in-Some.hit c.in-Some.is in c.in_default-feature.not-Face _ n.feature

pub returns-in_default : goal.returns-in_default
returns-in_default g c =
    let kinds = g.S.CellStore.kinds in
    let s = c.args.scan.now in
    let o = Clear c.look-cast.result.visited in
    let looked : Looked kinds s c.args.camera c.args.target o = search rules in
    record { refused = search rules; looked = looked; clear = clear_is_right kinds s c.args.camera c.args.target o looked; right = sight_is_right kinds s c.args.camera c.args.target o looked }

pub returns : goal.returns
returns g c =
    let kinds = g.S.CellStore.kinds in
    let s = c.args.scan.now in
    let o = Blocked (c.in-Face.face % 512) c.in-Some.hit.time_of_impact c.look-cast.result.visited in
    let looked : Looked kinds s c.args.camera c.args.target o = search rules in
    record { refused = search rules; looked = looked; clear = clear_is_right kinds s c.args.camera c.args.target o looked; right = sight_is_right kinds s c.args.camera c.args.target o looked }
