use Rattle.std.proofs.Common.{ℕ, List, [], None, sym, subst, true≢false, append-nil, rules}
use Rattle.setup.specs.Grammar.{lines}
use Rattle.session.specs.declared.outcome.Outcome.{Outcome}
use Rattle.session.specs.Runs.{Runs}
use Rattle.session.proofs.run.run_into.Goals as goal

pub returns : goal.returns
returns g c =
    let kinds = g.S.CellStore.kinds in
    let capacity = g.S.CellStore.capacity in
    let run = c.loop-line.invariant.1 in
    record {
      accepted = search rules;
      carried = λ _. (
        run.0,
        run.1,
        subst (λ (os : List Outcome). Runs kinds capacity None (lines c.args.text.now) os) (append-nil run.0)
            (run.2 []
            (subst (λ (ls : List (List ℕ)). Runs kinds capacity c.loop-line.session.corner ls []) (sym c.in-None.ensures.steps.0) tt)),
      );
      refused = λ e. absurd (true≢false e);
    }
