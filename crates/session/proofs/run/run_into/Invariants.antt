use Rattle.std.proofs.Common.{◌≡◌, ◌+◌, ◌≤◌, List, ◌++◌, length, None, vec_items, vec_len, vec_capacity}
use Rattle.setup.specs.Grammar.{lines}
use Rattle.session.specs.declared.outcome.Outcome.{Outcome}
use Rattle.session.specs.Runs.{Runs}
use Rattle.session.proofs.run.run_into.Given as goal

-- there is room for the lines that are left; and whatever they come to, it carries on what the lines so far came to
abbrev pub invariant-loop-line : goal.invariant-loop-line
invariant-loop-line g l =
    (vec_len l.outcomes + length (lines l.line-iterator.rest.now) ≤ vec_capacity l.outcomes)
    × ((so_far : List Outcome) × (vec_items l.outcomes ≡ vec_items l.initial.outcomes ++ so_far)
    × ((later : List Outcome) → Runs g.S.CellStore.kinds g.S.CellStore.capacity l.session.corner (lines l.line-iterator.rest.now) later
    → Runs g.S.CellStore.kinds g.S.CellStore.capacity None (lines l.text) (so_far ++ later)))
