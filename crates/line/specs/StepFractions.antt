-- A rule for the next cell: along the axis whose face ahead the line reaches first, the lowest axis where several are first.
use Rattle.std.specs.Prelude.{ℕ, ◌+◌, ◌-◌, ◌*◌, ◌≤◌, cond, Some, None, Option, nat_lt}
use Rattle.line.specs.Line.{Point, Cell, Axis, X, Y, Z, coordinate, index}
use Rattle.line.specs.Walk.{with_index}

-- the share gap / size at which the line reaches a face: past 1 where that lies beyond t, and 1 / 0, later than any, where there is none
pub record StepFraction : Type 0 where
  pub gap : ℕ
  pub size : ℕ

-- f ≤ g
abbrev pub NoLaterStep : StepFraction → StepFraction → Type 0
NoLaterStep f g = f.gap * g.size ≤ g.gap * f.size

-- on one axis, for the face ahead of the cell k
unfoldable pub step_fraction : ℕ → ℕ → ℕ → StepFraction
step_fraction o t k =
    cond (nat_lt o t) (record { gap = 128 * k + 128 - o; size = t - o })
    (cond (nat_lt t o) (record { gap = o - 128 * k; size = o - t })
    (record { gap = 1; size = 0 }))

abbrev pub step_on : Point → Point → Cell → Axis → StepFraction
step_on o t c i = step_fraction (coordinate o i) (coordinate t i) (index c i)

-- the index behind that face, if the grid has it: up where t lies above o, else down
unfoldable pub next_index : ℕ → ℕ → ℕ → Option ℕ
next_index o t k = cond (nat_lt o t) (cond (nat_lt k 7) (Some (k + 1)) None) (cond (nat_lt 0 k) (Some (k - 1)) None)

abbrev pub next_on : Point → Point → Cell → Axis → Option ℕ
next_on o t c i = next_index (coordinate o i) (coordinate t i) (index c i)

abbrev pub cell_at : Cell → Axis → Option ℕ → Option Cell
cell_at c i None = None
cell_at c i (Some n) = Some (with_index c i n)

-- the axis j only where its face comes before that of i
unfoldable pub earlier_axis : Point → Point → Cell → Axis → Axis → Axis
earlier_axis o t c i j = cond (nat_lt ((step_on o t c j).gap * (step_on o t c i).size) ((step_on o t c i).gap * (step_on o t c j).size)) j i

unfoldable pub least_axis : Point → Point → Cell → Axis
least_axis o t c = earlier_axis o t c (earlier_axis o t c X Y) Z

-- none where the face lies beyond t
abbrev pub step_along : Point → Point → Cell → Axis → Option Cell
step_along o t c i = cond (nat_lt (step_on o t c i).size (step_on o t c i).gap) None (cell_at c i (next_on o t c i))

unfoldable pub least_step_rule : Point → Point → Cell → Option Cell
least_step_rule o t c = step_along o t c (least_axis o t c)
