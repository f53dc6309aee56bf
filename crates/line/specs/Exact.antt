-- What holds of every sight line, and looks worked out.
use Rattle.std.specs.Prelude.{◌≡◌, ℕ, ◌<◌, ◌≤◌, Bool, false, ◌&&◌, length, Some, None, Option, ◌==◌}
use Rattle.std.proofs.Common.{lit≤}
use Rattle.line.specs.Line.{Point, Cell, Share, NoLater, Touches, Crosses, Entry}
use Rattle.line.specs.Faces.{Latest, Entered, Open}
use Rattle.line.specs.Walk.{InGrid, cell_of, Chooses, walk, Visits}
use Rattle.line.specs.Look.{LookResult, look, StopsFor, Answers}
use Rattle.line.specs.StepFractions.{least_step_rule}

-- ---- the walk and the looks by a rule, from the camera's cell
pub record Exact (o t : Point) (rule : Cell → Option Cell) : Type 0 where
  pub crossed_is_visited : (n : ℕ) → 22 ≤ n → (c : Cell) → Crosses o t c → Visits (walk rule n (cell_of o)) c
  pub visited_is_touched : (n : ℕ) (c : Cell) → Visits (walk rule n (cell_of o)) c → Touches o t c
  pub walk_is_short : (n : ℕ) → length (walk rule n (cell_of o)) ≤ 22
  -- clear: the line crosses no filled cell; else the cell named is filled, and entered no later than the line touches any filled cell that it crosses
  pub look_answers : (filled stops : Cell → Bool) → StopsFor o t filled stops → (n : ℕ) → 22 ≤ n → Answers o t filled (look stops rule n (cell_of o)).hit
  pub look_visits_few : (stops : Cell → Bool) (n : ℕ) → (look stops rule n (cell_of o)).visited ≤ 22
  pub same_on_touched : (stops stops' : Cell → Bool) → ((c : Cell) → Touches o t c → stops c ≡ stops' c) → (n : ℕ)
      → look stops rule n (cell_of o) ≡ look stops' rule n (cell_of o)

-- ---- a cell
pub record CellFacts (o t : Point) (c : Cell) : Type 0 where
  pub touched_is_entered : Touches o t c → Entered o t c
  pub entry_is_latest : (s : Share) → Entry o t c s → (r : Share) × Latest o t c r × NoLater s r × NoLater r s
  pub crossed_is_open : Crosses o t c → Open o t c
  pub crossed_entry_before_target : (s : Share) → Crosses o t c → Entry o t c s → 0 < s.left

-- ---- worked looks
abbrev pub point : ℕ → ℕ → ℕ → Point
point x y z = record { x = x; y = y; z = z }

abbrev pub cell : ℕ → ℕ → ℕ → Cell
cell x y z = record { x = x; y = y; z = z }

-- one filled cell
abbrev pub only : Cell → Cell → Bool
only k c = c.x == k.x && (c.y == k.y && c.z == k.z)

abbrev pub look_from : Point → Point → (Cell → Bool) → LookResult
look_from o t filled = look filled (least_step_rule o t) 22 (cell_of o)

-- four cells along x from the middle of the cell (0, 0, 0), and over the edge to the cell (1, 1, 0)
abbrev pub along_x : (Cell → Bool) → LookResult
along_x = look_from (point 64 64 64) (point 576 64 64)

abbrev pub over_edge : (Cell → Bool) → LookResult
over_edge = look_from (point 64 64 64) (point 192 192 64)

abbrev pub five_eighths : Share
five_eighths = record { gone = 5; left = 3; positive = lit≤ tt }

pub record Worked : Type 0 where
  pub nothing_filled : along_x (λ _. false) ≡ record { hit = None; visited = 5 }
  pub fourth_cell : along_x (only (cell 3 0 0)) ≡ record { hit = Some (cell 3 0 0); visited = 4 }
  pub fourth_crossed : Crosses (point 64 64 64) (point 576 64 64) (cell 3 0 0)
  pub fourth_entered : Entry (point 64 64 64) (point 576 64 64) (cell 3 0 0) five_eighths
  -- of the two cells beside the edge, both touched and neither crossed, the walk stands on that along x
  pub edge_first_axis : over_edge (only (cell 1 0 0)) ≡ record { hit = Some (cell 1 0 0); visited = 2 }
  pub edge_second_axis : over_edge (only (cell 0 1 0)) ≡ record { hit = None; visited = 3 }
  pub edge_touched : Touches (point 64 64 64) (point 192 192 64) (cell 0 1 0)
  pub edge_not_crossed : Crosses (point 64 64 64) (point 192 192 64) (cell 0 1 0) → ⊥
  pub longest : (look_from (point 1023 1023 1023) (point 0 0 0) (λ _. false)).visited ≡ 22

-- ---- the whole
pub record ExactLine : Type 0 where
  pub walks : (o t : Point) → InGrid o → InGrid t → (rule : Cell → Option Cell) → Chooses o t rule → Exact o t rule
  -- there is such a rule
  pub rule : (o t : Point) → InGrid t → Chooses o t (least_step_rule o t)
  pub cells : (o t : Point) (c : Cell) → CellFacts o t c
  pub worked : Worked
