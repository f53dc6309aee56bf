-- The faces of a cell on one axis of a line from o to t, by how far the line goes to reach them.
use Rattle.std.specs.Prelude.{◌≡◌, ℕ, ◌+◌, ◌-◌, ◌*◌, ◌<◌, ◌≤◌, cond, ◌⊎◌, nat_lt}
use Rattle.line.specs.Line.{Point, Cell, Axis, coordinate, index, Share, parts, Entry}

-- the size of t - o
abbrev pub span : ℕ → ℕ → ℕ
span o t = (t - o) + (o - t)

-- to the face of the cell k that the line comes to first; 0 where it starts past that
unfoldable pub near_distance : ℕ → ℕ → ℕ → ℕ
near_distance o t k = cond (nat_lt o t) (128 * k - o) (o - (128 * k + 128))

-- to the face across; 0 where it starts past that
unfoldable pub far_distance : ℕ → ℕ → ℕ → ℕ
far_distance o t k = cond (nat_lt o t) (128 * k + 128 - o) (o - 128 * k)

abbrev pub span_on : Point → Point → Axis → ℕ
span_on o t i = span (coordinate o i) (coordinate t i)

abbrev pub near_on : Point → Point → Cell → Axis → ℕ
near_on o t c i = near_distance (coordinate o i) (coordinate t i) (index c i)

abbrev pub far_on : Point → Point → Cell → Axis → ℕ
far_on o t c i = far_distance (coordinate o i) (coordinate t i) (index c i)

-- s is the share at which the line reaches the near face of the cell k: near_distance / span
pub record NearShare (o t k : ℕ) (s : Share) : Type 0 where
  pub moves : 0 < span o t
  pub gone : s.gone ≡ near_distance o t k
  pub parts : parts s ≡ span o t

-- s is the latest share at which the line reaches a near face of the cell, or 0
pub record Latest (o t : Point) (c : Cell) (s : Share) : Type 0 where
  pub reached : (i : Axis) → 0 < span_on o t i → near_on o t c i * parts s ≤ s.gone * span_on o t i
  pub attained : (s.gone ≡ 0) ⊎ ((i : Axis) × NearShare (coordinate o i) (coordinate t i) (index c i) s)

-- the line enters the cell, at the latest of its near faces or at once
pub record Entered (o t : Point) (c : Cell) : Type 0 where
  pub share : Share
  pub entry : Entry o t c share
  pub latest : Latest o t c share

-- the line reaches each near face before each far face and before t; where it keeps its coordinate, that is strictly between the faces
pub record Open (o t : Point) (c : Cell) : Type 0 where
  pub near_before_far : (i j : Axis) → 0 < span_on o t i → 0 < span_on o t j → near_on o t c i * span_on o t j < far_on o t c j * span_on o t i
  pub near_before_target : (i : Axis) → 0 < span_on o t i → near_on o t c i < span_on o t i
  pub level : (i : Axis) → coordinate o i ≡ coordinate t i → (128 * index c i < coordinate o i) × (coordinate o i < 128 * index c i + 128)
