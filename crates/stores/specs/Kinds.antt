-- What a table of cells may hold.
use Rattle.std.specs.Prelude.{◌≡◌, ℕ, ◌≤◌, List, length, slice_index}

-- 512 kinds, each 0 or 1
abbrev pub Kinds : List ℕ → Type 0
Kinds cells = (length cells ≡ 512) × ((n : ℕ) → slice_index cells n ≤ 1)
