-- Cells by their coordinates, 0 to 7 on each axis.
use Rattle.std.specs.Prelude.{◌≡◌, ℕ, ◌+◌, ◌*◌, cond, is_ok, Ok, Err, Result, unsigned_abs}
use Rattle.math.specs.declared.IVector.{IVector}
use Rattle.refusals.specs.declared.Refusal.{Refusal}
use Rattle.refusals.specs.declared.Refusal.TheVariants.{CellOutside, StoreFull}
use Rattle.sight.specs.Ranges.{cell_fits}
use Rattle.stores.specs.Store.{is_full, with_cell}

abbrev pub cell_index : IVector → ℕ
cell_index c = unsigned_abs c.x + 8 * unsigned_abs c.y + 64 * unsigned_abs c.z

unfoldable pub index_answer : IVector → Result ℕ Refusal
index_answer c = cond (cell_fits c) (Ok (cell_index c)) (Err CellOutside)

unfoldable pub cell_answer : (ℕ → ℕ) → ℕ → IVector → ℕ → Result (Unit {0}) Refusal
cell_answer kinds capacity c kind = cond (cell_fits c) (cond (is_full kinds capacity (cell_index c) kind) (Err StoreFull) (Ok tt)) (Err CellOutside)

-- what giving a cell a kind answers, and the kinds after it: a refusal changes none
pub record GivesKind (before after : ℕ → ℕ) (capacity : ℕ) (c : IVector) (kind : ℕ) (r : Result (Unit {0}) Refusal) : Type 0 where
  pub answer : r ≡ cell_answer before capacity c kind
  pub cells : (m : ℕ) → after m ≡ cond (is_ok r) (with_cell before (cell_index c) kind m) (before m)
