-- A cell store by its meaning: a map from cell numbers, 0 to 511, to a kind, 0 empty or 1 filled.
use Rattle.std.specs.Prelude.{◌≡◌, ℕ, zero, suc, ◌+◌, Bool, cond, ◌&&◌, ◌||◌, is_ok, Ok, Err, Result, ◌==◌, nat_lt}
use Rattle.stores.specs.declared.cell_store.StoreRefusal.{StoreRefusal}
use Rattle.stores.specs.declared.cell_store.StoreRefusal.TheVariants.{Bad, Full}

-- how many of the cells below n are not empty
unfoldable pub filled_below : ℕ → (ℕ → ℕ) → ℕ
filled_below zero kinds = 0
filled_below (suc n) kinds = cond (kinds n == 0) 0 1 + filled_below n kinds

abbrev pub filled_cells : (ℕ → ℕ) → ℕ
filled_cells kinds = filled_below 512 kinds

-- no such cell, or no such kind
abbrev pub is_bad : ℕ → ℕ → Bool
is_bad n kind = nat_lt 511 n || nat_lt 1 kind

-- an empty cell is to be filled, and as many cells are filled as the capacity
abbrev pub is_full : (ℕ → ℕ) → ℕ → ℕ → ℕ → Bool
is_full kinds capacity n kind = kind == 1 && (kinds n == 0 && filled_cells kinds == capacity)

abbrev pub set_answer : (ℕ → ℕ) → ℕ → ℕ → ℕ → Result (Unit {0}) StoreRefusal
set_answer kinds capacity n kind = cond (is_bad n kind) (Err Bad) (cond (is_full kinds capacity n kind) (Err Full) (Ok tt))

-- the kinds once cell n has that kind
abbrev pub with_cell : (ℕ → ℕ) → ℕ → ℕ → ℕ → ℕ
with_cell kinds n kind m = cond (m == n) kind (kinds m)

-- what setting a cell answers, and the kinds after it: a refusal changes none
pub record Sets (before after : ℕ → ℕ) (capacity n kind : ℕ) (r : Result (Unit {0}) StoreRefusal) : Type 0 where
  pub answer : r ≡ set_answer before capacity n kind
  pub cells : (m : ℕ) → after m ≡ cond (is_ok r) (with_cell before n kind m) (before m)
