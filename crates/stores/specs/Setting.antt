-- Setting a cell of any store.
use Rattle.std.specs.Prelude.{◌≡◌, ℕ, ◌<◌, ◌≤◌, false, Ok, refl}
use Rattle.std.proofs.Common.{arith}
use Rattle.std.proofs.lemmas.Bool.Decides.{nat_tests}
use Rattle.stores.specs.Store.{Sets, with_cell, is_bad, is_full}

pub not_bad : (n kind : ℕ) → n < 512 → kind ≤ 1 → is_bad n kind ≡ false
not_bad n kind h k = grind (arith, nat_tests)

pub accepted : (before after : ℕ → ℕ) (capacity n kind : ℕ) → n < 512 → kind ≤ 1 → is_full before capacity n kind ≡ false → ((m : ℕ) → after m ≡ with_cell before n kind m) → Sets before after capacity n kind (Ok tt)
accepted before after capacity n kind h k room cells = record {
  answer = rw (not_bad n kind h k, room) refl;
  cells = cells;
}
