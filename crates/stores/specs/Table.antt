-- The kinds in a table store.
use Rattle.std.specs.Prelude.{ℕ, slice_index}
use Rattle.stores.specs.declared.table_store.TableStore.{TableStore}

abbrev pub table_kinds : TableStore → ℕ → ℕ
table_kinds s n = slice_index s.cells n
