use Rattle.std.proofs.Common.{refl, arith}
use Rattle.stores.specs.TableLemmas.{zeros_at}
use Rattle.stores.proofs.table_store.cells.TableStoreCellStore.new.Goals as goal

pub invariant_of-result : goal.invariant_of-result
invariant_of-result c = record { ok = (refl, λ n. omega (arith, zeros_at 512 n)) }

pub returns : goal.returns
returns c = λ n. zeros_at 512 n
