use Rattle.std.proofs.Common.{refl, arith}
use Rattle.stores.proofs.Few.{all_free}
use Rattle.stores.proofs.few_store.cells.FewStoreCellStore.new.Goals as goal

pub invariant_of-result : goal.invariant_of-result
invariant_of-result c = record { ok = (refl, (λ n. omega (arith, all_free n)), (λ n h. all_free n)) }

pub returns : goal.returns
returns c = all_free
