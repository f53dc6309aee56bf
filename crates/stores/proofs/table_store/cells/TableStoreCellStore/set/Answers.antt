use Rattle.std.proofs.Common.{arith}
use Rattle.stores.specs.TableLemmas.{table_sets}
use Rattle.stores.proofs.table_store.cells.TableStoreCellStore.set.Goals as goal

pub returns : goal.returns
returns c = table_sets c.args.self.now.cells c.args.self.now.ok c.args.n c.args.kind (omega arith) (omega arith)
