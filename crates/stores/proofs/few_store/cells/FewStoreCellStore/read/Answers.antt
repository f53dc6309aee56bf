use Rattle.std.proofs.Common.{Some, sym}
use Rattle.stores.proofs.Few.{stands_once, stands_nowhere}
use Rattle.stores.proofs.few_store.cells.FewStoreCellStore.read.Goals as goal

pub returns-in-Some : goal.returns-in-Some
returns-in-Some c = sym (stands_once c.args.self.now.places c.args.n c.in-Some.field-0 c.args.self.now.ok c.in-Some.ensures)

pub returns-in-None : goal.returns-in-None
returns-in-None c = sym (stands_nowhere (Some c.args.n) c.args.self.now.places c.in-None.ensures)
