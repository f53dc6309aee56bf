use Rattle.std.proofs.Common.{Some, arith}
use Rattle.stores.proofs.Few.{stands_once, stands_nowhere, distinct_wiped, sets_wiped, sets_kept, distinct_filled, sets_filled, refused_full}
use Rattle.stores.proofs.few_store.cells.FewStoreCellStore.set.Goals as goal

pub invariant_of-self : goal.invariant_of-self
invariant_of-self c =
    let s = c.args.self.now in
    record { ok = distinct_wiped s.places c.args.n c.in-Some.i s.ok (omega arith) c.in-Some.ensures }

pub returns-in-Some : goal.returns-in-Some
returns-in-Some c =
    let s = c.args.self.now in
    sets_wiped s.places c.args.n c.args.kind c.in-Some.i s.ok (omega arith) c.if-kind-eq0.true c.in-Some.ensures

pub returns-else-kind-eq0 : goal.returns-else-kind-eq0
returns-else-kind-eq0 c =
    let s = c.args.self.now in
    let one = stands_once s.places c.args.n c.in-Some.i s.ok c.in-Some.ensures in
    sets_kept s.places c.args.n c.args.kind (omega arith) (omega arith) (omega arith)

pub invariant_of-self-in-Some-position : goal.invariant_of-self-in-Some-position
invariant_of-self-in-Some-position c =
    let s = c.args.self.now in
    record { ok = distinct_filled s.places c.args.n c.in-Some-position.free s.ok (omega arith) c.in-None.ensures c.in-Some-position.ensures }

pub returns-in-Some-position : goal.returns-in-Some-position
returns-in-Some-position c =
    let s = c.args.self.now in
    sets_filled s.places c.args.n c.args.kind c.in-Some-position.free s.ok (omega arith) c.if-kind-eq1.true c.in-None.ensures c.in-Some-position.ensures

pub returns-in-None-position : goal.returns-in-None-position
returns-in-None-position c =
    let s = c.args.self.now in
    refused_full s.places c.args.n c.args.kind s.ok (omega arith) c.if-kind-eq1.true c.in-None.ensures c.in-None-position.ensures

pub returns-else-kind-eq1 : goal.returns-else-kind-eq1
returns-else-kind-eq1 c =
    let s = c.args.self.now in
    let none = stands_nowhere (Some c.args.n) s.places c.in-None.ensures in
    sets_kept s.places c.args.n c.args.kind (omega arith) (omega arith) (omega arith)
