use Rattle.std.proofs.Common.{◌≡◌, ℤ, pos, subst, arith, w32, to_z, of_z}
use Rattle.std.proofs.lemmas.Int.{ints}
use Rattle.session.proofs.Rooms.{OpensAs, room_opens}
use Rattle.session.proofs.session.open_room.Goals as goal

pub returns : goal.returns
returns g c =
    let kinds = g.S.CellStore.kinds in
    let a = c.args in
    let e : to_z w32 (of_z w32 a.exponent) ≡ a.exponent = omega (arith, ints) in
    let i : pos c.in_ok-id.id ≡ a.id = grind (arith, ints) in
    subst (λ (z : ℤ). OpensAs kinds z a.key a.id c.new.result) e
    (subst (λ (z : ℤ). OpensAs kinds (to_z w32 (of_z w32 a.exponent)) a.key z c.new.result) i
    (room_opens kinds (to_z w32 (of_z w32 a.exponent)) a.key c.in_ok-id.id c.new.result c.new.ensures))
