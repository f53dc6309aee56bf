use Rattle.std.proofs.Common.{◌≡◌, arith, w32, to_z, of_z}
use Rattle.std.proofs.lemmas.Int.{ints}
use Rattle.session.proofs.session.before_room.Goals as goal

pub returns-in_ok-open_room-in-Room : goal.returns-in_ok-open_room-in-Room
returns-in_ok-open_room-in-Room g c =
    let e : to_z w32 (of_z w32 c.in-Room.exponent) ≡ c.in-Room.exponent = omega (arith, ints) in
    let i : to_z w32 (of_z w32 c.in-Room.id) ≡ c.in-Room.id = omega (arith, ints) in
    rw c.in-Room.is (rw (e, i) at c.in_ok-open_room-in-Room.ensures)
