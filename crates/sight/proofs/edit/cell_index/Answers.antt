use Rattle.std.proofs.Common.{◌≡◌, pos, ◌∙◌, rules}
use Rattle.sight.proofs.Numbers.{key_number, no_x, no_y, no_z}
use Rattle.sight.proofs.edit.cell_index.Goals as goal

pub returns : goal.returns
returns c =
    let k = c.in-Ok-Ok-Ok in
    let x : pos k.x ≡ c.args.cell.x = search rules in
    let y : pos k.y ≡ c.args.cell.y = search rules in
    let z : pos k.z ≡ c.args.cell.z = search rules in
    c.ok_or.ensures.value ∙ rw c.cell_number.ensures (key_number (record { x = k.x; y = k.y; z = k.z }) c.args.cell x y z)

pub returns-in_default : goal.returns-in_default
returns-in_default c = no_z c.args.cell (search rules)

pub returns-in_default-2 : goal.returns-in_default-2
returns-in_default-2 c = no_y c.args.cell (search rules)

pub returns-in_default-3 : goal.returns-in_default-3
returns-in_default-3 c = no_x c.args.cell (search rules)
