-- Positions of grid points are exact.
use Rattle.std.proofs.Common.{ℕ, ◌≤◌, T, ℤ, pos, ◌+ℤ◌, ◌-ℤ◌, nat_abs, Some, arith}
use lib.Ieee.{Float}
use Rattle.scalar.proofs.Grid.{coordinate_exact}
use Rattle.grid.specs.declared.frame.ChunkFrame.{ChunkFrame}
use Rattle.sight.specs.declared.grid_point.GridPoint.{GridPoint}
use Rattle.grid.specs.Lawful.{exponent_fits}
use Rattle.sight.specs.Power.{power_of_two}
use Rattle.sight.specs.Sight.{coordinate, position, Exactly, ExactlyAt}
use Rattle.grid.proofs.Bounds.{key_bound, exponent_bound}
use Rattle.sight.proofs.Powers.{power_is_unit}

-- one coordinate of a position
abbrev pub metres : ℤ → ℤ → ℕ → Float
metres e key g = coordinate (power_of_two (e -ℤ pos 7)) key g

pub axis_position_exact : (e key : ℤ) (g : ℕ) → T (exponent_fits (Some e)) → nat_abs key ≤ 4096 → g ≤ 1023 → Exactly (metres e key g) e key g
axis_position_exact e key g range l G =
    let k = nat_abs (e +ℤ pos 10) in
    let K = exponent_bound e range in
    coordinate_exact k (power_of_two (e -ℤ pos 7)) key g K.1 (power_is_unit e k K.0) l (omega arith)

pub position_exact : (e : ℤ) (f : ChunkFrame) (p : GridPoint) → T (exponent_fits (Some e)) → ExactlyAt (position e f.key p) e f.key p
position_exact e f p range =
    let l = key_bound f in
    let G = p.ok in (
      axis_position_exact e f.key.x p.x range l.0 G.0,
      axis_position_exact e f.key.y p.y range l.1 G.1.0,
      axis_position_exact e f.key.z p.z range l.2 G.1.1,
    )
