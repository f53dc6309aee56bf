-- One axis of a look: its camera, its target and the faces of the cells are exact floats, each at its grid number.
use Rattle.std.proofs.Common.{◌≡◌, ℕ, ◌+◌, ◌*◌, ◌≤◌, false, T, ℤ, pos, ◌+ℤ◌, nat_abs, Some, ap, arith}
use mathlib.Core.Path.{subst⁻¹}
use lib.Ieee.{Float, eq}
use Rattle.scalar.specs.Single.{plus, minus, times, over, zero, two}
use Rattle.scalar.specs.Grid.{IsCell}
use Rattle.scalar.proofs.Grid.{plane_exact, cell_over_two, low_face_exact, high_face_exact, offset_zero}
use Rattle.math.specs.declared.Vector.{Vector}
use Rattle.math.specs.declared.IVector.{IVector}
use Rattle.math.specs.declared.Axis.{Axis}
use Rattle.math.specs.declared.Axis.TheVariants.{X, Y, Z}
use Rattle.math.specs.Vectors.{component}
use Rattle.grid.specs.declared.frame.ChunkFrame.{ChunkFrame}
use Rattle.grid.specs.Lawful.{exponent_fits}
use Rattle.grid.specs.Frame.{key_float, centre}
use Rattle.grid.proofs.Bounds.{key_bound, exponent_bound}
use Rattle.sight.specs.declared.grid_point.GridPoint.{GridPoint}
use Rattle.sight.specs.Power.{power_of_two, cube}
use Rattle.sight.specs.Sight.{Exactly}
use Rattle.sight.proofs.Powers.{power_is_cell}
use Rattle.sight.proofs.Positions.{metres, axis_position_exact}

-- in a chunk whose cells are cubes of 2^e metres: `size` is 2^e, and the camera and the target are at the grid numbers g and h
pub record LookAxis (e key : ℤ) (size : Float) (g h : ℕ) : Type 0 where
  pub unit_bound : nat_abs (e +ℤ pos 10) ≤ 20
  pub key_small : nat_abs key ≤ 4096
  pub camera_small : g ≤ 1023
  pub target_small : h ≤ 1023
  pub size_exact : IsCell size (nat_abs (e +ℤ pos 10))
  pub camera_exact : Exactly (metres e key g) e key g
  pub target_exact : Exactly (metres e key h) e key h
  pub moves : (g ≡ h → ⊥) → eq (minus (metres e key h) (metres e key g)) zero ≡ false
  -- the planes between the chunk's cells, and the faces of a cell's box
  pub plane : (n : ℕ) → n ≤ 8 → Exactly (times (key_float key n) size) e key (128 * n)
  pub low_face : (n : ℕ) → n ≤ 7 → Exactly (minus (centre key n size) (over size two)) e key (128 * n)
  pub high_face : (n : ℕ) → n ≤ 7 → Exactly (plus (centre key n size) (over size two)) e key (128 * n + 128)

axis_exact : (e key : ℤ) (size : Float) (g h : ℕ) → T (exponent_fits (Some e)) → nat_abs key ≤ 4096 → size ≡ power_of_two e → g ≤ 1023 → h ≤ 1023 → LookAxis e key size g h
axis_exact e key size g h range l s G H =
    let k = nat_abs (e +ℤ pos 10) in
    let b = exponent_bound e range in
    let K = b.1 in
    let c : IsCell size k = subst⁻¹ (λ (y : Float). IsCell y k) s (power_is_cell e k b.0) in
    let half-cell = cell_over_two k size K c in
    let x = axis_position_exact e key g range l G in
    let y = axis_position_exact e key h range l H in
    record {
      unit_bound = K;
      key_small = l;
      camera_small = G;
      target_small = H;
      size_exact = c;
      camera_exact = x;
      target_exact = y;
      moves = (offset_zero k (metres e key g) (metres e key h) key g h K l (omega arith) (omega arith) x y).1;
      plane = λ n N. plane_exact k size key n K c l N;
      low_face = λ n N. low_face_exact k size (over size two) key n K c half-cell l N;
      high_face = λ n N. high_face_exact k size (over size two) key n K c half-cell l N;
    }

-- ---- each axis
abbrev pub key_on : IVector → Axis → ℤ
key_on k X = k.x
key_on k Y = k.y
key_on k Z = k.z

abbrev pub grid_number : GridPoint → Axis → ℕ
grid_number p X = p.x
grid_number p Y = p.y
grid_number p Z = p.z

module _ (f : ChunkFrame) (e : ℤ) (range : T (exponent_fits (Some e))) (size : f.voxel_size ≡ cube e) (camera target : GridPoint) where
  pub look_axis : (a : Axis) → LookAxis e (key_on f.key a) (component f.voxel_size a) (grid_number camera a) (grid_number target a)
  look_axis X = axis_exact e f.key.x f.voxel_size.x camera.x target.x range (key_bound f).0 (ap (λ (v : Vector). v.x) size) camera.ok.0 target.ok.0
  look_axis Y = axis_exact e f.key.y f.voxel_size.y camera.y target.y range (key_bound f).1 (ap (λ (v : Vector). v.y) size) camera.ok.1.0 target.ok.1.0
  look_axis Z = axis_exact e f.key.z f.voxel_size.z camera.z target.z range (key_bound f).2 (ap (λ (v : Vector). v.z) size) camera.ok.1.1 target.ok.1.1
