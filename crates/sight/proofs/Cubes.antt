-- The cells of a scan are cubes of 2^e metres: its truncated fact as an equation.
use Rattle.std.proofs.Common.{◌≡◌, ℤ, ap, ◌∙◌}
use mathlib.Core.Logic.{∥∥₁_elim}
use base.Stored.{Coded-set, coded_float}
use lib.Ieee.{Float}
use Rattle.math.specs.declared.Vector.{Vector}
use Rattle.math.specs.Vectors.{vector}
use Rattle.sight.specs.declared.scan.Scan.{Scan}
use Rattle.sight.specs.Power.{power_of_two, cube}

-- an equation of floats has one proof at most
component_of_cube : (e : ℤ) (v : Vector) (at : Vector → Float) → ∥ v ≡ cube e ∥₁ → at v ≡ at (cube e)
component_of_cube e v at h = ∥∥₁_elim h (Coded-set coded_float (at v) (at (cube e))) (λ s. ap at s)

size_is_cube : (e : ℤ) (v : Vector) → ∥ v ≡ cube e ∥₁ → v ≡ cube e
size_is_cube e v h =
    ap (λ (s : Float). vector s v.y v.z) (component_of_cube e v (λ (w : Vector). w.x) h)
    ∙ ap (λ (s : Float). vector (power_of_two e) s v.z) (component_of_cube e v (λ (w : Vector). w.y) h)
    ∙ ap (λ (s : Float). vector (power_of_two e) (power_of_two e) s) (component_of_cube e v (λ (w : Vector). w.z) h)

pub cube_size : {S : Type 0} (s : Scan S) → s.chunk.frame.voxel_size ≡ cube s.exponent
cube_size s = size_is_cube s.exponent s.chunk.frame.voxel_size s.cubes
