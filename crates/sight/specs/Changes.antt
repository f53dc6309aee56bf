-- Changing a cell of a scanned corner.
use Rattle.std.specs.Prelude.{◌≡◌, ℕ, Result}
use Rattle.math.specs.declared.IVector.{IVector}
use Rattle.refusals.specs.declared.Refusal.{Refusal}
use Rattle.sight.specs.declared.scan.Scan.{Scan}
use Rattle.sight.specs.Cells.{GivesKind}

-- giving a cell a kind: where the corner lies and how large its cells are stays
pub record GivesKindIn {S : Type 0} (kinds : S → ℕ → ℕ) (capacity : ℕ) (before after : Scan S) (c : IVector) (kind : ℕ) (r : Result (Unit {0}) Refusal) : Type 0 where
  pub cells : GivesKind (kinds before.chunk.cells) (kinds after.chunk.cells) capacity c kind r
  pub exponent : after.exponent ≡ before.exponent
  pub frame : after.chunk.frame ≡ before.chunk.frame
