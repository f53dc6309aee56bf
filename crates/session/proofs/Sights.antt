-- What a sight line's outcome says is right of the exact line.
use Rattle.std.proofs.Common.{◌≡◌, ℕ, ◌+◌, ◌*◌, ◌%◌, ◌<◌, Bool, true, false, Some, None, Option, sym, refl, ap, ◌∙◌, subst, true≢false, arith}
use mathlib.Core.Path.{subst⁻¹}
use Rattle.math.specs.declared.IVector.{IVector}
use Rattle.query.specs.declared.ray.RayIntersection.{RayIntersection}
use Rattle.voxels.specs.Chunk.{stops}
use Rattle.line.specs.Line.{Point, X, Y, Z}
use Rattle.sight.specs.declared.scan.Scan.{Scan}
use Rattle.sight.specs.Sight.{look_at}
use Rattle.sight.proofs.Cubes.{cube_size}
use Rattle.looks.specs.Units.{point_of}
use Rattle.looks.specs.Exact.{number_of, filled_in, FirstCell, NamesFirst, ExactLook}
use Rattle.looks.proofs.Exactness.{look_is_exact}
use Rattle.session.specs.declared.outcome.Outcome.{Outcome}
use Rattle.session.specs.Outcomes.{hit_cell, sight_outcome}
use Rattle.session.specs.Answers.{kinds_in, Looked, ClearIsRight, RightOf, Right}

not_filled : (b : Bool) → (b ≡ true → false ≡ true) → b ≡ false
not_filled true h = absurd (true≢false (sym (h refl)))
not_filled false h = refl

module _ (a b : Point) (id : ℕ) (kinds : ℕ → ℕ) where
  cell_number_back : (n : ℕ) → n < 512 → (id * 512 + n) % 512 ≡ n
  cell_number_back n h = omega (arith, h)

  -- a chunk's hit is read out by its cell's number
  hit_is_right : (h : RayIntersection) → NamesFirst a b id kinds h → FirstCell a b kinds (hit_cell h.feature) h.time_of_impact
  hit_is_right h n =
      let number : ℕ = number_of n.cell in
      let is : hit_cell h.feature ≡ number = ap hit_cell n.feature ∙ cell_number_back number (omega (arith, n.inside X, n.inside Y, n.inside Z)) in
      record {
        cell = n.cell;
        inside = n.inside;
        numbered = is;
        filled = ap (λ (k : ℕ). stops (kinds k)) is ∙ n.filled;
        share = n.share;
        entry = n.entry;
        first = n.first;
        near = n.near;
      }

  seen_is_right : (hit : Option RayIntersection) (visited : ℕ) → ExactLook a b id kinds (record { hit = hit; visited = visited }) → RightOf a b kinds (sight_outcome hit visited)
  seen_is_right None visited exact = λ c crosses. not_filled (filled_in kinds c) (exact.blocked c crosses)
  seen_is_right (Some h) visited exact = hit_is_right h (exact.named h refl)

pub sight_is_right : {S : Type 0} (kinds : S → ℕ → ℕ) (s : Scan S) (camera target : IVector) (o : Outcome) → Looked kinds s camera target o → Right kinds s camera target o
sight_is_right kinds s camera target o looked p q at-camera at_target =
    let cells = kinds_in kinds s in
    let cast = look_at s.exponent s.chunk.frame cells p q in
    subst⁻¹ (RightOf (point_of p) (point_of q) cells) (looked p q at-camera at_target)
    (seen_is_right (point_of p) (point_of q) s.chunk.frame.id cells cast.hit cast.visited
    (look_is_exact s.chunk.frame s.exponent s.range (cube_size s) p q cells))

pub clear_is_right : {S : Type 0} (kinds : S → ℕ → ℕ) (s : Scan S) (camera target : IVector) (o : Outcome) → Looked kinds s camera target o → ClearIsRight kinds s camera target o
clear_is_right kinds s camera target o looked visited is p q at-camera at_target c crosses =
    subst (RightOf (point_of p) (point_of q) (kinds_in kinds s)) is (sight_is_right kinds s camera target o looked p q at-camera at_target) c crosses
