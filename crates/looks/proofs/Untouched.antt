-- A look does not depend on the cells that its line does not touch.
use Rattle.std.proofs.Common.{◌≡◌, ℕ, Bool, true, cond, T, ℤ, is_some, Some, None, Option, sym, refl, ap, ◌∙◌}
use mathlib.Core.Path.{subst⁻¹}
use lib.Ieee.{Float}
use Rattle.std.specs.Float as Floats
use Rattle.scalar.specs.Single.{one}
use Rattle.query.specs.declared.ray.Ray.{Ray}
use Rattle.query.specs.declared.ray.RayIntersection.{RayIntersection}
use Rattle.query.specs.Cast.{and_then}
use Rattle.boxes.specs.Box.{box_cast}
use Rattle.grid.specs.declared.frame.ChunkFrame.{ChunkFrame}
use Rattle.voxels.specs.declared.chunk_cast.ChunkCast.{ChunkCast}
use Rattle.grid.specs.Lawful.{exponent_fits}
use Rattle.grid.specs.Frame.{cell_box, cell_number, flat_id}
use Rattle.voxels.specs.Chunk.{named, boxed_hit, cell_hit, turn_at, walk}
use Rattle.line.specs.Line.{Point, Cell}
use Rattle.line.specs.Walk.{cell_of}
use Rattle.line.specs.Look.{LookResult, look, Answers}
use Rattle.line.proofs.Look.{same_on_touched}
use Rattle.sight.specs.declared.grid_point.GridPoint.{GridPoint}
use Rattle.sight.specs.Power.{cube}
use Rattle.sight.specs.Sight.{sight_line, look_at}
use Rattle.sight.proofs.LookStart.{look_clip, look_walks}
use Rattle.looks.specs.Units.{point_of, key_of_cell}
use Rattle.looks.specs.Exact.{filled_number, filled_in, SameWhereTouched}
use Rattle.looks.proofs.Stepping.{float_rule, float_rule_chooses}
use Rattle.looks.proofs.Looking.{hit_at, stops_at, SameHit, SameLook, walk_is_look}
use Rattle.looks.proofs.Exactness.{answers}

-- a cell that is filled by both kinds or by neither has the same hit
same_hit : (f : ChunkFrame) (kinds others : ℕ → ℕ) (r : Ray) (limit : Float) (c : Cell) → filled_in kinds c ≡ filled_in others c → hit_at f kinds r limit c ≡ hit_at f others r limit c
unfolding cell_hit
same_hit f kinds others r limit c = go (cell_number (key_of_cell c))
  where
    go : (n : Option ℕ) → filled_number kinds n ≡ filled_number others n → and_then n (boxed_hit f kinds r limit true (key_of_cell c)) ≡ and_then n (boxed_hit f others r limit true (key_of_cell c))
    go None e = refl
    go (Some n) e = ap (λ (b : Bool). cond b (and_then (box_cast (cell_box f (key_of_cell c)) r limit true) (named (flat_id f n))) None) e

same_cast : (a b : ChunkCast) → a.hit ≡ b.hit → a.visited ≡ b.visited → a ≡ b
same_cast a b h v = ap (λ (x : Option RayIntersection). record { hit = x; visited = a.visited }) h ∙ ap (λ (n : ℕ). record { hit = b.hit; visited = n }) v

module _ (f : ChunkFrame) (e : ℤ) (range : T (exponent_fits (Some e))) (size : f.voxel_size ≡ cube e) (camera target : GridPoint) (kinds others : ℕ → ℕ)
    (same : SameWhereTouched (point_of camera) (point_of target) kinds others) where
  abbrev o : Point
  o = point_of camera

  abbrev t : Point
  t = point_of target

  abbrev line : Ray
  line = sight_line e f.key camera target

  abbrev limit : Float
  limit = Floats.float_min (look_clip f e range size camera target).end one

  abbrev look_by : (ℕ → ℕ) → LookResult
  look_by k = look (stops_at f k line limit) (float_rule f line limit) 25 (cell_of o)

  abbrev walk_by : (ℕ → ℕ) → ChunkCast
  walk_by k = walk (turn_at f k line limit true) 25 (key_of_cell (cell_of o))

  same_looks : look_by kinds ≡ look_by others
  same_looks =
      same_on_touched o t (float_rule f line limit) (float_rule_chooses f e range size camera target) (stops_at f kinds line limit) (stops_at f others line limit)
      (λ c touched. ap is_some (same_hit f kinds others line limit c (same c touched))) 25

  same_hits : (a b : Option RayIntersection) (l : Option Cell) → SameHit f kinds line limit a l → SameHit f others line limit b l → Answers o t (filled_in kinds) l → a ≡ b
  same_hits None None l p q first = refl
  same_hits None (Some h) None p q first = absurd q
  same_hits None (Some h) (Some c) p q first = absurd p
  same_hits (Some g) b None p q first = absurd p
  same_hits (Some g) None (Some c) p q first = absurd q
  same_hits (Some g) (Some h) (Some c) p q first =
      let entered = first.entered in
      sym p ∙ same_hit f kinds others line limit c (same c (entered.share, entered.entry.touches)) ∙ q

  pub untouched_do_not_matter : look_at e f kinds camera target ≡ look_at e f others camera target
  untouched_do_not_matter =
      let a : SameLook f kinds line limit (walk_by kinds) (look_by kinds) = walk_is_look f kinds line limit 25 (cell_of o) in
      let b : SameLook f others line limit (walk_by others) (look_by kinds) = subst⁻¹ (SameLook f others line limit (walk_by others)) same_looks (walk_is_look f others line limit 25 (cell_of o)) in
      let hits : (walk_by kinds).hit ≡ (walk_by others).hit = same_hits (walk_by kinds).hit (walk_by others).hit (look_by kinds).hit a.hit b.hit (answers f e range size camera target kinds) in
      let counts : (walk_by kinds).visited ≡ (walk_by others).visited = a.visited ∙ sym b.visited in
      look_walks f e range size camera target kinds ∙ same_cast (walk_by kinds) (walk_by others) hits counts ∙ sym (look_walks f e range size camera target others)
