-- A look is exact: what its answer says holds of the exact line.
use Rattle.std.proofs.Common.{◌≡◌, ℕ, true, T, ℤ, is_some, Some, None, Option, sym, refl, ap, ◌∙◌, subst, true≢false, arith}
use lib.Ieee.{Float}
use Rattle.std.specs.Float as Floats
use Rattle.scalar.specs.Single.{one}
use Rattle.query.specs.declared.ray.Ray.{Ray}
use Rattle.query.specs.declared.ray.RayIntersection.{RayIntersection}
use Rattle.query.proofs.Options.{none_is_not_some}
use Rattle.grid.specs.declared.frame.ChunkFrame.{ChunkFrame}
use Rattle.voxels.specs.declared.chunk_cast.ChunkCast.{ChunkCast}
use Rattle.grid.specs.Lawful.{exponent_fits}
use Rattle.line.specs.Line.{Point, Cell, Crosses}
use Rattle.line.specs.Walk.{cell_of}
use Rattle.line.specs.Look.{look, FirstFilled, Answers}
use Rattle.line.proofs.Look.{look_answers}
use Rattle.line.proofs.Walk.{touched_in_grid}
use Rattle.sight.specs.declared.grid_point.GridPoint.{GridPoint}
use Rattle.sight.specs.Power.{cube}
use Rattle.sight.specs.Sight.{sight_line, look_at}
use Rattle.sight.proofs.LookStart.{look_clip, look_walks, look_few}
use Rattle.looks.specs.Units.{point_of}
use Rattle.looks.specs.Times.{TimeNear}
use Rattle.looks.specs.Exact.{filled_in, NamesFirst, ExactLook}
use Rattle.looks.proofs.Units.{in_grid}
use Rattle.looks.proofs.Stepping.{float_rule, float_rule_chooses}
use Rattle.looks.proofs.Looking.{SameHit, stops_at, walk_is_look, stops_for, cell_of_hit}
use Rattle.looks.proofs.BoxHits.{crossed_is_hit}
use Rattle.looks.proofs.EntryTimes.{hit_time_near_entry}

module _ (f : ChunkFrame) (e : ℤ) (range : T (exponent_fits (Some e))) (size : f.voxel_size ≡ cube e) (camera target : GridPoint) (kinds : ℕ → ℕ) where
  abbrev o : Point
  o = point_of camera

  abbrev t : Point
  t = point_of target

  abbrev line : Ray
  line = sight_line e f.key camera target

  abbrev limit : Float
  limit = Floats.float_min (look_clip f e range size camera target).end one

  pub answers : Answers o t (filled_in kinds) (look (stops_at f kinds line limit) (float_rule f line limit) 25 (cell_of o)).hit
  answers =
      look_answers o t (float_rule f line limit) (float_rule_chooses f e range size camera target) (in_grid camera) (in_grid target) (filled_in kinds) (stops_at f kinds line limit)
      (stops_for f kinds line limit o t (crossed_is_hit f e range size camera target)) 25 (omega arith)

  names_first : (h : RayIntersection) (c : Cell) → SameHit f kinds line limit (Some h) (Some c) → FirstFilled o t (filled_in kinds) c → NamesFirst o t f.id kinds h
  names_first h c same first =
      let cell = cell_of_hit f kinds line limit c h same in
      let s = first.entered in
      record {
        cell = c;
        inside = touched_in_grid o t (in_grid camera) (in_grid target) c (s.share, s.entry.touches);
        feature = cell.feature;
        filled = cell.filled;
        share = s.share;
        entry = s.entry;
        first = first.first;
        near = subst (TimeNear s.share) cell.time (hit_time_near_entry f e range size camera target c s.share limit cell.box s.entry cell.hits_box);
      }

  not_clear : (w : Option RayIntersection) (l : Option Cell) → SameHit f kinds line limit w l → Answers o t (filled_in kinds) l → (c : Cell) → Crosses o t c → filled_in kinds c ≡ true → is_some w ≡ true
  not_clear None None same clear c x is = absurd (true≢false (sym is ∙ clear c x))
  not_clear None (Some k) same a c x is = absurd same
  not_clear (Some h) l same a c x is = refl

  named : (w : Option RayIntersection) (l : Option Cell) → SameHit f kinds line limit w l → Answers o t (filled_in kinds) l → (h : RayIntersection) → w ≡ Some h → NamesFirst o t f.id kinds h
  named None l same a h is = none_is_not_some h is
  named (Some g) None same a h is = absurd same
  named (Some g) (Some c) same a h is = let q : g ≡ h = cc in subst (NamesFirst o t f.id kinds) q (names_first g c same a)

  pub look_is_exact : ExactLook o t f.id kinds (look_at e f kinds camera target)
  look_is_exact =
      let same = walk_is_look f kinds line limit 25 (cell_of o) in
      let walked = look_walks f e range size camera target kinds in
      record {
        blocked = λ c x is. ap (λ (r : ChunkCast). is_some r.hit) walked ∙ not_clear _ _ same.hit answers c x is;
        named = λ h is. named _ _ same.hit answers h (sym (ap (λ (r : ChunkCast). r.hit) walked) ∙ is);
        few = look_few f e range size camera target kinds;
      }
