-- A look in floats is a look along the exact line: the same cells, in the same order.
use Rattle.std.proofs.Common.{◌≡◌, ℕ, zero, suc, Bool, true, false, cond, is_some, Some, None, Option, sym, refl, ap, ◌∙◌, subst, true≢false, arith}
use mathlib.Core.Path.{subst⁻¹}
use lib.Ieee.{Float}
use Rattle.std.proofs.lemmas.Bool.Decides.{nat_tests}
use Rattle.query.specs.declared.ray.Ray.{Ray}
use Rattle.query.specs.declared.ray.RayIntersection.{RayIntersection}
use Rattle.query.specs.declared.feature_id.FeatureId.TheVariants.{Face}
use Rattle.query.specs.Cast.{and_then}
use Rattle.boxes.specs.Box.{box_cast}
use Rattle.query.proofs.Options.{none_is_not_some, through}
use Rattle.grid.specs.declared.frame.ChunkFrame.{ChunkFrame}
use Rattle.grid.specs.declared.voxel_key.VoxelKey.{VoxelKey}
use Rattle.voxels.specs.declared.chunk_cast.ChunkCast.{ChunkCast}
use Rattle.voxels.specs.declared.chunk_cast.Turn.{Turn}
use Rattle.grid.specs.Frame.{cell_box, cell_number, flat_id}
use Rattle.voxels.specs.Chunk.{stops, named, boxed_hit, cell_hit, step_times, step_to, step_from, or_else, turn_at, onward, walk}
use Rattle.line.specs.Line.{Point, Cell, Crosses}
use Rattle.line.specs.Look.{LookResult, clear_after, look_on, look, StopsFor}
use Rattle.looks.specs.Units.{key_of_cell}
use Rattle.looks.specs.Exact.{number_of, filled_number, filled_in}
use Rattle.looks.proofs.Stepping.{float_rule, turn_to, step_by_rule}

module _ (f : ChunkFrame) (kinds : ℕ → ℕ) (r : Ray) (limit : Float) where
  abbrev pub hit_at : Cell → Option RayIntersection
  hit_at c = cell_hit f kinds r limit true (key_of_cell c)

  abbrev pub stops_at : Cell → Bool
  stops_at c = is_some (hit_at c)

  -- both are clear, or the walk's hit is that of the look's cell
  abbrev pub SameHit : Option RayIntersection → Option Cell → Type 0
  SameHit None None = Unit {0}
  SameHit None (Some c) = ⊥
  SameHit (Some h) None = ⊥
  SameHit (Some h) (Some c) = hit_at c ≡ Some h

  pub record SameLook (w : ChunkCast) (l : LookResult) : Type 0 where
    pub visited : w.visited ≡ l.visited
    pub hit : SameHit w.hit l.hit

  abbrev turn : VoxelKey → Turn
  turn = turn_at f kinds r limit true

  abbrev rule : Cell → Option Cell
  rule = float_rule f r limit

  pub walk_is_look : (n : ℕ) (c : Cell) → SameLook (walk turn n (key_of_cell c)) (look stops_at rule n c)
  unfolding walk look turn_at
  walk_is_look zero c = record { visited = refl; hit = tt }
  walk_is_look (suc n) c = go (walk_is_look n) (hit_at c) refl (rule c) (step_to (step_from (key_of_cell c) r.dir (step_times (cell_box f (key_of_cell c)) r) limit)) (step_by_rule f r limit c)
    where
      go : ((d : Cell) → SameLook (walk turn n (key_of_cell d)) (look stops_at rule n d)) → (o : Option RayIntersection) → hit_at c ≡ o → (y : Option Cell) (s : Turn) → s ≡ turn_to y
          → SameLook (onward (walk turn n) (or_else o s)) (cond (is_some o) (record { hit = Some c; visited = 1 }) (look_on (look stops_at rule n) y))
      go rest (Some h) is y s e = record { visited = refl; hit = is }
      go rest None is None s e = subst⁻¹ (λ (u : Turn). SameLook (onward (walk turn n) u) (clear_after 1)) e (record { visited = refl; hit = tt })
      go rest None is (Some d) s e =
          let w = rest d in
          subst⁻¹ (λ (u : Turn). SameLook (onward (walk turn n) u) (look_on (look stops_at rule n) (Some d))) e (record { visited = ap suc w.visited; hit = w.hit })

  -- ---- which cells stop it
  only_filled : (c : Cell) → stops_at c ≡ true → filled_in kinds c ≡ true
  unfolding cell_hit
  only_filled c = go (cell_number (key_of_cell c))
    where
      tested : (n : ℕ) (b : Bool) → is_some (cond b (and_then (box_cast (cell_box f (key_of_cell c)) r limit true) (named (flat_id f n))) None) ≡ true → b ≡ true
      tested n true e = refl
      tested n false e = absurd (true≢false (sym e))

      go : (o : Option ℕ) → is_some (and_then o (boxed_hit f kinds r limit true (key_of_cell c))) ≡ true → filled_number kinds o ≡ true
      go None e = absurd (true≢false (sym e))
      go (Some n) e = tested n (stops (kinds n)) e

  box_stops : (c : Cell) → is_some (box_cast (cell_box f (key_of_cell c)) r limit true) ≡ true → filled_in kinds c ≡ true → stops_at c ≡ true
  unfolding cell_hit
  box_stops c h = go (cell_number (key_of_cell c))
    where
      same : (face : ℕ) (o : Option RayIntersection) → is_some (and_then o (named face)) ≡ is_some o
      same face None = refl
      same face (Some g) = refl

      tested : (n : ℕ) (b : Bool) → b ≡ true → is_some (cond b (and_then (box_cast (cell_box f (key_of_cell c)) r limit true) (named (flat_id f n))) None) ≡ true
      tested n true e = same (flat_id f n) (box_cast (cell_box f (key_of_cell c)) r limit true) ∙ h
      tested n false e = absurd (true≢false (sym e))

      go : (o : Option ℕ) → filled_number kinds o ≡ true → is_some (and_then o (boxed_hit f kinds r limit true (key_of_cell c))) ≡ true
      go None e = absurd (true≢false (sym e))
      go (Some n) e = tested n (stops (kinds n)) e

  pub stops_for : (o t : Point) → ((c : Cell) → Crosses o t c → is_some (box_cast (cell_box f (key_of_cell c)) r limit true) ≡ true) → StopsFor o t (filled_in kinds) stops_at
  stops_for o t crossed-hit = record {
    only_filled = only_filled;
    each_crossed = λ c x e. box_stops c (crossed-hit c x) e;
  }

  -- ---- what a hit names
  pub record CellOfHit (c : Cell) (h : RayIntersection) : Type 0 where
    pub number : cell_number (key_of_cell c) ≡ Some (number_of c)
    pub filled : stops (kinds (number_of c)) ≡ true
    pub feature : h.feature ≡ Face (flat_id f (number_of c))
    pub box : RayIntersection
    pub hits_box : box_cast (cell_box f (key_of_cell c)) r limit true ≡ Some box
    pub time : box.time_of_impact ≡ h.time_of_impact

  number_is : (c : Cell) (n : ℕ) → cell_number (key_of_cell c) ≡ Some n → n ≡ number_of c
  unfolding cell_number
  number_is c n e = grind (arith, nat_tests)

  pub cell_of_hit : (c : Cell) (h : RayIntersection) → hit_at c ≡ Some h → CellOfHit c h
  unfolding cell_hit
  cell_of_hit c h e =
      let p = through (cell_number (key_of_cell c)) (boxed_hit f kinds r limit true (key_of_cell c)) h e in
      let is = number_is c p.0 p.1 in
      go (subst (λ (n : ℕ). cell_number (key_of_cell c) ≡ Some n) is p.1) (stops (kinds (number_of c))) refl
      (subst (λ (n : ℕ). boxed_hit f kinds r limit true (key_of_cell c) n ≡ Some h) is p.2)
    where
      go : cell_number (key_of_cell c) ≡ Some (number_of c) → (b : Bool) → stops (kinds (number_of c)) ≡ b
          → cond b (and_then (box_cast (cell_box f (key_of_cell c)) r limit true) (named (flat_id f (number_of c)))) None ≡ Some h → CellOfHit c h
      go k true s e =
          let q = through (box_cast (cell_box f (key_of_cell c)) r limit true) (named (flat_id f (number_of c))) h e in
          record { number = k; filled = s; feature = cc q.2; box = q.0; hits_box = q.1; time = cc q.2 }
      go k false s e = none_is_not_some h e
