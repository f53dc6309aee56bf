-- What a chunk's hit is, over every store: it names a filled cell, and its time is within the reach.
use Rattle.std.specs.Prelude.{◌≡◌, ℕ, zero, suc, ◌<◌, Bool, true, false, cond, Some, None, Option, refl, Float}
use Rattle.std.proofs.Common.{◌∙◌, subst, arith}
use Rattle.std.specs.Float.Ieee.{lt}
use Rattle.std.specs.Float as Floats
use Rattle.scalar.specs.Single.{NotBelowZero}
use Rattle.scalar.specs.Single as Single
use Rattle.scalar.proofs.Order.{le_trans, le_right, least_le_right, least_not_below_zero}
use Rattle.math.specs.declared.Vector.{Vector}
use Rattle.math.specs.Vectors.{min_position}
use Rattle.boxes.specs.declared.aabb.Aabb.{Aabb}
use Rattle.query.specs.declared.ray.Ray.{Ray}
use Rattle.query.specs.declared.ray.RayIntersection.{RayIntersection}
use Rattle.boxes.specs.declared.clip_aabb_line.Ends.{Ends}
use Rattle.boxes.specs.declared.clip_aabb_line.LinePoint.{LinePoint}
use Rattle.query.specs.Cast.{and_then, Within}
use Rattle.boxes.specs.Clip.{clip_line, ray_parameters, clip_ray}
use Rattle.boxes.specs.Box.{box_cast}
use Rattle.query.proofs.Options.{none_is_not_some, through}
use Rattle.boxes.specs.ClipLemmas.{clip_sound}
use Rattle.boxes.specs.BoxLemmas.{box_timed}
use Rattle.grid.specs.declared.frame.ChunkFrame.{ChunkFrame}
use Rattle.grid.specs.declared.voxel_key.VoxelKey.{VoxelKey}
use Rattle.voxels.specs.declared.chunk_cast.Turn.{Turn}
use Rattle.voxels.specs.declared.chunk_cast.Turn.TheVariants.{Hit, Stop, Step}
use Rattle.grid.specs.Frame.{chunk_box, cell_box, cell_number, flat_id, key_of}
use Rattle.voxels.specs.Chunk.{stops, named, boxed_hit, cell_hit, step_times, all_later, next_key, step_to, step_from, or_else, turn_at, onward, walk, walk_within, cast_clipped, chunk_cast, NamesCell}
use Rattle.grid.proofs.Bounds.{number_bound}

pub never : {A : Type 0} → ◌≡◌ {A = ℕ} 0 1 → A
never z = absurd (omega arith)

-- ---- a walk's hit is the hit of one of its turns
walk_hit : (turn : VoxelKey → Turn) (P : RayIntersection → Type 0) → ((k : VoxelKey) (h : RayIntersection) → turn k ≡ Hit h → P h)
    → (n : ℕ) (k : VoxelKey) (h : RayIntersection) → (walk turn n k).hit ≡ Some h → P h
unfolding walk
walk_hit turn P all zero k h e = none_is_not_some h e
walk_hit turn P all (suc n) k h e = go (walk_hit turn P all n) (turn k) refl e
  where
    go : ((m : VoxelKey) (h : RayIntersection) → (walk turn n m).hit ≡ Some h → P h) → (t : Turn) → turn k ≡ t → (onward (walk turn n) t).hit ≡ Some h → P h
    go rest (Hit g) s e = let q : Hit g ≡ Hit h = cc in all k h (s ∙ q)
    go rest Stop s e = none_is_not_some h e
    go rest (Step m) s e = rest m h e

step_is_no_hit : (k : VoxelKey) (d times : Vector) (limit : Float) (h : RayIntersection) {A : Type 0} → step_to (step_from k d times limit) ≡ Hit h → A
unfolding step_from
step_is_no_hit k d times limit h = go (all_later times limit) (next_key k d (min_position times))
  where
    go : {A : Type 0} (b : Bool) (o : Option VoxelKey) → step_to (cond b None o) ≡ Hit h → A
    go true o e = never cc
    go false None e = never cc
    go false (Some m) e = never cc

turn_hit : (f : ChunkFrame) (kinds : ℕ → ℕ) (r : Ray) (limit : Float) (solid : Bool) (k : VoxelKey) (h : RayIntersection)
    → turn_at f kinds r limit solid k ≡ Hit h → cell_hit f kinds r limit solid k ≡ Some h
unfolding turn_at
turn_hit f kinds r limit solid k h = go (cell_hit f kinds r limit solid k)
  where
    go : (o : Option RayIntersection) → or_else o (step_to (step_from k r.dir (step_times (cell_box f k) r) limit)) ≡ Hit h → o ≡ Some h
    go None e = step_is_no_hit k r.dir (step_times (cell_box f k) r) limit h e
    go (Some g) e = cc

-- ---- a hit names a filled cell
cell_named : (f : ChunkFrame) (kinds : ℕ → ℕ) (r : Ray) (limit : Float) (solid : Bool) (k : VoxelKey) (h : RayIntersection)
    → cell_hit f kinds r limit solid k ≡ Some h → NamesCell f kinds h
unfolding cell_hit
cell_named f kinds r limit solid k h e =
    let p = through (cell_number k) (boxed_hit f kinds r limit solid k) h e in
    go p.0 (number_bound k p.0 p.1) (stops (kinds p.0)) refl p.2
  where
    go : (n : ℕ) → n < 512 → (b : Bool) → stops (kinds n) ≡ b → cond b (and_then (box_cast (cell_box f k) r limit solid) (named (flat_id f n))) None ≡ Some h → NamesCell f kinds h
    go n i true s e =
        let q = through (box_cast (cell_box f k) r limit solid) (named (flat_id f n)) h e in
        record { cell = n; inside = i; filled = s; feature = cc q.2 }
    go n i false s e = none_is_not_some h e

pub chunk_named : (f : ChunkFrame) (kinds : ℕ → ℕ) (r : Ray) (reach : Float) (solid : Bool) (h : RayIntersection) → (chunk_cast f kinds r reach solid).hit ≡ Some h → NamesCell f kinds h
unfolding chunk_cast
chunk_named f kinds r reach solid h e = go (clip_ray (chunk_box f) r) e
  where
    tested : (clip : Float × Float) → (late : Bool)
        → (cond late (record { hit = None; visited = 0 }) (walk_within f kinds r solid clip.0 (Floats.float_min clip.1 reach))).hit ≡ Some h → NamesCell f kinds h
    tested clip true e = none_is_not_some h e
    tested clip false e =
        let limit = Floats.float_min clip.1 reach in
        walk_hit (turn_at f kinds r limit solid) (NamesCell f kinds) (λ k g s. cell_named f kinds r limit solid k g (turn_hit f kinds r limit solid k g s))
        25 (key_of f (Rattle.query.specs.Cast.point_at r clip.0)) h e

    go : (o : Option (Float × Float)) → (cast_clipped f kinds r reach solid o).hit ≡ Some h → NamesCell f kinds h
    go None e = none_is_not_some h e
    go (Some clip) e = tested clip (lt reach clip.0) e

-- ---- the time law
named_timed : (face : ℕ) (limit : Float) (g h : RayIntersection) → Within g.time_of_impact limit → named face g ≡ Some h → Within h.time_of_impact limit
named_timed face limit g h w e = let s : g.time_of_impact ≡ h.time_of_impact = cc in subst (λ (t : Float). Within t limit) s w

cell_timed : (f : ChunkFrame) (kinds : ℕ → ℕ) (r : Ray) (limit : Float) (solid : Bool) (k : VoxelKey) (h : RayIntersection)
    → NotBelowZero limit → cell_hit f kinds r limit solid k ≡ Some h → Within h.time_of_impact limit
unfolding cell_hit
cell_timed f kinds r limit solid k h z e =
    let p = through (cell_number k) (boxed_hit f kinds r limit solid k) h e in
    go p.0 (stops (kinds p.0)) p.2
  where
    go : (n : ℕ) (b : Bool) → cond b (and_then (box_cast (cell_box f k) r limit solid) (named (flat_id f n))) None ≡ Some h → Within h.time_of_impact limit
    go n true e =
        let q = through (box_cast (cell_box f k) r limit solid) (named (flat_id f n)) h e in
        named_timed (flat_id f n) limit q.0 h (box_timed (cell_box f k) r limit solid q.0 z q.1) q.2
    go n false e = none_is_not_some h e

-- a ray leaves the box at a number that is not below zero
pub exit_not_below_zero : (b : Aabb) (r : Ray) (clip : Float × Float) → clip_ray b r ≡ Some clip → NotBelowZero clip.1
unfolding clip_ray
exit_not_below_zero b r clip e =
    let p = through (clip_line b r.origin r.dir) ray_parameters clip e in
    go p.0 (clip_sound b r.origin r.dir p.0 p.1).far_not_below_zero (lt p.0.far.time Single.zero) p.2
  where
    go : (c : Ends LinePoint) → NotBelowZero c.far.time → (out : Bool) → cond out None (Some (Floats.float_max c.near.time Single.zero, c.far.time)) ≡ Some clip → NotBelowZero clip.1
    go c z true e = none_is_not_some clip e
    go c z false e = let s : c.far.time ≡ clip.1 = cc in subst NotBelowZero s z

pub chunk_timed : (f : ChunkFrame) (kinds : ℕ → ℕ) (r : Ray) (reach : Float) (solid : Bool) (h : RayIntersection)
    → NotBelowZero reach → (chunk_cast f kinds r reach solid).hit ≡ Some h → Within h.time_of_impact reach
unfolding chunk_cast
chunk_timed f kinds r reach solid h z e = go (clip_ray (chunk_box f) r) refl e
  where
    within : (clip : Float × Float) → NotBelowZero clip.1 → (walk_within f kinds r solid clip.0 (Floats.float_min clip.1 reach)).hit ≡ Some h → Within h.time_of_impact reach
    within clip x e =
        let limit = Floats.float_min clip.1 reach in
        let l = least_not_below_zero clip.1 reach x z in
        let w : Within h.time_of_impact limit =
        walk_hit (turn_at f kinds r limit solid) (λ (g : RayIntersection). Within g.time_of_impact limit)
        (λ k g s. cell_timed f kinds r limit solid k g l (turn_hit f kinds r limit solid k g s)) 25 (key_of f (Rattle.query.specs.Cast.point_at r clip.0)) h e in
        (w.0, le_trans h.time_of_impact limit reach w.1 (least_le_right clip.1 reach (le_right Single.zero clip.1 x) (le_right Single.zero reach z)))

    tested : (clip : Float × Float) → NotBelowZero clip.1 → (late : Bool)
        → (cond late (record { hit = None; visited = 0 }) (walk_within f kinds r solid clip.0 (Floats.float_min clip.1 reach))).hit ≡ Some h → Within h.time_of_impact reach
    tested clip x true e = none_is_not_some h e
    tested clip x false e = within clip x e

    go : (o : Option (Float × Float)) → clip_ray (chunk_box f) r ≡ o → (cast_clipped f kinds r reach solid o).hit ≡ Some h → Within h.time_of_impact reach
    go None s e = none_is_not_some h e
    go (Some clip) s e = tested clip (exit_not_below_zero (chunk_box f) r clip s) (lt reach clip.0) e
