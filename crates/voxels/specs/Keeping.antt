-- What keeps a chunk's hit, over every store: a longer reach, and more filled cells.
use Rattle.std.specs.Prelude.{◌≡◌, ℕ, zero, suc, Bool, true, false, cond, T, is_some, Some, None, Option}
use Rattle.std.proofs.Math.Path.{refl}
use Rattle.std.proofs.Common.{sym, ◌∙◌, subst, arith}
use Rattle.std.specs.Float.Ieee.{Float, lt, le}
use Rattle.std.specs.Float as Floats
use Rattle.scalar.specs.Single.{NotBelowZero}
use Rattle.scalar.specs.Single as Single
use Rattle.scalar.proofs.Order.{le_refl, le_right, lt_of_le_of_lt, least_mono, least_number}
use Rattle.math.specs.declared.Vector.{Vector}
use Rattle.math.specs.Vectors.{min_position}
use Rattle.query.specs.declared.ray.Ray.{Ray}
use Rattle.query.specs.declared.ray.RayIntersection.{RayIntersection}
use Rattle.query.specs.Cast.{and_then, point_at}
use Rattle.boxes.specs.Clip.{clip_ray}
use Rattle.boxes.specs.Box.{box_cast}
use Rattle.boxes.specs.BoxLemmas.{box_kept}
use Rattle.grid.specs.declared.frame.ChunkFrame.{ChunkFrame}
use Rattle.grid.specs.declared.voxel_key.VoxelKey.{VoxelKey}
use Rattle.voxels.specs.declared.chunk_cast.Turn.{Turn}
use Rattle.voxels.specs.declared.chunk_cast.Turn.TheVariants.{Hit, Stop, Step}
use Rattle.grid.specs.Frame.{chunk_box, cell_box, cell_number, flat_id, key_of}
use Rattle.voxels.specs.Chunk.{stops, named, boxed_hit, cell_hit, step_times, all_later, next_key, step_to, step_from, or_else, turn_at, no_hit, onward, walk, walk_within, cast_clipped, chunk_cast, MoreFilled, OnOtherCells}
use Rattle.grid.proofs.Bounds.{number_bound}
use Rattle.voxels.specs.Laws.{never, exit_not_below_zero}

-- ---- walks

-- from a turn to one that keeps it: a hit stays a hit, and a step is the same step, unless it has become a hit
abbrev Keeps : Turn → Turn → Type 0
Keeps (Hit h) (Hit g) = Unit {0}
Keeps (Hit h) Stop = ⊥
Keeps (Hit h) (Step m) = ⊥
Keeps Stop u = Unit {0}
Keeps (Step m) (Hit g) = Unit {0}
Keeps (Step m) Stop = ⊥
Keeps (Step m) (Step n) = m ≡ n

walk_kept : (t u : VoxelKey → Turn) → ((k : VoxelKey) → Keeps (t k) (u k)) → (n : ℕ) (k : VoxelKey) → is_some (walk t n k).hit ≡ true → is_some (walk u n k).hit ≡ true
unfolding walk
walk_kept t u keeps zero k e = e
walk_kept t u keeps (suc n) k e = go (walk_kept t u keeps n) (t k) (u k) (keeps k) e
  where
    go : ((m : VoxelKey) → is_some (walk t n m).hit ≡ true → is_some (walk u n m).hit ≡ true) → (a b : Turn) → Keeps a b
        → is_some (onward (walk t n) a).hit ≡ true → is_some (onward (walk u n) b).hit ≡ true
    go rest (Hit h) (Hit g) s e = refl
    go rest (Hit h) Stop s e = absurd s
    go rest (Hit h) (Step m) s e = absurd s
    go rest Stop b s e = never cc
    go rest (Step m) (Hit g) s e = refl
    go rest (Step m) Stop s e = absurd s
    go rest (Step m) (Step o) s e = rest o (subst (λ (i : VoxelKey). is_some (walk t n i).hit ≡ true) s e)

-- ---- turns
named_some : (face : ℕ) (o : Option RayIntersection) → is_some (and_then o (named face)) ≡ is_some o
named_some face None = refl
named_some face (Some h) = refl

all_later_kept : (times : Vector) (limit longer : Float) → T (le limit longer) → all_later times longer ≡ true → all_later times limit ≡ true
all_later_kept times limit longer l e =
    let x : T (lt longer times.x) → T (lt limit times.x) = lt_of_le_of_lt limit longer times.x l in
    let y : T (lt longer times.y) → T (lt limit times.y) = lt_of_le_of_lt limit longer times.y l in
    let z : T (lt longer times.z) → T (lt limit times.z) = lt_of_le_of_lt limit longer times.z l in
    grind arith

step_keeps : (k : VoxelKey) (d times : Vector) (limit longer : Float) → T (le limit longer) → Keeps (step_to (step_from k d times limit)) (step_to (step_from k d times longer))
unfolding step_from
step_keeps k d times limit longer l = go (all_later times limit) (all_later times longer) (all_later_kept times limit longer l) (next_key k d (min_position times))
  where
    go : (a b : Bool) → (b ≡ true → a ≡ true) → (o : Option VoxelKey) → Keeps (step_to (cond a None o)) (step_to (cond b None o))
    go true b s o = tt
    go false true s o = never (let e : false ≡ true = s refl in cc)
    go false false s None = tt
    go false false s (Some m) = refl

hit_or_step : (t : Turn) (h : RayIntersection) → Keeps t (Hit h)
hit_or_step (Hit g) h = tt
hit_or_step Stop h = tt
hit_or_step (Step m) h = tt

-- the same ray among more filled cells and under a longer limit
module _ (f : ChunkFrame) (kinds more : ℕ → ℕ) (filled : MoreFilled kinds more) (r : Ray) (limit longer : Float) (l : T (le limit longer)) (solid : Bool) (k : VoxelKey) where
  cell_kept : is_some (cell_hit f kinds r limit solid k) ≡ true → is_some (cell_hit f more r longer solid k) ≡ true
  unfolding cell_hit
  cell_kept = go (cell_number k) refl
    where
      boxed : (n : ℕ) (a b : Bool) → (a ≡ true → b ≡ true) → is_some (cond a (and_then (box_cast (cell_box f k) r limit solid) (named (flat_id f n))) None) ≡ true
          → is_some (cond b (and_then (box_cast (cell_box f k) r longer solid) (named (flat_id f n))) None) ≡ true
      boxed n true true s e =
          named_some (flat_id f n) (box_cast (cell_box f k) r longer solid)
          ∙ box_kept (cell_box f k) r limit longer solid l (sym (named_some (flat_id f n) (box_cast (cell_box f k) r limit solid)) ∙ e)
      boxed n true false s e = never (let q : false ≡ true = s refl in cc)
      boxed n false b s e = never cc

      go : (o : Option ℕ) → cell_number k ≡ o → is_some (and_then o (boxed_hit f kinds r limit solid k)) ≡ true → is_some (and_then o (boxed_hit f more r longer solid k)) ≡ true
      go None q e = e
      go (Some n) q e = boxed n (stops (kinds n)) (stops (more n)) (filled n (number_bound k n q)) e

  turn_keeps : Keeps (turn_at f kinds r limit solid k) (turn_at f more r longer solid k)
  unfolding turn_at
  turn_keeps = go (cell_hit f kinds r limit solid k) (cell_hit f more r longer solid k) cell_kept
    where
      go : (a b : Option RayIntersection) → (is_some a ≡ true → is_some b ≡ true)
          → Keeps (or_else a (step_to (step_from k r.dir (step_times (cell_box f k) r) limit))) (or_else b (step_to (step_from k r.dir (step_times (cell_box f k) r) longer)))
      go None None s = step_keeps k r.dir (step_times (cell_box f k) r) limit longer l
      go a (Some g) s = hit_or_step (or_else a (step_to (step_from k r.dir (step_times (cell_box f k) r) limit))) g
      go (Some h) None s = never (let e : false ≡ true = s refl in cc)

-- ---- casts: the walk begins under `longer` too, and its limit is no earlier
module _ (f : ChunkFrame) (kinds more : ℕ → ℕ) (filled : MoreFilled kinds more) (r : Ray) (reach longer : Float) (solid : Bool)
    (begins : (start : Float) → lt longer start ≡ true → lt reach start ≡ true)
    (limits : (end : Float) → NotBelowZero end → T (le (Floats.float_min end reach) (Floats.float_min end longer))) where
  cast_kept : is_some (chunk_cast f kinds r reach solid).hit ≡ true → is_some (chunk_cast f more r longer solid).hit ≡ true
  unfolding chunk_cast
  cast_kept e = go (clip_ray (chunk_box f) r) refl e
    where
      tested : (clip : Float × Float) → NotBelowZero clip.1 → (a b : Bool) → (b ≡ true → a ≡ true)
          → is_some (cond a (no_hit 0) (walk_within f kinds r solid clip.0 (Floats.float_min clip.1 reach))).hit ≡ true
          → is_some (cond b (no_hit 0) (walk_within f more r solid clip.0 (Floats.float_min clip.1 longer))).hit ≡ true
      tested clip x true b s e = never cc
      tested clip x false true s e = never (let q : false ≡ true = s refl in cc)
      tested clip x false false s e =
          let limit = Floats.float_min clip.1 reach in
          let later = Floats.float_min clip.1 longer in
          walk_kept (turn_at f kinds r limit solid) (turn_at f more r later solid) (turn_keeps f kinds more filled r limit later (limits clip.1 x) solid) 25 (key_of f (point_at r clip.0)) e

      go : (o : Option (Float × Float)) → clip_ray (chunk_box f) r ≡ o → is_some (cast_clipped f kinds r reach solid o).hit ≡ true → is_some (cast_clipped f more r longer solid o).hit ≡ true
      go None s e = e
      go (Some clip) s e = tested clip (exit_not_below_zero (chunk_box f) r clip s) (lt reach clip.0) (lt longer clip.0) (begins clip.0) e

-- the keeping law
pub chunk_kept : (f : ChunkFrame) (kinds : ℕ → ℕ) (r : Ray) (reach longer : Float) (solid : Bool)
    → T (le reach longer) → is_some (chunk_cast f kinds r reach solid).hit ≡ true → is_some (chunk_cast f kinds r longer solid).hit ≡ true
chunk_kept f kinds r reach longer solid l =
    cast_kept f kinds kinds (λ n i s. s) r reach longer solid begins (λ end x. least_mono end reach longer (le_right Single.zero end x) l)
  where
    begins : (start : Float) → lt longer start ≡ true → lt reach start ≡ true
    begins start e = let k : T (lt longer start) → T (lt reach start) = lt_of_le_of_lt reach longer start l in grind arith

-- a hit is kept where cells are filled; a NaN for a reach is no limit
chunk_filled : (f : ChunkFrame) (kinds more : ℕ → ℕ) (r : Ray) (reach : Float) (solid : Bool) → MoreFilled kinds more
    → is_some (chunk_cast f kinds r reach solid).hit ≡ true → is_some (chunk_cast f more r reach solid).hit ≡ true
chunk_filled f kinds more r reach solid filled =
    cast_kept f kinds more filled r reach reach solid (λ start e. e)
    (λ end x. le_refl (Floats.float_min end reach) (least_number end reach (le_right Single.zero end x)))

not_some : (a b : Bool) → (a ≡ true → b ≡ true) → b ≡ false → a ≡ false
not_some true b h e = sym (h refl) ∙ e
not_some false b h e = refl

pub chunk_on_other_cells : (f : ChunkFrame) (kinds : ℕ → ℕ) (r : Ray) (reach : Float) (solid : Bool) → OnOtherCells f kinds r reach solid (chunk_cast f kinds r reach solid)
chunk_on_other_cells f kinds r reach solid = record {
  filling = λ more filled. chunk_filled f kinds more r reach solid filled;
  emptying = λ fewer filled. not_some (is_some (chunk_cast f fewer r reach solid).hit) (is_some (chunk_cast f kinds r reach solid).hit) (chunk_filled f fewer kinds r reach solid filled);
}
