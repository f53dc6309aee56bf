-- The walk ends: each step uses up one of the at most 24 that the direction allows, so 25 turns serve.
use Rattle.std.proofs.Common.{◌≡◌, ℕ, zero, suc, ◌+◌, ◌-◌, ◌<◌, ◌≤◌, Bool, true, false, cond, ℤ, Some, None, Option, sym, refl, ap, ◌∙◌, subst, arith}
use lib.Ieee.{Float, lt}
use Rattle.scalar.specs.Single as Single
use Rattle.math.specs.declared.Vector.{Vector}
use Rattle.math.specs.declared.Axis.{Axis}
use Rattle.math.specs.declared.Axis.TheVariants.{X, Y, Z}
use Rattle.math.specs.Vectors.{min_position}
use Rattle.query.specs.declared.ray.Ray.{Ray}
use Rattle.query.specs.declared.ray.RayIntersection.{RayIntersection}
use Rattle.query.proofs.Options.{through}
use Rattle.std.proofs.lemmas.Bool.Decides.{nat_tests}
use Rattle.std.proofs.lemmas.Int.{ints}
use Rattle.grid.specs.declared.frame.ChunkFrame.{ChunkFrame}
use Rattle.grid.specs.declared.voxel_key.VoxelKey.{VoxelKey}
use Rattle.voxels.specs.declared.chunk_cast.ChunkCast.{ChunkCast}
use Rattle.voxels.specs.declared.chunk_cast.Turn.{Turn}
use Rattle.voxels.specs.declared.chunk_cast.Turn.TheVariants.{Hit, Stop, Step}
use Rattle.grid.specs.Frame.{cell_box, nearest_place, place_of, lowest_key}
use Rattle.voxels.specs.Chunk.{cell_hit, step_times, all_later, next_place, next_key, at_x, at_y, at_z, step_to, step_from, or_else, turn_at, counted, onward, walk}

-- ---- the steps that a place, and a key, leave in a direction
abbrev pub steps_on : Float → ℕ → ℕ
steps_on d i = cond (lt Single.zero d) (7 - i) i

abbrev pub steps_left : Vector → VoxelKey → ℕ
steps_left d k = steps_on d.x k.x + steps_on d.y k.y + steps_on d.z k.z

next_place_uses_one : (i j : ℕ) (d : Float) → next_place i d ≡ Some j → suc (steps_on d j) ≡ steps_on d i
unfolding next_place
next_place_uses_one i j d e = grind (arith, nat_tests)

next_key_uses_one : (k m : VoxelKey) (d : Vector) (a : Axis) → next_key k d a ≡ Some m → suc (steps_left d m) ≡ steps_left d k
next_key_uses_one k m d a e = go a e
  where
    same : (n : VoxelKey) → ◌≡◌ {A = Option VoxelKey} (Some n) (Some m) → suc (steps_left d n) ≡ steps_left d k → suc (steps_left d m) ≡ steps_left d k
    same n q h = let s : n ≡ m = cc in subst (λ (o : VoxelKey). suc (steps_left d o) ≡ steps_left d k) s h

    go : (a : Axis) → next_key k d a ≡ Some m → suc (steps_left d m) ≡ steps_left d k
    go X e =
        let p = through (next_place k.x d.x) (at_x k) m e in
        same (record { x = p.0; y = k.y; z = k.z }) p.2 (omega (arith, next_place_uses_one k.x p.0 d.x p.1))
    go Y e =
        let p = through (next_place k.y d.y) (at_y k) m e in
        same (record { x = k.x; y = p.0; z = k.z }) p.2 (omega (arith, next_place_uses_one k.y p.0 d.y p.1))
    go Z e =
        let p = through (next_place k.z d.z) (at_z k) m e in
        same (record { x = k.x; y = k.y; z = p.0 }) p.2 (omega (arith, next_place_uses_one k.z p.0 d.z p.1))

step_is_next_key : (o : Option VoxelKey) (m : VoxelKey) → step_to o ≡ Step m → o ≡ Some m
step_is_next_key None m e = let z : ◌≡◌ {A = ℕ} 0 1 = cc in absurd (omega arith)
step_is_next_key (Some k) m e = cc

step_uses_one : (k m : VoxelKey) (d times : Vector) (limit : Float) → step_to (step_from k d times limit) ≡ Step m → suc (steps_left d m) ≡ steps_left d k
unfolding step_from
step_uses_one k m d times limit = go (all_later times limit)
  where
    go : (b : Bool) → step_to (cond b None (next_key k d (min_position times))) ≡ Step m → suc (steps_left d m) ≡ steps_left d k
    go true e = let z : ◌≡◌ {A = ℕ} 0 1 = cc in absurd (omega arith)
    go false e = next_key_uses_one k m d (min_position times) (step_is_next_key (next_key k d (min_position times)) m e)

pub turn_uses_one : (f : ChunkFrame) (kinds : ℕ → ℕ) (r : Ray) (limit : Float) (solid : Bool) (k m : VoxelKey)
    → turn_at f kinds r limit solid k ≡ Step m → suc (steps_left r.dir m) ≡ steps_left r.dir k
unfolding turn_at
turn_uses_one f kinds r limit solid k m = go (cell_hit f kinds r limit solid k)
  where
    go : (o : Option RayIntersection) → or_else o (step_to (step_from k r.dir (step_times (cell_box f k) r) limit)) ≡ Step m → suc (steps_left r.dir m) ≡ steps_left r.dir k
    go None e = step_uses_one k m r.dir (step_times (cell_box f k) r) limit e
    go (Some h) e = let z : ◌≡◌ {A = ℕ} 0 1 = cc in absurd (omega arith)

nearest_place_few : (low key : ℤ) → nearest_place low key ≤ 8
nearest_place_few low key = grind (arith, ints)

pub place_few : (key : ℤ) (p size : Float) → place_of key p size ≤ 8
unfolding place_of
place_few key p size = nearest_place_few (lowest_key key) _

-- ---- a walk that has gone on for some turns
abbrev pub after : ℕ → ChunkCast → ChunkCast
after n c = record { hit = c.hit; visited = n + c.visited }

-- one more turn brings the whole on as that turn says
pub turned : (turn : VoxelKey → Turn) (n : ℕ) (k : VoxelKey) (whole : ChunkCast) (t : Turn) → n < 25 → after n (walk turn (25 - n) k) ≡ whole → turn k ≡ t
    → after n (onward (walk turn (25 - (n + 1))) t) ≡ whole
unfolding walk
turned turn n k whole t h w e =
    let s : 25 - n ≡ suc (25 - (n + 1)) = omega arith in
    ap (λ (u : Turn). after n (onward (walk turn (25 - (n + 1))) u)) (sym e) ∙ ap (λ (m : ℕ). after n (walk turn m k)) (sym s) ∙ w

pub after_step : (n : ℕ) (c : ChunkCast) → after n (counted c) ≡ after (n + 1) c
after_step n c = let e : n + suc c.visited ≡ n + 1 + c.visited = omega arith in rw e refl

pub visited_few : (turn : VoxelKey → Turn) (n : ℕ) (k : VoxelKey) → (walk turn n k).visited ≤ n
unfolding walk
visited_few turn zero k = omega arith
visited_few turn (suc n) k = go (λ m. visited_few turn n m) (turn k)
  where
    go : ((m : VoxelKey) → (walk turn n m).visited ≤ n) → (t : Turn) → (onward (walk turn n) t).visited ≤ suc n
    go rest (Hit h) = omega arith
    go rest Stop = omega arith
    go rest (Step m) = omega (arith, rest m)

-- and a walk visits one key more than the steps that were left, at most
pub visited_within : (turn : VoxelKey → Turn) (left : VoxelKey → ℕ) → ((k m : VoxelKey) → turn k ≡ Step m → suc (left m) ≡ left k)
    → (n : ℕ) (k : VoxelKey) → (walk turn n k).visited ≤ suc (left k)
unfolding walk
visited_within turn left uses zero k = omega arith
visited_within turn left uses (suc n) k = go (λ m. visited_within turn left uses n m) (turn k) refl
  where
    go : ((m : VoxelKey) → (walk turn n m).visited ≤ suc (left m)) → (t : Turn) → turn k ≡ t → (onward (walk turn n) t).visited ≤ suc (left k)
    go rest (Hit h) e = omega arith
    go rest Stop e = omega arith
    go rest (Step m) e = omega (arith, rest m, uses k m e)

-- ---- 21 steps at most from a key within the chunk
steps_on_within : (d : Float) (i : ℕ) → i ≤ 7 → steps_on d i ≤ 7
steps_on_within d i h = grind (arith, nat_tests)

pub steps_left_within : (d : Vector) (k : VoxelKey) → k.x ≤ 7 → k.y ≤ 7 → k.z ≤ 7 → steps_left d k ≤ 21
steps_left_within d k x y z = omega (arith, steps_on_within d.x k.x x, steps_on_within d.y k.y y, steps_on_within d.z k.z z)
