-- A look starts where its camera is: its clip starts at zero, ends late, and its first key is that of the camera's cell.
use Rattle.std.proofs.Common.{◌≡◌, ℕ, ◌-◌, ◌/◌, ◌<◌, ◌≤◌, Bool, true, false, cond, T, ℤ, pos, ◌+ℤ◌, nat_abs, Some, Option, ap, ◌∙◌, inl, inr, arith}
use mathlib.Core.Path.{subst⁻¹}
use lib.Ieee.{Float, lt, eq}
use lib.Ieee.Bits.{is_false}
use Rattle.std.proofs.lemmas.Int.{ints}
use Rattle.std.proofs.lemmas.Bool.{cases_order}
use Rattle.std.specs.Float as Floats
use Rattle.scalar.specs.Single.{minus, times, plus, zero, one}
use Rattle.scalar.specs.Grid.{OnGrid, place, cell_key}
use Rattle.scalar.specs.Shares.{Close}
use Rattle.scalar.proofs.Order.{le_trans, le_of_eq, le_of_lt, not_lt_of_le, zero_below_one, zero_below_largest}
use Rattle.scalar.proofs.Grid.{between_planes, offset_zero}
use Rattle.scalar.proofs.Shares.{Late, close_is_late, largest_is_late, close_above_zero, close_below_largest, rising_enters, rising_entry_bounded, rising_leaves, falling_enters, falling_entry_bounded, falling_leaves, first_key}
use Rattle.math.specs.declared.Axis.{Axis}
use Rattle.math.specs.declared.Axis.TheVariants.{X, Y, Z}
use Rattle.math.specs.Vectors.{component}
use Rattle.query.specs.declared.ray.Ray.{Ray}
use Rattle.query.specs.Cast.{point_at}
use Rattle.boxes.specs.Clip.{face_time}
use Rattle.boxes.proofs.Slabs.{Cut, level, up, down, Cuts}
use Rattle.boxes.proofs.FromInside.{ByZero, StartsAtZero, clip_from_inside}
use Rattle.grid.specs.declared.frame.ChunkFrame.{ChunkFrame}
use Rattle.grid.specs.declared.voxel_key.VoxelKey.{VoxelKey}
use Rattle.voxels.specs.declared.chunk_cast.ChunkCast.{ChunkCast}
use Rattle.grid.specs.Lawful.{exponent_fits}
use Rattle.grid.specs.Frame.{lowest_key, chunk_box, key_float, nearest_place, place_of, key_of}
use Rattle.voxels.specs.Chunk.{no_hit, turn_at, walk, cast_clipped, chunk_cast}
use Rattle.voxels.proofs.Walk.{steps_left, turn_uses_one, visited_within, steps_left_within}
use Rattle.sight.specs.declared.grid_point.GridPoint.{GridPoint}
use Rattle.sight.specs.Power.{cube}
use Rattle.sight.specs.Sight.{sight_line, look_at, cell_of}
use Rattle.sight.proofs.Positions.{metres}
use Rattle.sight.proofs.Axes.{LookAxis, key_on, grid_number, look_axis}

-- what the look's exit from a slab is: after zero, and after all that is before the target
abbrev pub LateExit : Float → Type 0
LateExit f = T (lt zero f) × Late f

late_exit : (p q : ℕ) (f : Float) → 0 < q → q ≤ 1023 → q ≤ p → Close false p q f → LateExit f
late_exit p q f Q h l c = (close_above_zero p q f (omega arith) c, close_is_late p q f Q h l c)

-- ---- one axis: x is the camera, at the grid number g, y the target, at h, and lo and hi are the chunk's faces
module _ (k : ℕ) (x y lo hi : Float) (key : ℤ) (g h : ℕ) (K : k ≤ 20) (l : nat_abs key ≤ 4096) (G : g ≤ 1023) (H : h ≤ 1023)
    (X : OnGrid x k (place key g)) (Y : OnGrid y k (place key h)) (L : OnGrid lo k (place key 0)) (U : OnGrid hi k (place key 1024)) where
  axis_cut : Cut ByZero LateExit lo hi x (minus y x)
  axis_cut =
      let still-or-not = offset_zero k x y key g h K l (omega arith) (omega arith) X Y in
      elim (cases_order g h) [
        | inl e ↦ level (still-or-not.0 e) ((between_planes k x lo hi key g 0 1024 X L U).0 (omega arith) (omega arith))
        | inr (inl m) ↦
            let v = face_time hi x (minus y x) in
            let c = rising_leaves k x y lo hi key g h K l G H X Y L U m in
            up (still-or-not.1 (λ q. omega arith)) (record {
              enters = rising_enters k x y lo hi key g h K l G H X Y L U m;
              leaves = late_exit (1024 - g) (h - g) v (omega arith) (omega arith) (omega arith) c;
              near_bounded = rising_entry_bounded k x y lo hi key g h K l G H X Y L U m;
              far_bounded = close_below_largest false (1024 - g) (h - g) v (omega arith) (omega arith) c;
            })
        | inr (inr m) ↦
            let v = face_time lo x (minus y x) in
            let c = falling_leaves k x y lo hi key g h K l G H X Y L U m in
            down (still-or-not.1 (λ q. omega arith)) (record {
              enters = falling_enters k x y lo hi key g h K l G H X Y L U m;
              leaves = late_exit g (g - h) v (omega arith) (omega arith) (omega arith) c;
              near_bounded = falling_entry_bounded k x y lo hi key g h K l G H X Y L U m;
              far_bounded = close_below_largest false g (g - h) v (omega arith) (omega arith) c;
            })
      ]

nearest_place_of_cell : (key : ℤ) (i : ℕ) → i ≤ 8 → nearest_place (lowest_key key) (cell_key key i) ≡ i
nearest_place_of_cell key i h = grind (arith, ints)

-- ---- one axis of the chunk
record AxisStart (e key : ℤ) (size : Float) (g h : ℕ) : Type 0 where
  cut : Cut ByZero LateExit (times (key_float key 0) size) (times (key_float key 8) size) (metres e key g) (minus (metres e key h) (metres e key g))
  first : (start : Float) → T (eq start zero) → place_of key (plus (metres e key g) (times (minus (metres e key h) (metres e key g)) start)) size ≡ g / 128

axis_start : {e key : ℤ} {size : Float} {g h : ℕ} → LookAxis e key size g h → AxisStart e key size g h
unfolding place_of
axis_start {e} {key} {size} {g} {h} a =
    let k = nat_abs (e +ℤ pos 10) in
    let x = metres e key g in
    let y = metres e key h in
    record {
      cut = axis_cut k x y (times (key_float key 0) size) (times (key_float key 8) size) key g h a.unit_bound a.key_small a.camera_small a.target_small
          a.camera_exact a.target_exact (a.plane 0 (omega arith)) (a.plane 8 (omega arith));
      first = λ start z.
          ap (nearest_place (lowest_key key))
          (first_key k x y start size key g h a.unit_bound a.key_small a.camera_small a.target_small a.camera_exact a.target_exact z a.size_exact)
          ∙ nearest_place_of_cell key (g / 128) (omega arith);
    }

-- ---- the look
module _ (f : ChunkFrame) (e : ℤ) (range : T (exponent_fits (Some e))) (size : f.voxel_size ≡ cube e) (camera target : GridPoint) where
  abbrev line : Ray
  line = sight_line e f.key camera target

  start_on : (a : Axis) → AxisStart e (key_on f.key a) (component f.voxel_size a) (grid_number camera a) (grid_number target a)
  start_on a = axis_start (look_axis f e range size camera target a)

  chunk_cuts : Cuts ByZero LateExit (chunk_box f) line.origin line.dir
  unfolding chunk_box
  chunk_cuts X = (start_on X).cut
  chunk_cuts Y = (start_on Y).cut
  chunk_cuts Z = (start_on Z).cut

  pub look_clip : StartsAtZero LateExit (chunk_box f) line
  look_clip = clip_from_inside LateExit (λ t k. k.0) (chunk_box f) line (zero_below_largest, largest_is_late) chunk_cuts

  pub first_key_of_look : (start : Float) → T (eq start zero) → key_of f (point_at line start) ≡ cell_of camera
  first_key_of_look start z =
      ap (λ (i : ℕ). record { x = i; y = place_of f.key.y (point_at line start).y f.voxel_size.y; z = place_of f.key.z (point_at line start).z f.voxel_size.z }) ((start_on X).first start z)
      ∙ ap (λ (i : ℕ). record { x = camera.x / 128; y = i; z = place_of f.key.z (point_at line start).z f.voxel_size.z }) ((start_on Y).first start z)
      ∙ ap (λ (i : ℕ). record { x = camera.x / 128; y = camera.y / 128; z = i }) ((start_on Z).first start z)

  -- it is the walk from the camera's cell, up to the target or the exit from the chunk
  pub look_walks : (kinds : ℕ → ℕ) → look_at e f kinds camera target ≡ walk (turn_at f kinds line (Floats.float_min look_clip.end one) true) 25 (cell_of camera)
  unfolding chunk_cast
  look_walks kinds =
      let c = look_clip in
      let late : lt one c.start ≡ false = is_false (lt one c.start) (not_lt_of_le c.start one (le_trans c.start zero one (le_of_eq c.start zero c.start_zero) (le_of_lt zero one zero_below_one))) in
      let turn = turn_at f kinds line (Floats.float_min c.end one) true in
      ap (λ (o : Option (Float × Float)). cast_clipped f kinds line one true o) c.clip
      ∙ ap (λ (b : Bool). cond b (no_hit 0) (walk turn 25 (key_of f (point_at line c.start)))) late
      ∙ ap (λ (k : VoxelKey). walk turn 25 k) (first_key_of_look c.start c.start_zero)

  pub look_few : (kinds : ℕ → ℕ) → (look_at e f kinds camera target).visited ≤ 22
  look_few kinds =
      let limit = Floats.float_min look_clip.end one in
      let turn = turn_at f kinds line limit true in
      let v = visited_within turn (steps_left line.dir) (turn_uses_one f kinds line limit true) 25 (cell_of camera) in
      let s = steps_left_within line.dir (cell_of camera) (omega (arith, camera.ok.0)) (omega (arith, camera.ok.1.0)) (omega (arith, camera.ok.1.1)) in
      subst⁻¹ (λ (w : ChunkCast). w.visited ≤ 22) (look_walks kinds) (omega (arith, v, s))
