-- The step of a look in floats is a least step of the exact line.
use Rattle.std.proofs.Common.{◌≡◌, ℕ, ◌*◌, ◌^◌, ◌<◌, ◌≤◌, Bool, true, false, cond, not, ◌&&◌, T, ℤ, pos, ◌+ℤ◌, nat_abs, Some, None, Option, sym, refl, ap, ◌∙◌, inl, inr, arith, T_not}
use mathlib.Core.Path.{subst⁻¹}
use lib.Ieee.{Float, unlike, lt, le}
use Rattle.std.proofs.lemmas.Bool.{cases_lt, cond_both, and_parts, and_cases, ltb-true, ltb-false}
use Rattle.scalar.specs.Single.{plus, minus, over, one, two, largest, Number}
use Rattle.scalar.specs.Shares.{Close, NotNegative}
use Rattle.scalar.proofs.Order.{le_trans, le_of_lt, not_lt_of_le, le_of_not_lt, le_left, one_below_largest}
use Rattle.scalar.proofs.Values.{value_number, largest_value}
use Rattle.scalar.proofs.Shares.{Late, quotient_close, close_number, close_above_one}
use Rattle.math.specs.declared.Vector.{Vector}
use Rattle.math.specs.declared.Axis as Math
use Rattle.math.specs.declared.Axis.TheVariants as MathAxis
use Rattle.math.specs.Vectors.{component, min_position}
use Rattle.query.specs.declared.ray.Ray.{Ray}
use Rattle.grid.specs.declared.frame.ChunkFrame.{ChunkFrame}
use Rattle.grid.specs.declared.voxel_key.VoxelKey.{VoxelKey}
use Rattle.voxels.specs.declared.chunk_cast.Turn.{Turn}
use Rattle.voxels.specs.declared.chunk_cast.Turn.TheVariants.{Stop, Step}
use Rattle.grid.specs.Lawful.{exponent_fits}
use Rattle.grid.specs.Frame.{centre, cell_box}
use Rattle.voxels.specs.Chunk.{step_time, step_times, all_later, next_place, next_key, step_to, step_from}
use Rattle.line.specs.Line.{Point, Cell, Axis, X, Y, Z, coordinate, index, Share, Within, TouchesAt}
use Rattle.line.proofs.Shares.{fraction_trans}
use Rattle.line.proofs.StepFractions.{fraction_not_empty, step_fraction_level, no_later_step_trans, choice_to_end, choice_to_step}
use Rattle.line.specs.Walk.{InGrid, Choice, Chooses}
use Rattle.line.proofs.Walk.{touched_in_grid}
use Rattle.line.specs.StepFractions.{StepFraction, NoLaterStep, step_fraction, step_on, next_index, next_on, cell_at}
use Rattle.sight.specs.declared.grid_point.GridPoint.{GridPoint}
use Rattle.sight.specs.Power.{cube}
use Rattle.sight.specs.Sight.{sight_line}
use Rattle.sight.proofs.Positions.{metres}
use Rattle.sight.proofs.Axes.{LookAxis, key_on, grid_number, look_axis}
use Rattle.looks.specs.Units.{point_of, cell_of_key, key_of_cell}
use Rattle.looks.proofs.Units.{in_grid, axis_of, line_axis}
use Rattle.looks.proofs.StepTimes.{StepTimeOf, moves, still, step_time_lt, next_place_exact, step_time_exact}
use Rattle.looks.proofs.LookEnd.{LimitAtTarget, look_limit, limit_at_target}

-- ---- three axes
abbrev time_on : Vector → Axis → Float
time_on v i = component v (axis_of i)

on_three : (P : Axis → Type 0) → P X → P Y → P Z → (j : Axis) → P j
on_three P a b c X = a
on_three P a b c Y = b
on_three P a b c Z = c

-- v holds the times of the three steps from the cell c
module _ (o t : Point) (c : Cell) (v : Vector) (at : (i : Axis) → StepTimeOf (step_on o t c i) (time_on v i)) where
  abbrev NoLaterOn : Axis → Axis → Type 0
  NoLaterOn i j = NoLaterStep (step_on o t c i) (step_on o t c j)

  no_later_of_lt : (i j : Axis) → lt (time_on v i) (time_on v j) ≡ true → NoLaterOn i j
  no_later_of_lt i j h =
      let l = ltb-true ((step_on o t c i).gap * (step_on o t c j).size) ((step_on o t c j).gap * (step_on o t c i).size) (sym (step_time_lt (step_on o t c i) (step_on o t c j) (time_on v i) (time_on v j) (at i) (at j)) ∙ h) in
      omega arith

  no_later_of_not_lt : (i j : Axis) → lt (time_on v i) (time_on v j) ≡ false → NoLaterOn j i
  no_later_of_not_lt i j h =
      ltb-false ((step_on o t c i).gap * (step_on o t c j).size) ((step_on o t c j).gap * (step_on o t c i).size) (sym (step_time_lt (step_on o t c i) (step_on o t c j) (time_on v i) (time_on v j) (at i) (at j)) ∙ h)

  -- the position of the least time is an axis of least step fraction
  min_position_least : (j : Axis) → NoLaterStep (step_on o t c (line_axis (min_position v))) (step_on o t c j)
  unfolding min_position
  min_position_least =
      let Least = λ (a : Math.Axis). (j : Axis) → NoLaterOn (line_axis a) j in
      let trans = no_later_step_trans o t c in
      cond_both (lt v.y v.x) (cond (lt v.z v.y) MathAxis.Z MathAxis.Y) (cond (lt v.z v.x) MathAxis.Z MathAxis.X) Least
      (λ h. cond_both (lt v.z v.y) MathAxis.Z MathAxis.Y Least
      (λ k. on_three (NoLaterOn Z) (trans Z Y X (no_later_of_lt Z Y k) (no_later_of_lt Y X h)) (no_later_of_lt Z Y k) (omega arith))
      (λ k. on_three (NoLaterOn Y) (no_later_of_lt Y X h) (omega arith) (no_later_of_not_lt Z Y k)))
      (λ h. cond_both (lt v.z v.x) MathAxis.Z MathAxis.X Least
      (λ k. on_three (NoLaterOn Z) (no_later_of_lt Z X k) (trans Z X Y (no_later_of_lt Z X k) (no_later_of_not_lt Y X h)) (omega arith))
      (λ k. on_three (NoLaterOn X) (omega arith) (no_later_of_not_lt Y X h) (no_later_of_not_lt Z X k)))

-- ---- times against one and against the limit
step_time_number : (f : StepFraction) (v : Float) → StepTimeOf f v → Number v
step_time_number f v (moves s t x y a n e) = subst⁻¹ Number e (close_number (unlike s t) f.gap f.size (over x y) (quotient_close s t f.gap f.size x y a))
step_time_number f v (still p q e) = subst⁻¹ Number e (value_number largest false (16777215 * 2 ^ 104) 1 largest_value)

-- a fraction past one has a time past one
past_one : (f : StepFraction) (v : Float) → StepTimeOf f v → f.size < f.gap → T (lt one v)
past_one f v (moves s t x y a n e) h = subst⁻¹ (λ (w : Float). T (lt one w)) e (by_sign (unlike s t) n (quotient_close s t f.gap f.size x y a))
  where
    by_sign : (b : Bool) → NotNegative b f.gap → Close b f.gap f.size (over x y) → T (lt one (over x y))
    by_sign false n c = close_above_one f.gap f.size (over x y) a.q_least a.q_most h c
    by_sign true n c = absurd (omega (arith, n refl))
past_one f v (still p q e) h = subst⁻¹ (λ (w : Float). T (lt one w)) e one_below_largest

-- a time up to one has a fraction up to one
within_one : (f : StepFraction) (v : Float) → StepTimeOf f v → T (le v one) → f.gap ≤ f.size
within_one f v a h = elim (cases_lt f.size f.gap) [
  | inl l ↦ absurd (T_not (lt one v) (not_lt_of_le v one h) (past_one f v a l))
  | inr l ↦ l
]

-- a time past the limit has a fraction at one or later
past_limit : (f : StepFraction) (v limit : Float) → StepTimeOf f v → (0 < f.size → Late limit) → T (lt limit v) → f.size ≤ f.gap
past_limit f v limit (still p q e) late h = omega arith
past_limit f v limit (moves s t x y a n e) late h = elim (cases_lt f.gap f.size) [
  | inl l ↦
      let k : T (lt v limit) = subst⁻¹ (λ (w : Float). T (lt w limit)) e (late a.q_least (unlike s t) f.gap f.size (over x y) a.q_most l (quotient_close s t f.gap f.size x y a)) in
      absurd (T_not (lt limit v) (not_lt_of_le v limit (le_of_lt v limit k)) h)
  | inr l ↦ l
]

step_moves : (o t k : ℕ) → 0 < (step_fraction o t k).size → o ≡ t → ⊥
step_moves o t k h e = omega (arith, h, ap (λ (f : StepFraction). f.size) (step_fraction_level o t k e))

all_later_on : (v : Vector) (limit : Float) → all_later v limit ≡ true → (j : Axis) → lt limit (time_on v j) ≡ true
all_later_on v limit h =
    let p = and_parts (lt limit v.x) (lt limit v.y && lt limit v.z) h in
    let q = and_parts (lt limit v.y) (lt limit v.z) p.1 in
    on_three (λ j. lt limit (time_on v j) ≡ true) p.0 q.0 q.1

some_not_later : (v : Vector) (limit : Float) → all_later v limit ≡ false → (j : Axis) × (lt limit (time_on v j) ≡ false)
some_not_later v limit h = elim (and_cases (lt limit v.x) (lt limit v.y && lt limit v.z) h) [
  | inl p ↦ (X, p)
  | inr p ↦ elim (and_cases (lt limit v.y) (lt limit v.z) p) [ inl q ↦ (Y, q) | inr q ↦ (Z, q) ]
]

-- ---- at a touched cell: none where all times are past the limit, else along the position of the least time
module _ (o t : Point) (c : Cell) (e : Share) (a : TouchesAt o t c e) (l : InGrid t) (v : Vector) (at : (i : Axis) → StepTimeOf (step_on o t c i) (time_on v i))
    (limit : Float) (ends : LimitAtTarget o t limit) where
  abbrev first : Axis
  first = line_axis (min_position v)

  first_within_one : (j : Axis) → lt limit (time_on v j) ≡ false → (step_on o t c first).gap ≤ (step_on o t c first).size
  first_within_one j h =
      let w = time_on v j in
      let f = step_on o t c first in
      let g = step_on o t c j in
      let k : T (le w limit) = le_of_not_lt limit w (le_left limit one ends.no_later) (step_time_number g w (at j)) (subst⁻¹ (λ (b : Bool). T (not b)) h tt) in
      let m : g.gap ≤ g.size = within_one g w (at j) (le_trans w limit one k ends.no_later) in
      let z = fraction_not_empty (coordinate o j) (coordinate t j) (index c j) in
      omega (arith, fraction_trans f.gap f.size g.gap g.size 1 1 z (min_position_least o t c v at j) (omega arith))

  choice_by_times : Choice o t c (cond (all_later v limit) None (cell_at c first (next_on o t c first)))
  choice_by_times =
      cond_both (all_later v limit) None (cell_at c first (next_on o t c first)) (Choice o t c)
      (λ h. choice_to_end o t c e a l first (min_position_least o t c v at)
      (past_limit (step_on o t c first) (time_on v first) limit (at first)
      (λ p. ends.no_earlier first (step_moves (coordinate o first) (coordinate t first) (index c first) p))
      (subst⁻¹ T (all_later_on v limit h first) tt)))
      (λ h. let p = some_not_later v limit h in
      choice_to_step o t c e a l first (min_position_least o t c v at) (first_within_one p.0 p.1) (next_on o t c first) refl)

-- ---- one axis of the chunk, from the cell n on
record AxisStep (e key : ℤ) (size : Float) (g h n : ℕ) : Type 0 where
  time : (s : Share) → Within s g h n
      → StepTimeOf (step_fraction g h n)
      (step_time (minus (centre key n size) (over size two)) (plus (centre key n size) (over size two)) (metres e key g) (minus (metres e key h) (metres e key g)))
  next : next_place n (minus (metres e key h) (metres e key g)) ≡ next_index g h n

axis_step : {e key : ℤ} {size : Float} {g h : ℕ} → LookAxis e key size g h → (n : ℕ) → n ≤ 7 → AxisStep e key size g h n
axis_step {e} {key} {size} {g} {h} a n N =
    let u = nat_abs (e +ℤ pos 10) in
    let x = metres e key g in
    let y = metres e key h in
    let lo = minus (centre key n size) (over size two) in
    let hi = plus (centre key n size) (over size two) in
    record {
      time = step_time_exact u x y lo hi key g h n a.unit_bound a.key_small a.camera_small a.target_small N a.camera_exact a.target_exact (a.low_face n N) (a.high_face n N);
      next = next_place_exact u x y lo hi key g h n a.unit_bound a.key_small a.camera_small a.target_small N a.camera_exact a.target_exact (a.low_face n N) (a.high_face n N);
    }

-- ---- the rule: the cell that the step in floats leads to, along a ray up to a limit
abbrev pub stepped_to : Option VoxelKey → Option Cell
stepped_to None = None
stepped_to (Some k) = Some (cell_of_key k)

unfoldable pub float_rule : ChunkFrame → Ray → Float → Cell → Option Cell
float_rule f r limit c = stepped_to (step_from (key_of_cell c) r.dir (step_times (cell_box f (key_of_cell c)) r) limit)

abbrev pub turn_to : Option Cell → Turn
turn_to None = Stop
turn_to (Some d) = Step (key_of_cell d)

turn_back : (o : Option VoxelKey) → step_to o ≡ turn_to (stepped_to o)
turn_back None = refl
turn_back (Some k) = refl

pub step_by_rule : (f : ChunkFrame) (r : Ray) (limit : Float) (c : Cell) → step_to (step_from (key_of_cell c) r.dir (step_times (cell_box f (key_of_cell c)) r) limit) ≡ turn_to (float_rule f r limit c)
unfolding float_rule
step_by_rule f r limit c = turn_back (step_from (key_of_cell c) r.dir (step_times (cell_box f (key_of_cell c)) r) limit)

stepped_unless : (b : Bool) (o : Option VoxelKey) → stepped_to (cond b None o) ≡ cond b None (stepped_to o)
stepped_unless true o = refl
stepped_unless false o = refl

stepped_along : (c : Cell) (d : Vector) (a : Math.Axis) (y : Option ℕ) → next_place (index c (line_axis a)) (component d a) ≡ y → stepped_to (next_key (key_of_cell c) d a) ≡ cell_at c (line_axis a) y
stepped_along c d MathAxis.X None e = rw e
stepped_along c d MathAxis.X (Some n) e = rw e
stepped_along c d MathAxis.Y None e = rw e
stepped_along c d MathAxis.Y (Some n) e = rw e
stepped_along c d MathAxis.Z None e = rw e
stepped_along c d MathAxis.Z (Some n) e = rw e

-- ---- the look
module _ (f : ChunkFrame) (e : ℤ) (range : T (exponent_fits (Some e))) (size : f.voxel_size ≡ cube e) (camera target : GridPoint) where
  abbrev line : Ray
  line = sight_line e f.key camera target

  abbrev from : Point
  from = point_of camera

  abbrev to : Point
  to = point_of target

  module _ (c : Cell) (few : (i : Axis) → index c i ≤ 7) where
    exact_step_on : (a : Math.Axis) → AxisStep e (key_on f.key a) (component f.voxel_size a) (grid_number camera a) (grid_number target a) (index c (line_axis a))
    exact_step_on a = axis_step (look_axis f e range size camera target a) (index c (line_axis a)) (few (line_axis a))

    abbrev times_at : Vector
    times_at = step_times (cell_box f (key_of_cell c)) line

    step_times_exact : (s : Share) → TouchesAt from to c s → (i : Axis) → StepTimeOf (step_on from to c i) (time_on times_at i)
    unfolding cell_box
    step_times_exact s a X = (exact_step_on MathAxis.X).time s (a X)
    step_times_exact s a Y = (exact_step_on MathAxis.Y).time s (a Y)
    step_times_exact s a Z = (exact_step_on MathAxis.Z).time s (a Z)

    next_key_exact : (a : Math.Axis) → stepped_to (next_key (key_of_cell c) line.dir a) ≡ cell_at c (line_axis a) (next_on from to c (line_axis a))
    next_key_exact MathAxis.X = stepped_along c line.dir MathAxis.X (next_on from to c X) (exact_step_on MathAxis.X).next
    next_key_exact MathAxis.Y = stepped_along c line.dir MathAxis.Y (next_on from to c Y) (exact_step_on MathAxis.Y).next
    next_key_exact MathAxis.Z = stepped_along c line.dir MathAxis.Z (next_on from to c Z) (exact_step_on MathAxis.Z).next

    rule_by_times : (limit : Float) → float_rule f line limit c ≡ cond (all_later times_at limit) None (cell_at c (line_axis (min_position times_at)) (next_on from to c (line_axis (min_position times_at))))
    unfolding float_rule step_from
    rule_by_times limit =
        stepped_unless (all_later times_at limit) (next_key (key_of_cell c) line.dir (min_position times_at))
        ∙ ap (λ (y : Option Cell). cond (all_later times_at limit) None y) (next_key_exact (min_position times_at))

  -- at every touched cell the rule takes a least step, or ends where the walk may
  pub float_rule_chooses_within : (limit : Float) → LimitAtTarget from to limit → Chooses from to (float_rule f line limit)
  float_rule_chooses_within limit ends c s a =
      let few = touched_in_grid from to (in_grid camera) (in_grid target) c (s, a) in
      subst⁻¹ (Choice from to c) (rule_by_times c few limit)
      (choice_by_times from to c s a (in_grid target) (step_times (cell_box f (key_of_cell c)) line) (step_times_exact c few s a) limit ends)

  -- and so does a look, whose limit is the target or the exit from the chunk
  pub float_rule_chooses : Chooses from to (float_rule f line (look_limit f e range size camera target))
  float_rule_chooses = float_rule_chooses_within (look_limit f e range size camera target) (limit_at_target f e range size camera target)
