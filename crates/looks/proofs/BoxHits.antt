-- The box of a cell that the line crosses is hit within the limit of the look.
use Rattle.std.proofs.Common.{◌≡◌, ℕ, ◌+◌, ◌-◌, ◌*◌, ◌<◌, ◌≤◌, Bool, true, false, cond, T, ltb, ◌⊎◌, ℤ, is_some, Some, None, Option, sym, refl, ap, ◌∙◌, inl, inr, true≢false, zero-mul, arith}
use mathlib.Core.Path.{subst⁻¹}
use lib.Ieee.{Float, neg, lt, le}
use lib.Ieee.Bits.{is_true}
use Rattle.scalar.specs.Single.{zero, largest}
use Rattle.scalar.proofs.Order.{le_of_lt, le_trans, lt_trans, lt_of_lt_of_le, lowest_below_zero, zero_below_largest}
use Rattle.scalar.proofs.Shares.{Late, close_lt, close_not_below_zero}
use Rattle.math.specs.declared.Axis.TheVariants as MathAxis
use Rattle.math.specs.Vectors.{zero_vector}
use Rattle.boxes.specs.declared.aabb.Aabb.{Aabb}
use Rattle.query.specs.declared.ray.Ray.{Ray}
use Rattle.boxes.specs.declared.clip_aabb_line.Ends.{Ends}
use Rattle.boxes.specs.declared.clip_aabb_line.LinePoint.{LinePoint}
use Rattle.query.specs.Cast.{and_then}
use Rattle.boxes.specs.Box.{box_point, box_hit, box_cast}
use Rattle.boxes.proofs.Slabs.{AtFaces, Cut, level, up, down, Cuts, Clipped, stands, passes, line_clipped}
use Rattle.grid.specs.declared.frame.ChunkFrame.{ChunkFrame}
use Rattle.grid.specs.Lawful.{exponent_fits}
use Rattle.grid.specs.Frame.{cell_box}
use Rattle.sight.specs.declared.grid_point.GridPoint.{GridPoint}
use Rattle.sight.specs.Power.{cube}
use Rattle.sight.specs.Sight.{sight_line}
use Rattle.line.specs.Line.{Point, Cell, Axis, X, Y, Z, coordinate, index, Crosses}
use Rattle.line.specs.Faces.{far_distance, span_on, near_on, far_on, Open}
use Rattle.line.specs.Walk.{InGrid}
use Rattle.line.proofs.Faces.{crossed_is_open, strictly_within}
use Rattle.line.proofs.Walk.{touched_in_grid}
use Rattle.looks.specs.Units.{point_of, key_of_cell}
use Rattle.looks.proofs.Units.{in_grid}
use Rattle.looks.proofs.Boxes.{FaceTime, ahead, behind, face_above_lowest, face_below_largest, Slab, still, rising, falling, AxisBox, AxisBoxes, box_axes}
use Rattle.looks.proofs.LookEnd.{LimitAtTarget, look_limit, limit_at_target, limit_not_below_zero}

-- ---- bounds
far_bound : (o t n : ℕ) → o ≤ 1023 → n ≤ 7 → far_distance o t n ≤ 1024
unfolding far_distance
far_bound o t n O N = go (ltb o t)
  where
    go : (b : Bool) → cond b (128 * n + 128 - o) (o - 128 * n) ≤ 1024
    go true = omega arith
    go false = omega arith

some_distance : (a b c : ℕ) → a < b * c → 0 < b
some_distance a ℕ.zero c h = absurd (omega (arith, zero-mul c))
some_distance a (ℕ.suc b) c h = omega arith

-- ---- the times of two faces
face_not_below_zero : (p q : ℕ) (v : Float) → 0 < p → FaceTime p q v → T (le zero v)
face_not_below_zero p q v P (ahead true n c) = absurd (omega (arith, n refl))
face_not_below_zero p q v P (ahead false n c) = close_not_below_zero p q v c
face_not_below_zero p q v P (behind z b l) = absurd (omega arith)

-- a near face comes before a far one, as their shares do
face_before : (p q p' q' : ℕ) (v v' : Float) → 0 < q → 0 < q' → p ≤ 1024 → q' ≤ 1023 → 0 < p' → p * q' < p' * q → FaceTime p q v → FaceTime p' q' v' → T (lt v v')
face_before p q p' q' v v' Q Q' hp hq P' h (ahead s n c) (ahead s' n' c') = close_lt s s' p q p' q' v v' Q Q' hp hq n' c c' h
face_before p q p' q' v v' Q Q' hp hq P' h (ahead s n c) (behind z b l) = absurd (omega arith)
face_before p q p' q' v v' Q Q' hp hq P' h (behind z b l) f = lt_of_lt_of_le v zero v' b (face_not_below_zero p' q' v' P' f)

face_within : (p q : ℕ) (v limit : Float) → q ≤ 1023 → p < q → T (le zero limit) → Late limit → FaceTime p q v → T (le v limit)
face_within p q v limit h l z late (ahead s n c) = le_of_lt v limit (late s p q v h l c)
face_within p q v limit h l z late (behind e b w) = le_trans v zero limit (le_of_lt v zero b) z

-- ---- a solid box is hit where the near end of its clip is within reach
near_is_hit : (c : Ends LinePoint) (reach : Float) → T (le c.near.time reach) → is_some (and_then (box_point c reach true) box_hit) ≡ true
unfolding box_point
near_is_hit c reach h = go (lt c.near.time zero) (le c.near.time reach) (is_true (le c.near.time reach) h)
  where
    go : (u v : Bool) → v ≡ true → is_some (and_then (cond u (Some (record { time = zero; normal = zero_vector; side = c.far.side })) (cond v (Some c.near) None)) box_hit) ≡ true
    go true v e = refl
    go false true e = refl
    go false false e = absurd (true≢false (sym e))

-- ---- a cell whose faces the line passes in order
module _ (o t : Point) (c : Cell) (b : Aabb) (r : Ray) (limit : Float) (O : InGrid o) (E : InGrid t) (small : (i : Axis) → index c i ≤ 7)
    (axes : AxisBoxes o t c b r) (in_order : Open o t c) (not_below : T (le zero limit)) (at_Target : LimitAtTarget o t limit) where
  record Before (n : Float) : Type 0 where
    bounded : T (lt n largest)
    within : T (le n limit)
    before_far : (j : Axis) (f : Float) → 0 < span_on o t j → FaceTime (far_on o t c j) (span_on o t j) f → T (lt n f)

  abbrev After : Float → Type 0
  After f = (f ≡ largest) ⊎ ((j : Axis) × (0 < span_on o t j) × FaceTime (far_on o t c j) (span_on o t j) f)

  far_ahead : (j : Axis) → 0 < span_on o t j → 0 < far_on o t c j
  far_ahead j m = some_distance (near_on o t c j * span_on o t j) (far_on o t c j) (span_on o t j) (in_order.near_before_far j j m m)

  span_bound : (i : Axis) → span_on o t i ≤ 1023
  span_bound i = omega (arith, O i, E i)

  ordered : (n f : Float) → Before n → After f → T (lt n f)
  ordered n f w (inl e) = subst⁻¹ (λ (v : Float). T (lt n v)) e w.bounded
  ordered n f w (inr (j, m, a)) = w.before_far j f m a

  positive : (f : Float) → After f → T (le zero f)
  positive f (inl e) = subst⁻¹ (λ (v : Float). T (le zero v)) e (le_of_lt zero largest zero_below_largest)
  positive f (inr (j, m, a)) = face_not_below_zero (far_on o t c j) (span_on o t j) f (far_ahead j m) a

  lowest_before : Before (neg largest)
  lowest_before = record {
    bounded = lt_trans (neg largest) zero largest lowest_below_zero zero_below_largest;
    within = le_trans (neg largest) zero limit (le_of_lt (neg largest) zero lowest_below_zero) not_below;
    before_far = λ j f m a. face_above_lowest (far_on o t c j) (span_on o t j) f m (far_bound (coordinate o j) (coordinate t j) (index c j) (O j) (small j)) a;
  }

  near_before : (i : Axis) (n : Float) → 0 < span_on o t i → FaceTime (near_on o t c i) (span_on o t i) n → Before n
  near_before i n m a =
      let target = in_order.near_before_target i m in
      let s = span_bound i in
      record {
        bounded = face_below_largest (near_on o t c i) (span_on o t i) n m (omega arith) a;
        within = face_within (near_on o t c i) (span_on o t i) n limit s target not_below (at_Target.no_earlier i (λ e. omega arith)) a;
        before_far = λ j f q w. face_before (near_on o t c i) (span_on o t i) (far_on o t c j) (span_on o t j) n f m q (omega arith) (span_bound j) (far_ahead j q) (in_order.near_before_far i j m q) a w;
      }

  ends : (i : Axis) (n f : Float) → 0 < span_on o t i → FaceTime (near_on o t c i) (span_on o t i) n → FaceTime (far_on o t c i) (span_on o t i) f → AtFaces Before After n f
  ends i n f m a w =
      let target = in_order.near_before_target i m in
      let s = span_bound i in
      record {
        enters = near_before i n m a;
        leaves = inr (i, m, w);
        near_bounded = face_above_lowest (near_on o t c i) (span_on o t i) n m (omega arith) a;
        far_bounded = face_below_largest (far_on o t c i) (span_on o t i) f m (far_bound (coordinate o i) (coordinate t i) (index c i) (O i) (small i)) w;
      }

  cut : (i : Axis) {low high x d : Float} → AxisBox (coordinate o i) (coordinate t i) (index c i) low high x d → Cut Before After low high x d
  cut i {low} {high} {x} {d} a = by_slab a.slab
    where
      by_slab : Slab (coordinate o i) (coordinate t i) (index c i) low high x d → Cut Before After low high x d
      by_slab (still e z) = let l = in_order.level i e in level z (a.inside (omega (arith, l.0)) (omega (arith, l.1)))
      by_slab (rising m z w) = up z (ends i _ _ (omega arith) w.near_time w.far_time)
      by_slab (falling m z w) = down z (ends i _ _ (omega arith) w.near_time w.far_time)

  cuts : Cuts Before After b r.origin r.dir
  cuts MathAxis.X = cut X (axes X)
  cuts MathAxis.Y = cut Y (axes Y)
  cuts MathAxis.Z = cut Z (axes Z)

  open_is_hit : is_some (box_cast b r limit true) ≡ true
  unfolding box_cast
  open_is_hit =
      let p = line_clipped Before After ordered positive b r.origin r.dir lowest_before (inl refl) cuts in
      ap (λ (x : Option (Ends LinePoint)). is_some (and_then x (λ k. and_then (box_point k limit true) box_hit))) p.1 ∙ near_is_hit p.0 limit (near_within p.0 p.2)
    where
      near_within : (k : Ends LinePoint) → Clipped Before After r.dir k → T (le k.near.time limit)
      near_within k (stands s e) = subst⁻¹ (λ (j : Ends LinePoint). T (le j.near.time limit)) e not_below
      near_within k (passes n f) = n.within

-- ---- the look
module _ (f : ChunkFrame) (e : ℤ) (range : T (exponent_fits (Some e))) (size : f.voxel_size ≡ cube e) (camera target : GridPoint) where
  pub crossed_is_hit : (c : Cell) → Crosses (point_of camera) (point_of target) c
      → is_some (box_cast (cell_box f (key_of_cell c)) (sight_line e f.key camera target) (look_limit f e range size camera target) true) ≡ true
  crossed_is_hit c x =
      let o = point_of camera in
      let t = point_of target in
      let small = touched_in_grid o t (in_grid camera) (in_grid target) c (x.0, λ i. strictly_within (x.1 i)) in
      open_is_hit o t c (cell_box f (key_of_cell c)) (sight_line e f.key camera target) (look_limit f e range size camera target)
      (in_grid camera) (in_grid target) small (box_axes f e range size camera target c small) (crossed_is_open o t c x)
      (limit_not_below_zero f e range size camera target) (limit_at_target f e range size camera target)
