-- The time at which the box of a cell is hit is near the share at which the exact line enters the cell.
use Rattle.std.proofs.Common.{◌≡◌, ℕ, suc, ◌+◌, ◌-◌, ◌*◌, ◌^◌, ◌<◌, ◌≤◌, Bool, true, false, cond, not, T, ltb, ◌⊎◌, ℤ, Some, sym, refl, ap, ◌∙◌, subst, inl, inr, true≢false, mul-le-mul_right, suc-mul, zero-mul, le_of_mul-le-mul_right, arith, T_not}
use mathlib.Core.Path.{subst⁻¹}
use lib.Ieee.{Float, neg, lt, le, eq}
use lib.Ieee.Bits.{is_true, is_false}
use lib.Ieee.Exact.{HasValue}
use Rattle.scalar.specs.Single.{zero, largest, Number}
use Rattle.scalar.specs.Shares.{Close, NotNegative}
use Rattle.scalar.proofs.Order.{le_of_lt, lt_of_le_of_lt, not_lt_of_le, lowest_below_zero}
use Rattle.scalar.proofs.Values.{value_as, zero_value}
use Rattle.scalar.proofs.Shares.{close_le, close_zero, close_within, close_not_below_zero, plus_not_negative}
use Rattle.math.specs.declared.Vector.{Vector}
use Rattle.math.specs.declared.Axis as Math
use Rattle.math.specs.declared.Axis.TheVariants as MathAxis
use Rattle.math.specs.Vectors.{component}
use Rattle.boxes.specs.declared.aabb.Aabb.{Aabb}
use Rattle.query.specs.declared.ray.Ray.{Ray}
use Rattle.query.specs.declared.ray.RayIntersection.{RayIntersection}
use Rattle.boxes.specs.Clip.{face_time, beyond, contains}
use Rattle.boxes.specs.Box.{box_cast}
use Rattle.boxes.specs.ClipLemmas.{first_face}
use Rattle.grid.specs.declared.frame.ChunkFrame.{ChunkFrame}
use Rattle.grid.specs.Lawful.{exponent_fits}
use Rattle.grid.specs.Frame.{cell_box}
use Rattle.sight.specs.declared.grid_point.GridPoint.{GridPoint}
use Rattle.sight.specs.Power.{cube}
use Rattle.sight.specs.Sight.{sight_line}
use Rattle.line.specs.Line.{Point, Cell, Axis, X, Y, Z, coordinate, index, Share, parts, NoLater, Within, Entry}
use Rattle.line.specs.Faces.{span, near_distance, span_on, near_on, NearShare, Latest}
use Rattle.line.specs.Walk.{InGrid}
use Rattle.line.proofs.Shares.{fraction_trans, cancel_parts_le}
use Rattle.line.proofs.Steps.{rising_not_past, falling_not_past}
use Rattle.line.proofs.Entry.{entry_is_latest}
use Rattle.line.proofs.Walk.{touched_in_grid}
use Rattle.looks.specs.Units.{point_of, key_of_cell}
use Rattle.looks.specs.Times.{TimeNear}
use Rattle.looks.proofs.Units.{in_grid, axis_of}
use Rattle.looks.proofs.HitTimes.{first_face_on, Moves, LatestFace, HitTime, from_inside, past_faces, at_latest, hit_time}
use Rattle.looks.proofs.Boxes.{FaceTime, ahead, behind, face_number, NotPast, Slab, still, rising, falling, AxisBoxes, box_axes}

-- ---- one axis of a touched cell
touched_not_past : (s : Share) (o t n : ℕ) → Within s o t n → NotPast o t n
touched_not_past s o t n w = record { below_high = λ m. rising_not_past o t n s m w; above_low = λ m. falling_not_past o t n s m w }

-- the face that the line passes first is the near face
record FirstFace (o t n : ℕ) (low high x d : Float) : Type 0 where
  moves : 0 < span o t
  time : FaceTime (near_distance o t n) (span o t) (first_face low high x d)

first_is_near : {o t n : ℕ} {low high x d : Float} → Slab o t n low high x d → NotPast o t n → eq d zero ≡ false → FirstFace o t n low high x d
first_is_near (still e z) p m = absurd (true≢false (sym z ∙ m))
first_is_near {o} {t} {n} {low} {high} {x} {d} (rising u z w) p m =
    let a = face_time low x d in
    let b = face_time high x d in
    let f : lt b a ≡ false = is_false (lt b a) (not_lt_of_le a b (le_of_lt a b (w.ordered p))) in
    record { moves = omega arith; time = subst⁻¹ (λ (v : Bool). FaceTime (near_distance o t n) (span o t) (cond v b a)) f w.near_time }
first_is_near {o} {t} {n} {low} {high} {x} {d} (falling u z w) p m =
    let a = face_time low x d in
    let b = face_time high x d in
    let f : lt b a ≡ true = is_true (lt b a) (w.ordered p) in
    record { moves = omega arith; time = subst⁻¹ (λ (v : Bool). FaceTime (near_distance o t n) (span o t) (cond v b a)) f w.near_time }

span_moves : {o t n : ℕ} {low high x d : Float} → Slab o t n low high x d → 0 < span o t → eq d zero ≡ false
span_moves (still e z) p = absurd (omega arith)
span_moves (rising u z w) p = z
span_moves (falling u z w) p = z

-- from within the cell there is no way to its near face
near_of_inside : (o t n : ℕ) → 128 * n ≤ o → o ≤ 128 * n + 128 → near_distance o t n ≡ 0
unfolding near_distance
near_of_inside o t n a b = go (ltb o t)
  where
    go : (v : Bool) → cond v (128 * n - o) (o - (128 * n + 128)) ≡ 0
    go true = omega arith
    go false = omega arith

-- nor where the time at it is below zero
near_of_past : (p q : ℕ) (v : Float) → FaceTime p q v → T (lt v zero) → p ≡ 0
near_of_past p q v (ahead true n c) h = n refl
near_of_past p q v (ahead false n c) h = absurd (T_not (lt v zero) (not_lt_of_le zero v (close_not_below_zero p q v c)) h)
near_of_past p q v (behind z b l) h = z

-- and times keep the order of the shares
faces_ordered : (p q p' q' : ℕ) (v v' : Float) → 0 < q → 0 < q' → q ≤ 1023 → p' ≤ 1024 → FaceTime p q v → (s' : Bool) → Close s' p' q' v' → T (le v v') → p * q' ≤ p' * q
faces_ordered p q p' q' v v' Q Q' hq hp (ahead s n c) s' c' h = close_le s s' p q p' q' v v' Q Q' hq hp n c c' h
faces_ordered p q p' q' v v' Q Q' hq hp (behind z b l) s' c' h = omega (arith, ap (λ (i : ℕ). i * q') z, zero-mul q')

-- ---- near a share
at_zero : (sign : Bool) (s : Share) (v : Float) → HasValue v sign 0 1 → s.gone ≡ 0 → TimeNear s v
at_zero sign s v u z = record {
  sign = sign;
  units = 0;
  value = value_as v sign 0 1 0 (2 ^ 149) (omega arith) (omega arith) u;
  not_negative = λ _. refl;
  most = omega (arith, zero-mul (parts s));
  least = omega arith;
}

-- a fraction p / q and the share g / P that it equals
same_most : (u p q g P : ℕ) → 0 < q → p * P ≤ g * q → u * q * 2 ^ 22 ≤ p * 2 ^ 149 * 2 ^ 22 + q * 2 ^ 149 → u * P * 2 ^ 22 ≤ g * 2 ^ 149 * 2 ^ 22 + P * 2 ^ 149
same_most u p q g P Q h c = le_of_mul-le-mul_right {k = q} (omega (arith, mul-le-mul_right P c)) Q

same_least : (u p q g P : ℕ) → 0 < q → g * q ≤ p * P → p * 2 ^ 149 * 2 ^ 22 ≤ u * q * 2 ^ 22 + q * 2 ^ 149 → g * 2 ^ 149 * 2 ^ 22 ≤ u * P * 2 ^ 22 + P * 2 ^ 149
same_least u p q g P Q h c = le_of_mul-le-mul_right {k = q} (omega (arith, mul-le-mul_right P c)) Q

none_gone : (g q p P : ℕ) → 0 < q → g * q ≤ p * P → p ≡ 0 → g ≡ 0
none_gone ℕ.zero q p P Q h z = refl
none_gone (suc g) q p P Q h z = absurd (omega (arith, ap (λ (i : ℕ). i * P) z, zero-mul P, suc-mul g q))

close_is_near : (sign : Bool) (p q : ℕ) (v : Float) (s : Share) → 0 < q → NotNegative sign p → Close sign p q v → p * parts s ≤ s.gone * q → s.gone * q ≤ p * parts s → TimeNear s v
close_is_near true p q v s Q n c a b =
    let z : p ≡ 0 = n refl in
    at_zero true s v (close_zero true q v Q (subst (λ (i : ℕ). Close true i q v) z c)) (none_gone s.gone q p (parts s) Q b z)
close_is_near false p q v s Q n c a b =
    let l : p ≤ q = cancel_parts_le s p q (omega (arith, mul-le-mul_right {m = s.gone} {n = parts s} q (omega arith))) in
    let w = close_within false p q v l c in
    record {
      sign = false;
      units = c.units;
      value = c.value;
      not_negative = plus_not_negative c.units;
      most = same_most c.units p q s.gone (parts s) Q a w.0;
      least = same_least c.units p q s.gone (parts s) Q b w.1;
    }

near_bound : (o t n : ℕ) → o ≤ 1023 → n ≤ 7 → near_distance o t n ≤ 1024
unfolding near_distance
near_bound o t n O N = go (ltb o t)
  where
    go : (v : Bool) → cond v (128 * n - o) (o - (128 * n + 128)) ≤ 1024
    go true = omega arith
    go false = omega arith

contains_each : (b : Aabb) (p : Vector) → contains b p ≡ true → (i : Axis) → beyond (component p (axis_of i)) (component b.mins (axis_of i)) (component b.maxs (axis_of i)) ≡ false
unfolding contains
contains_each b p h = λ i. each i (go (beyond p.x b.mins.x b.maxs.x) (beyond p.y b.mins.y b.maxs.y) (beyond p.z b.mins.z b.maxs.z) h)
  where
    go : (x y z : Bool) → cond x false (cond y false (cond z false true)) ≡ true → (x ≡ false) × (y ≡ false) × (z ≡ false)
    go true y z e = absurd (true≢false (sym e))
    go false true z e = absurd (true≢false (sym e))
    go false false true e = absurd (true≢false (sym e))
    go false false false e = (refl, refl, refl)

    each : (i : Axis) → (beyond p.x b.mins.x b.maxs.x ≡ false) × (beyond p.y b.mins.y b.maxs.y ≡ false) × (beyond p.z b.mins.z b.maxs.z ≡ false)
        → beyond (component p (axis_of i)) (component b.mins (axis_of i)) (component b.maxs (axis_of i)) ≡ false
    each X w = w.0
    each Y w = w.1
    each Z w = w.2

-- ---- three axes
module _ (o t : Point) (c : Cell) (b : Aabb) (ray : Ray) (O : InGrid o) (E : InGrid t) (small : (i : Axis) → index c i ≤ 7) (axes : AxisBoxes o t c b ray) (s : Share) (entry : Entry o t c s) where
  first : (i : Axis) → Moves ray.dir (axis_of i)
      → FirstFace (coordinate o i) (coordinate t i) (index c i) (component b.mins (axis_of i)) (component b.maxs (axis_of i)) (component ray.origin (axis_of i)) (component ray.dir (axis_of i))
  first i m = first_is_near (axes i).slab (touched_not_past s (coordinate o i) (coordinate t i) (index c i) (entry.touches i)) m

  moves : (i : Axis) → 0 < span_on o t i → Moves ray.dir (axis_of i)
  moves i m = span_moves (axes i).slab m

  abbrev face_on : Axis → Float
  face_on i = first_face_on b ray.origin ray.dir (axis_of i)

  first_number : (i : Axis) → Moves ray.dir (axis_of i) → Number (face_on i)
  first_number i m = face_number (near_on o t c i) (span_on o t i) (face_on i) (first i m).time

  numbers : (a : Math.Axis) → Moves ray.dir a → Number (first_face_on b ray.origin ray.dir a)
  numbers MathAxis.X = first_number X
  numbers MathAxis.Y = first_number Y
  numbers MathAxis.Z = first_number Z

  -- the entry, as the latest share at a near face
  module _ (r : Share) (latest : Latest o t c r) (s-r : NoLater s r) (r-s : NoLater r s) where
    none_ahead : ((i : Axis) → 0 < span_on o t i → near_on o t c i ≡ 0) → s.gone ≡ 0
    none_ahead z = none_gone s.gone (parts r) r.gone (parts s) r.positive s-r (by_face latest.attained)
      where
        by_face : (r.gone ≡ 0) ⊎ ((i : Axis) × NearShare (coordinate o i) (coordinate t i) (index c i) r) → r.gone ≡ 0
        by_face (inl e) = e
        by_face (inr (i, n)) = n.gone ∙ z i n.moves

    -- no near face comes after one whose time is the latest
    no_later_face : (i : Axis) (v : Float) (sign : Bool) → LatestFace b ray.origin ray.dir v → 0 < span_on o t i → Close sign (near_on o t c i) (span_on o t i) v
        → r.gone * span_on o t i ≤ near_on o t c i * parts r
    no_later_face i v sign l m k = by_face latest.attained
      where
        by_face : (r.gone ≡ 0) ⊎ ((j : Axis) × NearShare (coordinate o j) (coordinate t j) (index c j) r) → r.gone * span_on o t i ≤ near_on o t c i * parts r
        by_face (inl e) = omega (arith, ap (λ (n : ℕ). n * span_on o t i) e, zero-mul (span_on o t i))
        by_face (inr (j, n)) =
            let d = moves j n.moves in
            let h = faces_ordered (near_on o t c j) (span_on o t j) (near_on o t c i) (span_on o t i) (face_on j) v n.moves m (omega (arith, O j, E j))
            (near_bound (coordinate o i) (coordinate t i) (index c i) (O i) (small i)) (first j d).time sign k (l.reached (axis_of j) d) in
            rw (n.parts, n.gone) h

    at_face : (i : Axis) (v : Float) → LatestFace b ray.origin ray.dir v → T (not (lt v zero)) → 0 < span_on o t i → FaceTime (near_on o t c i) (span_on o t i) v → TimeNear s v
    at_face i v l z m (behind e k w) = absurd (T_not (lt v zero) z k)
    at_face i v l z m (ahead sign n k) =
        let p = near_on o t c i in
        let q = span_on o t i in
        close_is_near sign p q v s m n k
        (fraction_trans p q r.gone (parts r) s.gone (parts s) (omega (arith, r.positive)) (latest.reached i m) r-s)
        (fraction_trans s.gone (parts s) r.gone (parts r) p q (omega (arith, r.positive)) s-r (no_later_face i v sign l m k))

    at_axis : (i : Axis) (v : Float) → LatestFace b ray.origin ray.dir v → T (not (lt v zero)) → Moves ray.dir (axis_of i) → v ≡ face_on i → TimeNear s v
    at_axis i v l z m e = let k = first i m in at_face i v l z k.moves (subst⁻¹ (λ (x : Float). FaceTime (near_on o t c i) (span_on o t i) x) e k.time)

    latest_is_near : (v : Float) → LatestFace b ray.origin ray.dir v → T (not (lt v zero)) → (v ≡ neg largest) ⊎ ((a : Math.Axis) × Moves ray.dir a × (v ≡ first_face_on b ray.origin ray.dir a)) → TimeNear s v
    latest_is_near v l z (inl e) = absurd (T_not (lt v zero) z (subst⁻¹ (λ (x : Float). T (lt x zero)) e lowest_below_zero))
    latest_is_near v l z (inr (MathAxis.X, m, e)) = at_axis X v l z m e
    latest_is_near v l z (inr (MathAxis.Y, m, e)) = at_axis Y v l z m e
    latest_is_near v l z (inr (MathAxis.Z, m, e)) = at_axis Z v l z m e

    time_is_near : (v : Float) → HitTime b ray.origin ray.dir v → TimeNear s v
    time_is_near v (from_inside k z) =
        subst⁻¹ (λ (x : Float). TimeNear s x) z (at_zero false s zero zero_value (none_ahead (λ i m.
        let w = (axes i).inside_back (contains_each b ray.origin k i) in near_of_inside (coordinate o i) (coordinate t i) (index c i) w.0 w.1)))
    time_is_near v (past_faces n l k z) =
        subst⁻¹ (λ (x : Float). TimeNear s x) z (at_zero false s zero zero_value (none_ahead (λ i m.
        let d = moves i m in near_of_past (near_on o t c i) (span_on o t i) (face_on i) (first i d).time (lt_of_le_of_lt (face_on i) n zero (l.reached (axis_of i) d) k))))
    time_is_near v (at_latest l z) = latest_is_near v l z l.attained

  cast_near_entry : (limit : Float) (h : RayIntersection) → box_cast b ray limit true ≡ Some h → TimeNear s h.time_of_impact
  cast_near_entry limit h e =
      let l = entry_is_latest o t c s entry in
      time_is_near l.0 l.1 l.2 l.3 h.time_of_impact (hit_time b ray limit h numbers e)

-- ---- the look
module _ (f : ChunkFrame) (e : ℤ) (range : T (exponent_fits (Some e))) (size : f.voxel_size ≡ cube e) (camera target : GridPoint) where
  pub hit_time_near_entry : (c : Cell) (s : Share) (limit : Float) (h : RayIntersection) → Entry (point_of camera) (point_of target) c s
      → box_cast (cell_box f (key_of_cell c)) (sight_line e f.key camera target) limit true ≡ Some h → TimeNear s h.time_of_impact
  hit_time_near_entry c s limit h entry =
      let o = point_of camera in
      let t = point_of target in
      let small = touched_in_grid o t (in_grid camera) (in_grid target) c (s, entry.touches) in
      cast_near_entry o t c (cell_box f (key_of_cell c)) (sight_line e f.key camera target) (in_grid camera) (in_grid target) small (box_axes f e range size camera target c small) s entry limit h
