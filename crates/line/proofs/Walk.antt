-- A walk by least steps stands only on cells that the line touches, and on every cell that it crosses; it is no longer than 22 cells.
use Rattle.std.proofs.Common.{◌≡◌, ℕ, zero, suc, ◌+◌, ◌*◌, ◌/◌, ◌<◌, ◌≤◌, ◌⊎◌, List, ◌∷◌, length, Some, None, Option, sym, refl, ap, ◌∙◌, subst, inl, inr, mul-le-mul_left, zero-mul, arith}
use mathlib.Core.Path.{subst⁻¹}
use native.Mathlib.Decide.{ℕ_discrete}
use Rattle.line.specs.Line.{Point, Cell, Axis, X, Y, Z, coordinate, index, Share, parts, NoLater, Within, StrictlyWithin, TouchesAt, CrossesAt, Touches, Crosses}
use Rattle.line.specs.Walk.{InGrid, cell_of, with_index, Step, Least, LeastStep, MayEnd, Choice, Chooses, walk_on, walk, Visits}
use Rattle.line.proofs.Shares.{Before, no_later_trans, zero_no_later, cancel_parts_le}
use Rattle.line.proofs.Steps.{step_within_new, within_no_later, inside_before, stays_within, Ahead, crossed_ahead_of_start, step_keeps_ahead, step_no_later, step_before_crossed, crossed_at_end, steps_left, step_uses_one, steps_left_within}

-- ---- a cell with one index changed

-- what holds on each axis of c, and on the axis i of n, holds on each axis of the changed cell
on_each_axis : (P : Axis → ℕ → Type 0) (c : Cell) (i : Axis) (n : ℕ) → P i n → ((j : Axis) → P j (index c j)) → (j : Axis) → P j (index (with_index c i n) j)
on_each_axis P c X n h f X = h
on_each_axis P c X n h f Y = f Y
on_each_axis P c X n h f Z = f Z
on_each_axis P c Y n h f X = f X
on_each_axis P c Y n h f Y = h
on_each_axis P c Y n h f Z = f Z
on_each_axis P c Z n h f X = f X
on_each_axis P c Z n h f Y = f Y
on_each_axis P c Z n h f Z = h

index_changed : (c : Cell) (i : Axis) (n : ℕ) → index (with_index c i n) i ≡ n
index_changed c X n = refl
index_changed c Y n = refl
index_changed c Z n = refl

same_indices : (c d : Cell) → ((j : Axis) → index c j ≡ index d j) → c ≡ d
same_indices c d h = λ i. record { x = h X i; y = h Y i; z = h Z i }

-- ---- what a walk keeps

-- the cell d is c or lies ahead of it on each axis
abbrev pub AheadOf : Point → Point → Cell → Cell → Type 0
AheadOf o t c d = (j : Axis) → Ahead (coordinate o j) (coordinate t j) (index c j) (index d j)

-- the line touches the cell c at the share e, and no cell ahead of c before that
pub record StandsAt (o t : Point) (c : Cell) (e : Share) : Type 0 where
  pub touches : TouchesAt o t c e
  pub first : (d : Cell) → AheadOf o t c d → (r : Share) → TouchesAt o t d r → NoLater e r

-- a step along the axis i to the index n, at the share s
module _ (o t : Point) (c : Cell) (e s : Share) (i : Axis) (n : ℕ) (a : StandsAt o t c e)
    (step : Step (coordinate o i) (coordinate t i) (index c i) s n) (least : Least o t c s) where
  step_stands : StandsAt o t (with_index c i n) s
  step_stands = record {
    touches = on_each_axis (λ j m. Within s (coordinate o j) (coordinate t j) m) c i n (step_within_new step)
        (λ j. stays_within (coordinate o j) (coordinate t j) (index c j) e s (a.touches j) (within_no_later step (a.touches i)) (λ r m. least j r m));
    first = λ d h r w. step_no_later (index d i) step (rw (index_changed c i n) at (h i)) (w i);
  }

  -- a crossed cell ahead that the step would leave behind is c itself
  same_cell : (d : Cell) (r : Share) → CrossesAt o t d r → AheadOf o t c d → index d i ≡ index c i → (j : Axis) → index c j ≡ index d j
  same_cell d r x h q j = elim (ℕ_discrete (index c j) (index d j)) [
    | yes k ↦ k
    | no k ↦
        let p = step_before_crossed (coordinate o j) (coordinate t j) (index c j) (index d j) e r (a.touches j) (x j) (h j) (λ z. k (sym z)) in
        let soon : Before r s = inside_before step (subst (λ m. StrictlyWithin r (coordinate o i) (coordinate t i) m) q (x i)) in
        let late : NoLater s r = no_later_trans s p.0 r (least j p.0 p.1 p.2) p.3 in
        absurd (omega (arith, soon, late))
  ]

  step_ahead : (d : Cell) → Crosses o t d → AheadOf o t c d → (c ≡ d) ⊎ AheadOf o t (with_index c i n) d
  step_ahead d x h = elim (ℕ_discrete (index d i) (index c i)) [
    | yes q ↦ inl (same_indices c d (same_cell d x.0 x.1 h q))
    | no q ↦ inr (on_each_axis (λ j m. Ahead (coordinate o j) (coordinate t j) m (index d j)) c i n (step_keeps_ahead (index d i) step (h i) q) h)
  ]

-- ---- a least step from c to d
module _ (o t : Point) (c d : Cell) (e : Share) (a : StandsAt o t c e) (f : LeastStep o t c d) where
  pub least_step_stands : StandsAt o t d f.share
  least_step_stands = subst⁻¹ (λ k. StandsAt o t k f.share) f.leads (step_stands o t c e f.share f.axis f.next a f.step f.least)

  pub least_step_ahead : (k : Cell) → Crosses o t k → AheadOf o t c k → (c ≡ k) ⊎ AheadOf o t d k
  least_step_ahead k x h = subst⁻¹ (λ m. (c ≡ k) ⊎ AheadOf o t m k) f.leads (step_ahead o t c e f.share f.axis f.next a f.step f.least k x h)

-- where the walk may end, no other cell ahead is crossed
pub end_ahead : (o t : Point) (c d : Cell) → MayEnd o t c → Crosses o t d → AheadOf o t c d → c ≡ d
end_ahead o t c d f x h =
    same_indices c d (λ j. sym (crossed_at_end (coordinate o j) (coordinate t j) (index c j) (index d j) x.0 (f j) (x.1 j) (h j)))

-- ---- a touched cell is one of the grid's
within_grid : (o t k : ℕ) (s : Share) → o ≤ 1023 → t ≤ 1023 → Within s o t k → k ≤ 7
within_grid o t k s a b w =
    let h : 128 * k ≤ 1023 = cancel_parts_le s (128 * k) 1023 (omega (arith, w.low, mul-le-mul_left s.left a, mul-le-mul_left s.gone b)) in
    omega arith

pub touched_in_grid : (o t : Point) → InGrid o → InGrid t → (c : Cell) → Touches o t c → (i : Axis) → index c i ≤ 7
touched_in_grid o t lo lt c x i = within_grid (coordinate o i) (coordinate t i) (index c i) x.0 (lo i) (lt i) (x.1 i)

-- ---- the steps left on all axes
abbrev steps_left_on : Point → Point → Cell → Axis → ℕ
steps_left_on o t c i = steps_left (coordinate o i) (coordinate t i) (index c i)

unfoldable pub steps_left_from : Point → Point → Cell → ℕ
steps_left_from o t c = steps_left_on o t c X + steps_left_on o t c Y + steps_left_on o t c Z

step_leaves_fewer : (o t : Point) (c : Cell) (i : Axis) (n : ℕ) → steps_left (coordinate o i) (coordinate t i) n + 1 ≡ steps_left_on o t c i → steps_left_from o t (with_index c i n) + 1 ≡ steps_left_from o t c
unfolding steps_left_from
step_leaves_fewer o t c X n h = omega arith
step_leaves_fewer o t c Y n h = omega arith
step_leaves_fewer o t c Z n h = omega arith

pub least_step_leaves_fewer : (o t : Point) (c d : Cell) → InGrid t → LeastStep o t c d → steps_left_from o t d + 1 ≡ steps_left_from o t c
least_step_leaves_fewer o t c d l f =
    rw f.leads (step_leaves_fewer o t c f.axis f.next (step_uses_one (l f.axis) f.step))

-- ---- the start
index_of_start : (o : Point) (j : Axis) → index (cell_of o) j ≡ coordinate o j / 128
index_of_start o X = refl
index_of_start o Y = refl
index_of_start o Z = refl

start_within : (o t k : ℕ) (s : Share) → s.gone ≡ 0 → k ≡ o / 128 → Within s o t k
start_within o t k s z e =
    let none : (q : ℕ) → s.gone * q ≡ 0 = λ q. ap (λ (i : ℕ). i * q) z ∙ zero-mul q in
    let a : 128 * k ≤ o = omega arith in
    let b : o ≤ 128 * k + 128 = omega arith in
    record { low = omega (arith, none o, none t, mul-le-mul_left (parts s) a); high = omega (arith, none o, none t, mul-le-mul_left (parts s) b) }

pub start_stands : (o t : Point) (s : Share) → s.gone ≡ 0 → StandsAt o t (cell_of o) s
start_stands o t s z = record {
  touches = λ j. start_within (coordinate o j) (coordinate t j) (index (cell_of o) j) s z (index_of_start o j);
  first = λ d h r w. zero_no_later s r z;
}

pub start_ahead : (o t : Point) (d : Cell) → Crosses o t d → AheadOf o t (cell_of o) d
start_ahead o t d x j =
    rw (index_of_start o j) (crossed_ahead_of_start (coordinate o j) (coordinate t j) (index d j) x.0 (x.1 j))

pub start_steps_left : (o t : Point) → InGrid o → steps_left_from o t (cell_of o) ≤ 21
unfolding steps_left_from
start_steps_left o t l =
    let within : (j : Axis) → steps_left_on o t (cell_of o) j ≤ 7 =
    λ j. steps_left_within (coordinate o j) (coordinate t j) (index (cell_of o) j) (omega (arith, index_of_start o j, l j)) in
    omega (arith, within X, within Y, within Z)

-- the share 0
pub at_once : Share
at_once = record { gone = 0; left = 1; positive = omega arith }

pub start_stands_at_once : (o t : Point) → StandsAt o t (cell_of o) at_once
unfolding at_once
start_stands_at_once o t = start_stands o t (record { gone = 0; left = 1; positive = omega arith }) refl

-- ---- the walk, from a cell where it stands

module _ (o t : Point) (rule : Cell → Option Cell) (chooses : Chooses o t rule) where
  touched_on : (c : Cell) (rest : Cell → List Cell) (y : Option Cell) → Choice o t c y → ((d : Cell) → LeastStep o t c d → (k : Cell) → Visits (rest d) k → Touches o t k)
      → (k : Cell) → Visits (walk_on rest y) k → Touches o t k
  touched_on c rest None h more k v = absurd v
  touched_on c rest (Some d) h more k v = more d h k v

  touched_from : (n : ℕ) (c : Cell) (e : Share) → StandsAt o t c e → (k : Cell) → Visits (walk rule n c) k → Touches o t k
  unfolding walk
  touched_from zero c e a k v = absurd v
  touched_from (suc n) c e a k (inl q) = subst (λ m. Touches o t m) q (e, a.touches)
  touched_from (suc n) c e a k (inr v) =
      touched_on c (walk rule n) (rule c) (chooses c e a.touches) (λ d f. touched_from n d f.share (least_step_stands o t c d e a f)) k v

  module _ (l : InGrid t) where
    crossed_on : (c : Cell) (e : Share) → StandsAt o t c e → (rest : Cell → List Cell) (y : Option Cell) → Choice o t c y → (k : Cell) → Crosses o t k → AheadOf o t c k
        → ((d : Cell) → LeastStep o t c d → AheadOf o t d k → Visits (rest d) k) → Visits (c ∷ walk_on rest y) k
    crossed_on c e a rest None h k x g more = inl (end_ahead o t c k h x g)
    crossed_on c e a rest (Some d) h k x g more = elim (least_step_ahead o t c d e a h k x g) [ inl q ↦ inl q | inr g' ↦ inr (more d h g') ]

    crossed_from : (n : ℕ) (c : Cell) (e : Share) → StandsAt o t c e → steps_left_from o t c < n → (k : Cell) → Crosses o t k → AheadOf o t c k → Visits (walk rule n c) k
    unfolding walk
    crossed_from zero c e a m k x g = absurd (omega arith)
    crossed_from (suc n) c e a m k x g =
        crossed_on c e a (walk rule n) (rule c) (chooses c e a.touches) k x g
        (λ d f g'. crossed_from n d f.share (least_step_stands o t c d e a f) (omega (arith, least_step_leaves_fewer o t c d l f)) k x g')

    short_on : (c : Cell) (rest : Cell → List Cell) (m : ℕ) (y : Option Cell) → Choice o t c y → ((d : Cell) → LeastStep o t c d → length (rest d) ≤ m) → length (walk_on rest y) ≤ m
    short_on c rest m None h more = omega arith
    short_on c rest m (Some d) h more = more d h

    short_from : (n : ℕ) (c : Cell) (e : Share) → StandsAt o t c e → length (walk rule n c) ≤ steps_left_from o t c + 1
    unfolding walk
    short_from zero c e a = omega arith
    short_from (suc n) c e a =
        omega (
          arith,
          short_on c (walk rule n) (steps_left_from o t c) (rule c) (chooses c e a.touches)
              (λ d f. omega (arith, least_step_leaves_fewer o t c d l f, short_from n d f.share (least_step_stands o t c d e a f))),
        )

-- ---- the walk from the cell of o
module _ (o t : Point) (rule : Cell → Option Cell) (chooses : Chooses o t rule) (n : ℕ) where
  pub visited_is_touched : (c : Cell) → Visits (walk rule n (cell_of o)) c → Touches o t c
  visited_is_touched c v = touched_from o t rule chooses n (cell_of o) at_once (start_stands_at_once o t) c v

  pub crossed_is_visited : InGrid o → InGrid t → 22 ≤ n → (c : Cell) → Crosses o t c → Visits (walk rule n (cell_of o)) c
  crossed_is_visited lo lt h c x =
      crossed_from o t rule chooses lt n (cell_of o) at_once (start_stands_at_once o t) (omega (arith, start_steps_left o t lo)) c x (start_ahead o t c x)

  pub walk_is_short : InGrid o → InGrid t → length (walk rule n (cell_of o)) ≤ 22
  walk_is_short lo lt =
      omega (arith, short_from o t rule chooses lt n (cell_of o) at_once (start_stands_at_once o t), start_steps_left o t lo)
