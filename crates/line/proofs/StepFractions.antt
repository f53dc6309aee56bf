-- Choices of the next cell by comparing the step fractions of the three axes; the rule by the least of them chooses least steps.
use Rattle.std.proofs.Common.{◌≡◌, ℕ, ◌+◌, ◌-◌, ◌*◌, ◌<◌, ◌≤◌, Bool, true, false, cond, ltb, Some, None, Option, sym, refl, subst, arith, le-ltb, lt-ltb}
use native.Mathlib.Decide.{dec_lt}
use Rattle.line.specs.Line.{Point, Cell, Axis, X, Y, Z, coordinate, index, Share, parts, NoLater, Within, TouchesAt}
use Rattle.line.specs.Walk.{InGrid, Step, up, down, Reaches, Choice, Chooses}
use Rattle.line.specs.StepFractions.{StepFraction, NoLaterStep, step_fraction, step_on, next_index, next_on, cell_at, earlier_axis, least_axis, step_along, least_step_rule}
use Rattle.line.proofs.Shares.{fraction_trans}
use Rattle.line.proofs.Steps.{rising_not_past, falling_not_past}

-- a statement about a test, by what the test says
by_test : (a b : ℕ) (P : Bool → Type 0) → (a < b → P true) → (b ≤ a → P false) → P (ltb a b)
by_test a b P y z = elim (dec_lt a b) [
  | yes h ↦ subst P (sym (lt-ltb a b h)) (y h)
  | no h ↦ let l : b ≤ a = omega arith in subst P (sym (le-ltb a b l)) (z l)
]

-- ---- one axis

pub step_fraction_rising : (o t k : ℕ) → o < t → step_fraction o t k ≡ record { gap = 128 * k + 128 - o; size = t - o }
unfolding step_fraction
step_fraction_rising o t k u = rw (lt-ltb o t u)

pub step_fraction_falling : (o t k : ℕ) → t < o → step_fraction o t k ≡ record { gap = o - 128 * k; size = o - t }
unfolding step_fraction
step_fraction_falling o t k u = let l : t ≤ o = omega arith in rw (le-ltb o t l, lt-ltb t o u)

pub step_fraction_level : (o t k : ℕ) → o ≡ t → step_fraction o t k ≡ record { gap = 1; size = 0 }
unfolding step_fraction
step_fraction_level o t k e =
    let l : t ≤ o = omega arith in
    let m : o ≤ t = omega arith in
    rw (le-ltb o t l, le-ltb t o m)

-- the step fraction f and the next index y from the cell k, by direction
data StepFrom (o t k : ℕ) (f : StepFraction) (y : Option ℕ) : Type 0 where
  rises : o < t → f.gap ≡ 128 * k + 128 - o → f.size ≡ t - o → k < 7 → y ≡ Some (k + 1) → StepFrom o t k f y
  leaves_above : o < t → f.gap ≡ 128 * k + 128 - o → f.size ≡ t - o → 7 ≤ k → y ≡ None → StepFrom o t k f y
  falls : t < o → f.gap ≡ o - 128 * k → f.size ≡ o - t → 0 < k → y ≡ Some (k - 1) → StepFrom o t k f y
  leaves_below : t < o → f.gap ≡ o - 128 * k → f.size ≡ o - t → k ≡ 0 → y ≡ None → StepFrom o t k f y
  level : o ≡ t → f.gap ≡ 1 → f.size ≡ 0 → StepFrom o t k f y

step_from : (o t k : ℕ) → StepFrom o t k (step_fraction o t k) (next_index o t k)
unfolding step_fraction next_index
step_from o t k =
    let rising : StepFraction = record { gap = 128 * k + 128 - o; size = t - o } in
    let falling : StepFraction = record { gap = o - 128 * k; size = o - t } in
    let still : StepFraction = record { gap = 1; size = 0 } in
    let below : Option ℕ = cond (ltb 0 k) (Some (k - 1)) None in
    by_test o t (λ b. StepFrom o t k (cond b rising (cond (ltb t o) falling still)) (cond b (cond (ltb k 7) (Some (k + 1)) None) below))
    (λ u. by_test k 7 (λ b. StepFrom o t k rising (cond b (Some (k + 1)) None)) (λ l. rises u refl refl l refl) (λ l. leaves_above u refl refl l refl))
    (λ u. by_test t o (λ b. StepFrom o t k (cond b falling still) below)
    (λ v. by_test 0 k (λ b. StepFrom o t k falling (cond b (Some (k - 1)) None)) (λ l. falls v refl refl l refl) (λ l. leaves_below v refl refl (omega arith) refl))
    (λ v. level (omega arith) refl refl))

never_both : {n : ℕ} {y : Option ℕ} → y ≡ Some n → y ≡ None → ⊥
never_both p q = let z : ◌≡◌ {A = ℕ} 0 1 = cc in omega arith

pub fraction_not_empty : (o t k : ℕ) → 0 < (step_fraction o t k).gap + (step_fraction o t k).size
fraction_not_empty o t k = elim (step_from o t k) [
  | rises u g s l e ↦ omega arith
  | leaves_above u g s l e ↦ omega arith
  | falls u g s l e ↦ omega arith
  | leaves_below u g s l e ↦ omega arith
  | level u g s ↦ omega arith
]

-- a face that is reached at 1 or later is not passed before t
reaches_from_fraction : (o t k : ℕ) (e : Share) → Within e o t k → (step_fraction o t k).size ≤ (step_fraction o t k).gap → Reaches o t k
reaches_from_fraction o t k e w h = elim (step_from o t k) [
  | rises u g s l q ↦ record { up = λ v. omega arith; down = λ v. omega arith }
  | leaves_above u g s l q ↦ record { up = λ v. omega arith; down = λ v. omega arith }
  | falls u g s l q ↦ let p = falling_not_past o t k e u w in record { up = λ v. omega arith; down = λ v. omega arith }
  | leaves_below u g s l q ↦ record { up = λ v. omega arith; down = λ v. omega arith }
  | level u g s ↦ record { up = λ v. omega arith; down = λ v. omega arith }
]

-- a step has the step fraction for its share
fraction_of_step : (o t k n : ℕ) (r : Share) → Step o t k r n → ((step_fraction o t k).gap ≡ r.gone) × ((step_fraction o t k).size ≡ parts r)
fraction_of_step o t k n r (up u a b e) = elim (step_from o t k) [
  | rises u g s l q ↦ omega arith
  | leaves_above u g s l q ↦ omega arith
  | falls u g s l q ↦ absurd (omega arith)
  | leaves_below u g s l q ↦ absurd (omega arith)
  | level u g s ↦ absurd (omega arith)
]
fraction_of_step o t k n r (down u a b e) = elim (step_from o t k) [
  | rises u g s l q ↦ absurd (omega arith)
  | leaves_above u g s l q ↦ absurd (omega arith)
  | falls u g s l q ↦ omega arith
  | leaves_below u g s l q ↦ omega arith
  | level u g s ↦ absurd (omega arith)
]

-- a face that is reached at 1 or earlier, with a cell of the grid behind it
step_from_fraction : (o t k n : ℕ) (e : Share) → Within e o t k → (step_fraction o t k).gap ≤ (step_fraction o t k).size → next_index o t k ≡ Some n → (s : Share) × Step o t k s n
step_from_fraction o t k n e w h q = elim (step_from o t k) [
  | rises u g s l y ↦
      let z : n ≡ k + 1 = cc in
      let p = rising_not_past o t k e u w in
      (record { gone = 128 * k + 128 - o; left = t - (128 * k + 128); positive = omega arith }, up u (omega arith) (omega arith) z)
  | leaves_above u g s l y ↦ absurd (never_both q y)
  | falls u g s l y ↦
      let z : n ≡ k - 1 = cc in
      let p = falling_not_past o t k e u w in
      (record { gone = o - 128 * k; left = 128 * k - t; positive = omega arith }, down u (omega arith) (omega arith) (omega arith))
  | leaves_below u g s l y ↦ absurd (never_both q y)
  | level u g s ↦ absurd (omega arith)
]

-- with none behind it, it is reached at 1 or later
outer_face_not_before : (o t k : ℕ) → t ≤ 1023 → next_index o t k ≡ None → (step_fraction o t k).size ≤ (step_fraction o t k).gap
outer_face_not_before o t k m q = elim (step_from o t k) [
  | rises u g s l y ↦ absurd (never_both y q)
  | leaves_above u g s l y ↦ omega arith
  | falls u g s l y ↦ absurd (never_both y q)
  | leaves_below u g s l y ↦ omega arith
  | level u g s ↦ omega arith
]

-- ---- three axes

no_later_from_fractions : (s r : Share) (f g : StepFraction) → f.gap ≡ s.gone → f.size ≡ parts s → g.gap ≡ r.gone → g.size ≡ parts r → NoLaterStep f g → NoLater s r
no_later_from_fractions s r f g a b c d h = rw (a, b, c, d) at h

-- at a touched cell, along an axis i whose step fraction is least
module _ (o t : Point) (c : Cell) (e : Share) (a : TouchesAt o t c e) (l : InGrid t) (i : Axis) (least : (j : Axis) → NoLaterStep (step_on o t c i) (step_on o t c j)) where
  -- a walk may end where that is 1 or later
  pub choice_to_end : (step_on o t c i).size ≤ (step_on o t c i).gap → Choice o t c None
  choice_to_end h j =
      reaches_from_fraction (coordinate o j) (coordinate t j) (index c j) e (a j)
      (omega (
        arith,
        fraction_trans 1 1 (step_on o t c i).gap (step_on o t c i).size (step_on o t c j).gap (step_on o t c j).size
            (fraction_not_empty (coordinate o i) (coordinate t i) (index c i)) (omega arith) (least j),
      ))

  -- and may step to the next index where it is 1 or earlier; where the grid has none, it may end
  pub choice_to_step : (step_on o t c i).gap ≤ (step_on o t c i).size → (y : Option ℕ) → next_on o t c i ≡ y → Choice o t c (cell_at c i y)
  choice_to_step h None q = choice_to_end (outer_face_not_before (coordinate o i) (coordinate t i) (index c i) (l i) q)
  choice_to_step h (Some n) q =
      let p = step_from_fraction (coordinate o i) (coordinate t i) (index c i) n e (a i) h q in
      let f = fraction_of_step (coordinate o i) (coordinate t i) (index c i) n p.0 p.1 in
      record {
        axis = i;
        next = n;
        share = p.0;
        step = p.1;
        least = λ j r m st.
            let g = fraction_of_step (coordinate o j) (coordinate t j) (index c j) m r st in
            no_later_from_fractions p.0 r (step_on o t c i) (step_on o t c j) f.0 f.1 g.0 g.1 (least j);
        leads = refl;
      }

  choice_along : Choice o t c (step_along o t c i)
  choice_along =
      by_test (step_on o t c i).size (step_on o t c i).gap (λ b. Choice o t c (cond b None (cell_at c i (next_on o t c i))))
      (λ h. choice_to_end (omega arith)) (λ h. choice_to_step h (next_on o t c i) refl)

-- ---- the rule by the least fraction
module _ (o t : Point) (c : Cell) where
  earlier_than_first : (i j : Axis) → NoLaterStep (step_on o t c (earlier_axis o t c i j)) (step_on o t c i)
  unfolding earlier_axis
  earlier_than_first i j =
      by_test ((step_on o t c j).gap * (step_on o t c i).size) ((step_on o t c i).gap * (step_on o t c j).size)
      (λ b. NoLaterStep (step_on o t c (cond b j i)) (step_on o t c i)) (λ h. omega arith) (λ h. omega arith)

  earlier_than_second : (i j : Axis) → NoLaterStep (step_on o t c (earlier_axis o t c i j)) (step_on o t c j)
  unfolding earlier_axis
  earlier_than_second i j =
      by_test ((step_on o t c j).gap * (step_on o t c i).size) ((step_on o t c i).gap * (step_on o t c j).size)
      (λ b. NoLaterStep (step_on o t c (cond b j i)) (step_on o t c j)) (λ h. omega arith) (λ h. omega arith)

  pub no_later_step_trans : (i j k : Axis) → NoLaterStep (step_on o t c i) (step_on o t c j) → NoLaterStep (step_on o t c j) (step_on o t c k)
      → NoLaterStep (step_on o t c i) (step_on o t c k)
  no_later_step_trans i j k h g =
      fraction_trans (step_on o t c i).gap (step_on o t c i).size (step_on o t c j).gap (step_on o t c j).size (step_on o t c k).gap (step_on o t c k).size
      (fraction_not_empty (coordinate o j) (coordinate t j) (index c j)) h g

  least_axis_first : (j : Axis) → NoLaterStep (step_on o t c (least_axis o t c)) (step_on o t c j)
  unfolding least_axis
  least_axis_first X = no_later_step_trans (least_axis o t c) (earlier_axis o t c X Y) X (earlier_than_first (earlier_axis o t c X Y) Z) (earlier_than_first X Y)
  least_axis_first Y = no_later_step_trans (least_axis o t c) (earlier_axis o t c X Y) Y (earlier_than_first (earlier_axis o t c X Y) Z) (earlier_than_second X Y)
  least_axis_first Z = earlier_than_second (earlier_axis o t c X Y) Z

pub least_step_rule_chooses : (o t : Point) → InGrid t → Chooses o t (least_step_rule o t)
unfolding least_step_rule
least_step_rule_chooses o t l c e a = choice_along o t c e a l (least_axis o t c) (least_axis_first o t c)
