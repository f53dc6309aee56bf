-- A look along a walk by least steps is right about the filled cells that the line crosses, and depends only on cells that it touches.
use Rattle.std.proofs.Common.{◌≡◌, ℕ, zero, suc, ◌+◌, ◌<◌, ◌≤◌, Bool, true, false, cond, List, length, Some, None, Option, sym, refl, ap, ◌∙◌, subst, inl, inr, true≢false, arith}
use Rattle.line.specs.Line.{Point, Cell, Share, NoLater, TouchesAt, Touches, Crosses}
use Rattle.line.specs.Faces.{Entered}
use Rattle.line.specs.Walk.{InGrid, cell_of, LeastStep, Choice, Chooses, walk_on, walk, Visits}
use Rattle.line.specs.Look.{LookResult, counted, look_on, look, StopsFor, Answers}
use Rattle.line.proofs.Shares.{no_later_trans}
use Rattle.line.proofs.Entry.{touched_is_entered}
use Rattle.line.proofs.Walk.{AheadOf, StandsAt, least_step_stands, least_step_ahead, least_step_leaves_fewer, end_ahead, steps_left_from, at_once, start_stands_at_once, start_ahead, start_steps_left, visited_is_touched, walk_is_short}

-- ---- what an answer says of the crossed cells ahead of c
record FirstAhead (o t : Point) (stops : Cell → Bool) (c k : Cell) : Type 0 where
  is_stop : stops k ≡ true
  entered : Entered o t k
  first : (d : Cell) → Crosses o t d → AheadOf o t c d → stops d ≡ true → (r : Share) → TouchesAt o t d r → NoLater entered.share r

abbrev AnswersAhead : Point → Point → (Cell → Bool) → Cell → Option Cell → Type 0
AnswersAhead o t stops c None = (d : Cell) → Crosses o t d → AheadOf o t c d → stops d ≡ false
AnswersAhead o t stops c (Some k) = FirstAhead o t stops c k

module _ (o t : Point) (stops : Cell → Bool) (c : Cell) (e : Share) (a : StandsAt o t c e) where
  -- a cell that stops the line
  answers_here : stops c ≡ true → FirstAhead o t stops c c
  answers_here q =
      let f = touched_is_entered o t c (e, a.touches) in
      record { is_stop = q; entered = f; first = λ d x g s r w. no_later_trans f.share e r (f.entry.first e a.touches) (a.first d g r w) }

  -- one that does not: the answer from the next cell d is right from c too
  answers_behind : (d : Cell) → LeastStep o t c d → stops c ≡ false → (y : Option Cell) → AnswersAhead o t stops d y → AnswersAhead o t stops c y
  answers_behind d f q None h = λ k x g. elim (least_step_ahead o t c d e a f k x g) [ inl p ↦ subst (λ m. stops m ≡ false) p q | inr g' ↦ h k x g' ]
  answers_behind d f q (Some m) h = record {
    is_stop = h.is_stop;
    entered = h.entered;
    first = λ k x g s r w. elim (least_step_ahead o t c d e a f k x g) [
      | inl p ↦ absurd (true≢false (sym s ∙ subst (λ m. stops m ≡ false) p q))
      | inr g' ↦ h.first k x g' s r w
    ];
  }

  answers_on : (rest : Cell → LookResult) (y : Option Cell) → Choice o t c y → stops c ≡ false → ((d : Cell) → LeastStep o t c d → AnswersAhead o t stops d (rest d).hit)
      → AnswersAhead o t stops c (look_on rest y).hit
  answers_on rest None h q more = λ d x g. subst (λ m. stops m ≡ false) (end_ahead o t c d h x g) q
  answers_on rest (Some d) h q more = answers_behind d h q (rest d).hit (more d h)

  answers_at : (b : Bool) → stops c ≡ b → (r : LookResult) → (stops c ≡ false → AnswersAhead o t stops c r.hit)
      → AnswersAhead o t stops c (cond b (record { hit = Some c; visited = 1 }) r).hit
  answers_at true q r more = answers_here q
  answers_at false q r more = more q

answers_from : (o t : Point) (rule : Cell → Option Cell) → Chooses o t rule → (stops : Cell → Bool) → InGrid t → (n : ℕ) (c : Cell) (e : Share) → StandsAt o t c e
    → steps_left_from o t c < n → AnswersAhead o t stops c (look stops rule n c).hit
unfolding look
answers_from o t rule chooses stops l zero c e a m = absurd (omega arith)
answers_from o t rule chooses stops l (suc n) c e a m =
    answers_at o t stops c e a (stops c) refl (look_on (look stops rule n) (rule c))
    (λ q. answers_on o t stops c e a (look stops rule n) (rule c) (chooses c e a.touches) q
    (λ d f. answers_from o t rule chooses stops l n d f.share (least_step_stands o t c d e a f) (omega (arith, least_step_leaves_fewer o t c d l f))))

-- ---- the filled cells
not_filled : (b d : Bool) → b ≡ false → (d ≡ true → b ≡ true) → d ≡ false
not_filled b true h f = sym (f refl) ∙ h
not_filled b false h f = refl

answers_filled : (o t : Point) (filled stops : Cell → Bool) → StopsFor o t filled stops → (y : Option Cell) → AnswersAhead o t stops (cell_of o) y → Answers o t filled y
answers_filled o t filled stops f None h =
    λ c x. not_filled (stops c) (filled c) (h c x (start_ahead o t c x)) (f.each_crossed c x)
answers_filled o t filled stops f (Some k) h = record {
  is_filled = f.only_filled k h.is_stop;
  entered = h.entered;
  first = λ c x q r w. h.first c x (start_ahead o t c x) (f.each_crossed c x q) r w;
}

-- ---- the count
visited_on : (rest : Cell → LookResult) (cells : Cell → List Cell) (y : Option Cell) → ((d : Cell) → (rest d).visited ≤ length (cells d)) → (look_on rest y).visited ≤ length (walk_on cells y) + 1
visited_on rest cells None h = omega arith
visited_on rest cells (Some d) h = omega (arith, h d)

visited_at : (b : Bool) (c : Cell) (r : LookResult) (m : ℕ) → r.visited ≤ m + 1 → (cond b (record { hit = Some c; visited = 1 }) r).visited ≤ m + 1
visited_at true c r m h = omega arith
visited_at false c r m h = h

-- a look stands on no more cells than the walk
pub visited_within_walk : (stops : Cell → Bool) (rule : Cell → Option Cell) (n : ℕ) (c : Cell) → (look stops rule n c).visited ≤ length (walk rule n c)
unfolding look walk
visited_within_walk stops rule zero c = omega arith
visited_within_walk stops rule (suc n) c =
    omega (
      arith,
      visited_at (stops c) c (look_on (look stops rule n) (rule c)) (length (walk_on (walk rule n) (rule c)))
          (visited_on (look stops rule n) (walk rule n) (rule c) (visited_within_walk stops rule n)),
    )

-- ---- the cells that a look depends on
module _ (stops stops' : Cell → Bool) (rule : Cell → Option Cell) where
  same_on : (f g : Cell → LookResult) (cells : Cell → List Cell) (y : Option Cell)
      → ((d : Cell) → ((k : Cell) → Visits (cells d) k → stops k ≡ stops' k) → f d ≡ g d) → ((k : Cell) → Visits (walk_on cells y) k → stops k ≡ stops' k)
      → look_on f y ≡ look_on g y
  same_on f g cells None more h = refl
  same_on f g cells (Some d) more h = ap counted (more d h)

  -- only those that the walk stands on
  pub same_on_walk : (n : ℕ) (c : Cell) → ((k : Cell) → Visits (walk rule n c) k → stops k ≡ stops' k) → look stops rule n c ≡ look stops' rule n c
  unfolding look walk
  same_on_walk zero c h = refl
  same_on_walk (suc n) c h =
      ap (λ b. cond b (record { hit = Some c; visited = 1 }) (look_on (look stops rule n) (rule c))) (h c (inl refl))
      ∙ ap (λ r. cond (stops' c) (record { hit = Some c; visited = 1 }) r)
      (same_on (look stops rule n) (look stops' rule n) (walk rule n) (rule c) (same_on_walk n) (λ k v. h k (inr v)))

-- ---- the look from the cell of o, by a rule that chooses least steps
module _ (o t : Point) (rule : Cell → Option Cell) (chooses : Chooses o t rule) where
  pub look_answers : InGrid o → InGrid t → (filled stops : Cell → Bool) → StopsFor o t filled stops → (n : ℕ) → 22 ≤ n → Answers o t filled (look stops rule n (cell_of o)).hit
  look_answers lo lt filled stops f n h =
      answers_filled o t filled stops f (look stops rule n (cell_of o)).hit
      (answers_from o t rule chooses stops lt n (cell_of o) at_once (start_stands_at_once o t) (omega (arith, start_steps_left o t lo)))

  pub look_visits_few : InGrid o → InGrid t → (stops : Cell → Bool) (n : ℕ) → (look stops rule n (cell_of o)).visited ≤ 22
  look_visits_few lo lt stops n =
      omega (arith, visited_within_walk stops rule n (cell_of o), walk_is_short o t rule chooses n lo lt)

  pub same_on_touched : (stops stops' : Cell → Bool) → ((c : Cell) → Touches o t c → stops c ≡ stops' c) → (n : ℕ)
      → look stops rule n (cell_of o) ≡ look stops' rule n (cell_of o)
  same_on_touched stops stops' h n = same_on_walk stops stops' rule n (cell_of o) (λ k v. h k (visited_is_touched o t rule chooses n k v))
