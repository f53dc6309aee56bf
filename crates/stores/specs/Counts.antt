-- Counting filled cells: never more than there are cells, fewer where one is empty, and one more where it is filled.
use Rattle.std.specs.Prelude.{◌≡◌, ℕ, zero, suc, ◌<◌, ◌≤◌, Bool, true, false, cond, ◌==◌, nat_eq, refl}
use Rattle.std.proofs.Common.{sym, ap, ◌∙◌, inl, inr, arith}
use Rattle.std.proofs.lemmas.Bool.{cases_eq, eq-eqb, ne_eqb}
use Rattle.stores.specs.Store.{filled_below, with_cell}

at_most_one : (b : Bool) → cond b 0 1 ≤ 1
at_most_one true = omega arith
at_most_one false = omega arith

pub filled_le : (n : ℕ) (kinds : ℕ → ℕ) → filled_below n kinds ≤ n
unfolding filled_below
filled_le zero kinds = omega arith
filled_le (suc n) kinds = omega (arith, filled_le n kinds, at_most_one (kinds n == 0))

pub filled_lt : (n : ℕ) (kinds : ℕ → ℕ) (m : ℕ) → m < n → kinds m ≡ 0 → filled_below n kinds < n
unfolding filled_below
filled_lt zero kinds m h e = absurd (omega arith)
filled_lt (suc n) kinds m h e =
    elim (cases_eq m n) [
      | inl same ↦
          let z : kinds n ≡ 0 = ap kinds (sym same) ∙ e in
          rw (eq-eqb (kinds n) 0 z) (omega (arith, filled_le n kinds))
      | inr other ↦ omega (arith, filled_lt n kinds m (omega arith) e, at_most_one (kinds n == 0))
    ]

pub filled_none : (n : ℕ) (kinds : ℕ → ℕ) → ((m : ℕ) → kinds m ≡ 0) → filled_below n kinds ≡ 0
unfolding filled_below
filled_none zero kinds h = refl
filled_none (suc n) kinds h = rw (eq-eqb (kinds n) 0 (h n)) (omega (arith, filled_none n kinds h))

pub filled_same : (n : ℕ) (f g : ℕ → ℕ) → ((m : ℕ) → m < n → f m ≡ g m) → filled_below n f ≡ filled_below n g
unfolding filled_below
filled_same zero f g h = refl
filled_same (suc n) f g h = rw (h n (omega arith), filled_same n f g (λ m l. h m (omega arith))) refl

-- filling an empty cell adds one
pub filled_more : (n : ℕ) (kinds : ℕ → ℕ) (m : ℕ) → m < n → kinds m ≡ 0 → filled_below n (with_cell kinds m 1) ≡ suc (filled_below n kinds)
unfolding filled_below
filled_more zero kinds m h e = absurd (omega arith)
filled_more (suc n) kinds m h e =
    elim (cases_eq m n) [
      | inl same ↦
          let rest = filled_same n (with_cell kinds m 1) kinds (λ k l. rw (ne_eqb k m (omega arith)) refl) in
          let empty : kinds n ≡ 0 = ap kinds (sym same) ∙ e in
          rw (eq-eqb n m (sym same), eq-eqb (kinds n) 0 empty) (omega (arith, rest))
      | inr other ↦
          let apart : nat_eq n m ≡ false = ne_eqb n m (λ x. other (sym x)) in
          rw apart (omega (arith, filled_more n kinds m (omega arith) e))
    ]
