-- A list of 512 kinds as a cell store.
use Rattle.std.specs.Prelude.{◌≡◌, ℕ, zero, suc, ◌<◌, ◌≤◌, false, List, length, replicate, Ok, slice_index, slice_set, refl}
use Rattle.std.proofs.Common.{ap, ◌∙◌, inl, inr, arith, length-set, get_or-set_same, get_or-set_other}
use Rattle.std.proofs.lemmas.Bool.{cases_eq, cases_lt, eq-eqb, ne_eqb}
use Rattle.std.proofs.lemmas.List.{set_past, get_or_past}
use Rattle.std.proofs.lemmas.Bool.Decides.{nat_tests}
use Rattle.stores.specs.Kinds.{Kinds}
use Rattle.stores.specs.Store.{Sets, with_cell, is_full}
use Rattle.stores.specs.Counts.{filled_lt}
use Rattle.stores.specs.Setting.{accepted}

pub zeros_at : (k n : ℕ) → ◌≡◌ {A = ℕ} (slice_index (replicate k 0) n) 0
zeros_at zero n = refl
zeros_at (suc k) zero = refl
zeros_at (suc k) (suc n) = zeros_at k n

pub outside_empty : (cells : List ℕ) → Kinds cells → (n : ℕ) → 512 ≤ n → slice_index cells n ≡ 0
outside_empty cells ok n h = let past : length cells ≤ n = omega (arith, ok.0) in get_or_past cells n 0 past

pub kinds_set : (cells : List ℕ) (n kind : ℕ) → Kinds cells → kind ≤ 1 → Kinds (slice_set cells n kind)
kinds_set cells n kind ok h = (length-set cells n kind ∙ ok.0, at)
  where
    at : (m : ℕ) → slice_index (slice_set cells n kind) m ≤ 1
    at m =
        elim (cases_eq m n) [
          | inl same ↦
              elim (cases_lt n (length cells)) [
                | inl within ↦ omega (arith, ap (λ k. slice_index (slice_set cells n kind) k) same, get_or-set_same cells n kind 0 within)
                | inr past ↦ rw (set_past cells n kind past) (ok.1 m)
              ]
          | inr other ↦ rw (get_or-set_other cells n m kind 0 other) (ok.1 m)
        ]

never_full : (kinds : ℕ → ℕ) (n kind : ℕ) → n < 512 → is_full kinds 512 n kind ≡ false
never_full kinds n kind h =
    elim (cases_eq (kinds n) 0) [
      | inl e ↦ let l = filled_lt 512 kinds n h e in grind (arith, nat_tests)
      | inr e ↦ grind (arith, nat_tests)
    ]

set_at : (cells : List ℕ) (n kind m : ℕ) → n < length cells → slice_index (slice_set cells n kind) m ≡ with_cell (λ k. slice_index cells k) n kind m
set_at cells n kind m h =
    elim (cases_eq m n) [
      | inl same ↦ rw (eq-eqb m n same, same) (get_or-set_same cells n kind 0 h)
      | inr other ↦ rw (ne_eqb m n other) (get_or-set_other cells n m kind 0 other)
    ]

pub table_sets : (cells : List ℕ) → Kinds cells → (n kind : ℕ) → n < 512 → kind ≤ 1 → Sets (λ m. slice_index cells m) (λ m. slice_index (slice_set cells n kind) m) 512 n kind (Ok tt)
table_sets cells ok n kind h k =
    let within : n < length cells = omega (arith, ok.0) in
    accepted (λ m. slice_index cells m) (λ m. slice_index (slice_set cells n kind) m) 512 n kind h k (never_full (λ m. slice_index cells m) n kind h) (λ m. set_at cells n kind m within)
