-- The few store: 64 places, each free or with the number of a filled cell.
use Rattle.std.specs.Prelude.{◌≡◌, ℕ, ◌<◌, ◌≤◌, Bool, true, false, List, length, Some, None, count_by, Option, ◌==◌, ◌≢◌, slice_index_or}

abbrev pub same : Option ℕ → Option ℕ → Bool
same None None = true
same None (Some n) = false
same (Some m) None = false
same (Some m) (Some n) = m == n

-- how often p stands among the places
unfoldable pub occurrences : List (Option ℕ) → Option ℕ → ℕ
occurrences places p = count_by (same p) places

-- a cell is filled where its number stands
abbrev pub few_kinds : List (Option ℕ) → ℕ → ℕ
few_kinds places n = occurrences places (Some n)

-- 64 places; no number stands twice, and none above 511 at all
abbrev pub DistinctCells : List (Option ℕ) → Type 0
DistinctCells places = (length places ≡ 64) × ((n : ℕ) → few_kinds places n ≤ 1) × ((n : ℕ) → 512 ≤ n → few_kinds places n ≡ 0)

-- ---- the first place that is p, if any is
abbrev pub NoneBelow : List (Option ℕ) → Option ℕ → ℕ → Type 0
NoneBelow places p k = (i : ℕ) → i < k → slice_index_or places i None ≢ p

abbrev pub FirstAt : List (Option ℕ) → Option ℕ → Option ℕ → Type 0
FirstAt places p None = NoneBelow places p (length places)
FirstAt places p (Some i) = (i < length places) × (slice_index_or places i None ≡ p) × NoneBelow places p i
