-- The places of a few store as a cell store.
use Rattle.std.proofs.Common.{◌≡◌, ℕ, suc, ◌+◌, ◌<◌, ◌≤◌, true, false, cond, List, [], ◌∷◌, length, get_or, set, replicate, Some, None, Option, Ok, Err, sym, refl, ap, ◌∙◌, inl, inr, arith, length-set}
use Rattle.std.proofs.ByRecursion.{All-from_get_or, sum_by_le}
use Rattle.std.proofs.lemmas.List.Sums.{sum_by-cons, sum_by-set, get_or-le-sum_by}
use Rattle.std.proofs.lemmas.Bool.{cases_lt, eq-eqb, ne_eqb}
use Rattle.std.proofs.lemmas.Bool.Decides.{nat_tests}
use Rattle.stores.specs.declared.cell_store.StoreRefusal.TheVariants.{Full}
use Rattle.stores.specs.Few.{same, occurrences, few_kinds, DistinctCells, NoneBelow, FirstAt}
use Rattle.stores.specs.Store.{Sets, filled_cells, is_full, with_cell}
use Rattle.stores.specs.Counts.{filled_none, filled_same, filled_more}
use Rattle.stores.specs.Setting.{accepted, not_bad}

-- ---- how often a place stands

-- what place q adds to the count of p
abbrev adds : Option ℕ → Option ℕ → ℕ
adds p q = cond (same p q) 1 0

adds_itself : (p : Option ℕ) → adds p p ≡ 1
adds_itself None = refl
adds_itself (Some n) = rw (eq-eqb n n refl) refl

adds_other : (p q : Option ℕ) → (q ≡ p → ⊥) → adds p q ≤ 0
adds_other None None h = absurd (h refl)
adds_other None (Some n) h = omega arith
adds_other (Some m) None h = omega arith
adds_other (Some m) (Some n) h = rw (ne_eqb m n (λ e. h (ap Some (sym e)))) (omega arith)

occurrences_none : (p : Option ℕ) → occurrences [] p ≡ 0
unfolding occurrences
occurrences_none p = refl

occurrences_cons : (p q : Option ℕ) (ps : List (Option ℕ)) → occurrences (q ∷ ps) p ≡ adds p q + occurrences ps p
unfolding occurrences
occurrences_cons p q ps = sum_by-cons (adds p) q ps

occurrences_set : (p v : Option ℕ) (ps : List (Option ℕ)) (i : ℕ) → i < length ps → occurrences (set ps i v) p + adds p (get_or ps i None) ≡ occurrences ps p + adds p v
unfolding occurrences
occurrences_set p v ps i h = sum_by-set (adds p) ps i v None h

pub stands : (p : Option ℕ) (ps : List (Option ℕ)) (i : ℕ) → i < length ps → get_or ps i None ≡ p → 1 ≤ occurrences ps p
unfolding occurrences
stands p ps i h e = omega (arith, get_or-le-sum_by (adds p) ps i None h, ap (adds p) e, adds_itself p)

pub stands_nowhere : (p : Option ℕ) (ps : List (Option ℕ)) → NoneBelow ps p (length ps) → occurrences ps p ≡ 0
unfolding occurrences
stands_nowhere p ps h =
    omega (arith, sum_by_le (adds p) 0 ps (All-from_get_or (λ q. adds p q ≤ 0) ps None (λ i l. adds_other p (get_or ps i None) (h i l))))

pub all_free : (n : ℕ) → few_kinds (replicate 64 None) n ≡ 0
unfolding occurrences
all_free n = refl

-- ---- each place is free or of one filled cell
kinds_cons : (m n : ℕ) (ps : List (Option ℕ)) → few_kinds ps m ≡ 0 → few_kinds (Some m ∷ ps) n ≡ with_cell (few_kinds ps) m 1 n
kinds_cons m n ps empty = let head = occurrences_cons (Some n) (Some m) ps in grind (arith, nat_tests)

filled_cons : (p : Option ℕ) (ps : List (Option ℕ)) → ((n : ℕ) → few_kinds (p ∷ ps) n ≤ 1) → ((n : ℕ) → 512 ≤ n → few_kinds (p ∷ ps) n ≡ 0) → filled_cells (few_kinds (p ∷ ps)) + adds None p ≡ suc (filled_cells (few_kinds ps))
filled_cons None ps once inside =
    omega (arith, filled_same 512 (few_kinds (None ∷ ps)) (few_kinds ps) (λ n l. omega (arith, occurrences_cons (Some n) None ps)))
filled_cons (Some m) ps once inside =
    let head = occurrences_cons (Some m) (Some m) ps in
    let itself = adds_itself (Some m) in
    let small : m < 512 = elim (cases_lt m 512) [
      | inl l ↦ l
      | inr l ↦ absurd (omega (arith, inside m l))
    ] in
    let empty : few_kinds ps m ≡ 0 = omega (arith, once m) in
    let more = filled_more 512 (few_kinds ps) m small empty in
    omega (arith, more, filled_same 512 (few_kinds (Some m ∷ ps)) (with_cell (few_kinds ps) m 1) (λ n l. kinds_cons m n ps empty))

filled_or_free : (ps : List (Option ℕ)) → ((n : ℕ) → few_kinds ps n ≤ 1) → ((n : ℕ) → 512 ≤ n → few_kinds ps n ≡ 0) → filled_cells (few_kinds ps) + occurrences ps None ≡ length ps
filled_or_free [] once inside = omega (arith, filled_none 512 (few_kinds []) (λ n. occurrences_none (Some n)), occurrences_none None)
filled_or_free (p ∷ ps) once inside =
    let fewer : (n : ℕ) → few_kinds ps n ≤ few_kinds (p ∷ ps) n = λ n. omega (arith, occurrences_cons (Some n) p ps) in
    let rest = filled_or_free ps (λ n. omega (arith, once n, fewer n)) (λ n h. omega (arith, inside n h, fewer n)) in
    omega (arith, rest, occurrences_cons None p ps, filled_cons p ps once inside)

-- ---- what setting leaves
kinds_wiped : (ps : List (Option ℕ)) (i n m : ℕ) → i < length ps → get_or ps i None ≡ Some n → few_kinds ps n ≡ 1 → few_kinds (set ps i None) m ≡ with_cell (few_kinds ps) n 0 m
kinds_wiped ps i n m h e filled =
    let step = occurrences_set (Some m) None ps i h in
    let was = ap (adds (Some m)) e in
    grind (arith, nat_tests)

kinds_filled : (ps : List (Option ℕ)) (i n m : ℕ) → i < length ps → get_or ps i None ≡ None → few_kinds ps n ≡ 0 → few_kinds (set ps i (Some n)) m ≡ with_cell (few_kinds ps) n 1 m
kinds_filled ps i n m h e empty =
    let step = occurrences_set (Some m) (Some n) ps i h in
    let was = ap (adds (Some m)) e in
    grind (arith, nat_tests)

distinct_set : (ps : List (Option ℕ)) (i n kind : ℕ) (v : Option ℕ) → DistinctCells ps → n < 512 → kind ≤ 1 → ((m : ℕ) → few_kinds (set ps i v) m ≡ with_cell (few_kinds ps) n kind m) → DistinctCells (set ps i v)
distinct_set ps i n kind v ok h k after = (
  length-set ps i v ∙ ok.0,
  (λ m. let a = after m in let b = ok.1 m in grind (arith, nat_tests)),
  (λ m l. let a = after m in let b = ok.2 m l in grind (arith, nat_tests)),
)

pub stands_once : (ps : List (Option ℕ)) (n i : ℕ) → DistinctCells ps → FirstAt ps (Some n) (Some i) → few_kinds ps n ≡ 1
stands_once ps n i ok at = omega (arith, ok.1 n, stands (Some n) ps i at.0 at.1)

-- ---- a wipe
pub distinct_wiped : (ps : List (Option ℕ)) (n i : ℕ) → DistinctCells ps → n < 512 → FirstAt ps (Some n) (Some i) → DistinctCells (set ps i None)
distinct_wiped ps n i ok h at =
    distinct_set ps i n 0 None ok h (omega arith) (λ m. kinds_wiped ps i n m at.0 at.1 (stands_once ps n i ok at))

pub sets_wiped : (ps : List (Option ℕ)) (n kind i : ℕ) → DistinctCells ps → n < 512 → kind ≡ 0 → FirstAt ps (Some n) (Some i) → Sets (few_kinds ps) (few_kinds (set ps i None)) 64 n kind (Ok tt)
sets_wiped ps n kind i ok h e at =
    let room : is_full (few_kinds ps) 64 n kind ≡ false = grind (arith, nat_tests) in
    accepted (few_kinds ps) (few_kinds (set ps i None)) 64 n kind h (omega arith) room
    (λ m. rw e (kinds_wiped ps i n m at.0 at.1 (stands_once ps n i ok at)))

-- ---- a cell that has the kind already
pub sets_kept : (ps : List (Option ℕ)) (n kind : ℕ) → n < 512 → kind ≤ 1 → few_kinds ps n ≡ kind → Sets (few_kinds ps) (few_kinds ps) 64 n kind (Ok tt)
sets_kept ps n kind h k e =
    let room : is_full (few_kinds ps) 64 n kind ≡ false = grind (arith, nat_tests) in
    accepted (few_kinds ps) (few_kinds ps) 64 n kind h k room (λ m. grind (arith, nat_tests))

-- ---- an empty cell to be filled
pub distinct_filled : (ps : List (Option ℕ)) (n i : ℕ) → DistinctCells ps → n < 512 → FirstAt ps (Some n) None → FirstAt ps None (Some i) → DistinctCells (set ps i (Some n))
distinct_filled ps n i ok h none free =
    distinct_set ps i n 1 (Some n) ok h (omega arith) (λ m. kinds_filled ps i n m free.0 free.1 (stands_nowhere (Some n) ps none))

pub sets_filled : (ps : List (Option ℕ)) (n kind i : ℕ) → DistinctCells ps → n < 512 → kind ≡ 1 → FirstAt ps (Some n) None → FirstAt ps None (Some i) → Sets (few_kinds ps) (few_kinds (set ps i (Some n))) 64 n kind (Ok tt)
sets_filled ps n kind i ok h e none free =
    let all = filled_or_free ps ok.1 ok.2 in
    let some = stands None ps i free.0 free.1 in
    let room : is_full (few_kinds ps) 64 n kind ≡ false = grind (arith, nat_tests) in
    accepted (few_kinds ps) (few_kinds (set ps i (Some n))) 64 n kind h (omega arith) room
    (λ m. rw e (kinds_filled ps i n m free.0 free.1 (stands_nowhere (Some n) ps none)))

pub refused_full : (ps : List (Option ℕ)) (n kind : ℕ) → DistinctCells ps → n < 512 → kind ≡ 1 → FirstAt ps (Some n) None → FirstAt ps None None → Sets (few_kinds ps) (few_kinds ps) 64 n kind (Err Full)
refused_full ps n kind ok h e none free =
    let all = filled_or_free ps ok.1 ok.2 in
    let used = stands_nowhere None ps free in
    let empty = stands_nowhere (Some n) ps none in
    let full : is_full (few_kinds ps) 64 n kind ≡ true = grind (arith, nat_tests) in
    record {
      answer = rw (not_bad n kind h (omega arith), full) refl;
      cells = λ m. refl;
    }
