-- Giving a cell a kind, by what the store answers.
use Rattle.std.proofs.Common.{◌≡◌, ℕ, ◌<◌, ◌≤◌, Bool, true, false, cond, T, ℤ, pos, nat_abs, Ok, Err, Result, refl, ap, ◌∙◌, subst, arith}
use Rattle.std.proofs.lemmas.Int.{ints}
use Rattle.math.specs.declared.IVector.{IVector}
use Rattle.refusals.specs.declared.Refusal.{Refusal}
use Rattle.refusals.specs.declared.Refusal.TheVariants.{CellOutside, StoreFull}
use Rattle.stores.specs.declared.cell_store.StoreRefusal.{StoreRefusal}
use Rattle.stores.specs.declared.cell_store.StoreRefusal.TheVariants.{Bad, Full}
use Rattle.math.specs.Vectors.{between}
use Rattle.sight.specs.Ranges.{cell_fits}
use Rattle.stores.specs.Store.{Sets, is_bad, is_full}
use Rattle.stores.specs.Setting.{not_bad}
use Rattle.sight.specs.Cells.{cell_index, index_answer, cell_answer, GivesKind}

never : {A : Type 0} → ◌≡◌ {A = ℕ} 0 1 → A
never z = absurd (omega arith)

pub index_refused : (c : IVector) (e : Refusal) → Err e ≡ index_answer c → (cell_fits c ≡ false) × (e ≡ CellOutside)
unfolding index_answer
index_refused c e h = go (cell_fits c) h
  where
    go : (b : Bool) → Err e ≡ cond b (Ok (cell_index c)) (Err CellOutside) → (b ≡ false) × (e ≡ CellOutside)
    go true h = never cc
    go false h = (refl, cc)

pub index_accepted : (c : IVector) (n : ℕ) → Ok n ≡ index_answer c → (cell_fits c ≡ true) × (n ≡ cell_index c)
unfolding index_answer
index_accepted c n h = go (cell_fits c) h
  where
    go : (b : Bool) → Ok n ≡ cond b (Ok (cell_index c)) (Err CellOutside) → (b ≡ true) × (n ≡ cell_index c)
    go true h = (refl, cc)
    go false h = never cc

between_bound : (i : ℤ) → T (between (pos 0) (pos 7) i) → nat_abs i < 8
between_bound i h = grind (arith, ints)

pub index_bound : (c : IVector) → cell_fits c ≡ true → cell_index c < 512
index_bound c h =
    let x : T (between (pos 0) (pos 7) c.x) = grind arith in
    let y : T (between (pos 0) (pos 7) c.y) = grind arith in
    let z : T (between (pos 0) (pos 7) c.z) = grind arith in
    omega (arith, between_bound c.x x, between_bound c.y y, between_bound c.z z)

pub outside_changes_nothing : (kinds : ℕ → ℕ) (capacity : ℕ) (c : IVector) (kind : ℕ) → cell_fits c ≡ false → GivesKind kinds kinds capacity c kind (Err CellOutside)
unfolding cell_answer
outside_changes_nothing kinds capacity c kind f = record { answer = rw f refl; cells = λ m. refl }

module _ (before after : ℕ → ℕ) (capacity : ℕ) (c : IVector) (n kind : ℕ) (fits : cell_fits c ≡ true) (is : n ≡ cell_index c) (k : kind ≤ 1) where
  good : is_bad n kind ≡ false
  good = not_bad n kind (omega (arith, is, index_bound c fits)) k

  pub never_bad : Sets before after capacity n kind (Err Bad) → ⊥
  never_bad s = go (is_full before capacity n kind) (s.answer ∙ ap (λ (b : Bool). cond b (Err Bad) (cond (is_full before capacity n kind) (Err Full) (Ok tt))) good)
    where
      go : (b : Bool) → ◌≡◌ {A = Result (Unit {0}) StoreRefusal} (Err Bad) (cond b (Err Full) (Ok tt)) → ⊥
      go true e = never cc
      go false e = never cc

  pub given : Sets before after capacity n kind (Ok tt) → GivesKind before after capacity c kind (Ok tt)
  unfolding cell_answer
  given s = record {
    answer =
        let full : is_full before capacity (cell_index c) kind ≡ false = subst (λ (i : ℕ). is_full before capacity i kind ≡ false) is (go (is_full before capacity n kind) (s.answer ∙ ap (λ (b : Bool). cond b (Err Bad) (cond (is_full before capacity n kind) (Err Full) (Ok tt))) good)) in
        rw (fits, full) refl;
    cells = λ m. subst (λ (i : ℕ). after m ≡ Rattle.stores.specs.Store.with_cell before i kind m) is (s.cells m);
  }
    where
      go : (b : Bool) → ◌≡◌ {A = Result (Unit {0}) StoreRefusal} (Ok tt) (cond b (Err Full) (Ok tt)) → b ≡ false
      go true e = never cc
      go false e = refl

  pub full_changes_nothing : Sets before after capacity n kind (Err Full) → GivesKind before after capacity c kind (Err StoreFull)
  unfolding cell_answer
  full_changes_nothing s = record {
    answer =
        let full : is_full before capacity (cell_index c) kind ≡ true = subst (λ (i : ℕ). is_full before capacity i kind ≡ true) is (go (is_full before capacity n kind) (s.answer ∙ ap (λ (b : Bool). cond b (Err Bad) (cond (is_full before capacity n kind) (Err Full) (Ok tt))) good)) in
        rw (fits, full) refl;
    cells = λ m. s.cells m;
  }
    where
      go : (b : Bool) → ◌≡◌ {A = Result (Unit {0}) StoreRefusal} (Err Full) (cond b (Err Full) (Ok tt)) → b ≡ true
      go true e = refl
      go false e = never cc
