-- The first hit among the first n things is the earliest of their hits.
use Rattle.std.proofs.Common.{◌≡◌, ℕ, zero, suc, ◌<◌, Bool, true, false, cond, not, T, List, [], ◌∷◌, length, get_or, Some, None, Option, is_some, sym, refl, true≢false, ◌∙◌, subst, inl, inr, arith}
use lib.Ieee.{Float, lt, le}
use Rattle.std.proofs.lemmas.Bool.{cases_eq}
use Rattle.scalar.specs.Single.{Number}
use Rattle.scalar.proofs.Order.{le_refl, le_of_lt, le_of_not_lt, lt_of_lt_of_le}
use Rattle.query.specs.declared.ray.RayIntersection.{RayIntersection}
use Rattle.query.specs.declared.first_hit.FirstHit.{FirstHit}
use Rattle.query.specs.FirstHit.{hits_of, at, earlier, first_among, Earliest}
use Rattle.query.proofs.Options.{none_is_not_some}

abbrev time : RayIntersection → Float
time h = h.time_of_impact

-- what holds of each index below n, and of n, holds of each below suc n
below_suc : (P : ℕ → Type 0) (n : ℕ) → ((k : ℕ) → k < n → P k) → P n → (k : ℕ) → k < suc n → P k
below_suc P n before here k l = elim (cases_eq k n) [ inl e ↦ subst P (sym e) here | inr e ↦ before k (omega arith) ]

-- an element that is not hit leaves the best so far
pub earlier_missed : (best : Option FirstHit) (i : ℕ) (o : Option RayIntersection) → is_some o ≡ false → earlier best i o ≡ best
unfolding earlier
earlier_missed best i None e = refl
earlier_missed best i (Some h) e = absurd (true≢false e)

module _ (hits : ℕ → Option RayIntersection) (n : ℕ) where
  -- element n is not hit
  passed : (r : Option FirstHit) → hits n ≡ None → Earliest hits n r → Earliest hits (suc n) r
  passed r miss e = record {
    none = λ q. below_suc (λ k. hits k ≡ None) n (e.none q) miss;
    found = λ f q. let w = e.found f q in (omega arith, w.1);
    least = λ f q k h l s. below_suc (λ k. hits k ≡ Some h → T (le (time f.hit) (time h))) n (λ k l s. e.least f q k h l s) (λ s. none_is_not_some h (sym miss ∙ s)) k l s;
    first = e.first;
  }

  -- it is hit before all that were
  taken : (h : RayIntersection) → hits n ≡ Some h → Number (time h) → ((k : ℕ) (g : RayIntersection) → k < n → hits k ≡ Some g → T (lt (time h) (time g))) → Earliest hits (suc n) (Some (at n h))
  taken h is num before = record {
    none = λ q. none_is_not_some (at n h) (sym q);
    found = λ f q. let s : at n h ≡ f = cc in subst (λ (g : FirstHit). (g.index < suc n) × (hits g.index ≡ Some g.hit)) s (omega arith, is);
    least = λ f q k g l s.
        let e : h ≡ f.hit = cc in
        subst (λ (x : RayIntersection). T (le (time x) (time g))) e
        (below_suc (λ k. hits k ≡ Some g → T (le (time h) (time g))) n (λ k l s. le_of_lt (time h) (time g) (before k g l s)) (λ s. here g (sym is ∙ s)) k l s);
    first = λ f q k g l s.
        let e : h ≡ f.hit = cc in
        let i : n ≡ f.index = cc in
        subst (λ (x : RayIntersection). T (lt (time x) (time g))) e (before k g (omega arith) s);
  }
    where
      here : (g : RayIntersection) → ◌≡◌ {A = Option RayIntersection} (Some h) (Some g) → T (le (time h) (time g))
      here g q = let s : h ≡ g = cc in subst (λ (x : RayIntersection). T (le (time h) (time x))) s (le_refl (time h) num)

  -- it is hit no earlier than the best so far
  kept : (f : FirstHit) (h : RayIntersection) → hits n ≡ Some h → T (le (time f.hit) (time h)) → Earliest hits n (Some f) → Earliest hits (suc n) (Some f)
  kept f h is l e = record {
    none = λ q. none_is_not_some f (sym q);
    found = λ g q. let w = e.found g q in (omega arith, w.1);
    least = λ g q k x b s. below_suc (λ k. hits k ≡ Some x → T (le (time g.hit) (time x))) n (λ k b s. e.least g q k x b s) (here g q x) k b s;
    first = e.first;
  }
    where
      here : (g : FirstHit) → ◌≡◌ {A = Option FirstHit} (Some f) (Some g) → (x : RayIntersection) → hits n ≡ Some x → T (le (time g.hit) (time x))
      here g q x s =
          let a : f ≡ g = cc in
          let b : ◌≡◌ {A = Option RayIntersection} (Some h) (Some x) = sym is ∙ s in
          let c : h ≡ x = cc in
          subst (λ (y : FirstHit). T (le (time y.hit) (time x))) a (subst (λ (y : RayIntersection). T (le (time f.hit) (time y))) c l)

  -- the hits' times are numbers
  next : (Numbers : (k : ℕ) (h : RayIntersection) → hits k ≡ Some h → Number (time h)) (r : Option FirstHit) → Earliest hits n r → (a : Option RayIntersection) → hits n ≡ a → Earliest hits (suc n) (earlier r n a)
  unfolding earlier
  next nums r e None is = passed r is e
  next nums None e (Some h) is = taken h is (nums n h is) (λ k g l s. none_is_not_some g (sym (e.none refl k l) ∙ s))
  next nums (Some f) e (Some h) is = go (lt (time h) (time f.hit)) (λ t. t) (le_of_not_lt (time h) (time f.hit) (nums n h is) (nums f.index f.hit (e.found f refl).1))
    where
      go : (b : Bool) → (T b → T (lt (time h) (time f.hit))) → (T (not b) → T (le (time f.hit) (time h))) → Earliest hits (suc n) (cond b (Some (at n h)) (Some f))
      go true earlier-is later-is = taken h is (nums n h is) (λ k g l s. lt_of_lt_of_le (time h) (time f.hit) (time g) (earlier-is tt) (e.least f refl k g l s))
      go false earlier-is later-is = kept f h is (later-is tt) e

pub first_is_earliest : (hits : ℕ → Option RayIntersection) → ((k : ℕ) (h : RayIntersection) → hits k ≡ Some h → Number (time h)) → (n : ℕ) → Earliest hits n (first_among hits n)
unfolding first_among
first_is_earliest hits nums zero = record {
  none = λ q k l. absurd (omega arith);
  found = λ f q. none_is_not_some f q;
  least = λ f q. none_is_not_some f q;
  first = λ f q. none_is_not_some f q;
}
first_is_earliest hits nums (suc n) = next hits n nums (first_among hits n) (first_is_earliest hits nums n) (hits n) refl

-- ---- the hits of a list's elements
pub hit_at_index : {E : Type 0} (cast : E → Option RayIntersection) (things : List E) (k : ℕ) (x : E) → k < length things → hits_of cast things k ≡ cast (get_or things k x)
hit_at_index cast [] k x l = absurd (omega arith)
hit_at_index cast (y ∷ ys) zero x l = refl
hit_at_index cast (y ∷ ys) (suc k) x l = hit_at_index cast ys k x (omega arith)

pub hit_of_some : {E : Type 0} (cast : E → Option RayIntersection) (things : List E) (k : ℕ) (h : RayIntersection) → hits_of cast things k ≡ Some h → (x : E) × (cast x ≡ Some h)
hit_of_some cast [] k h e = none_is_not_some h e
hit_of_some cast (y ∷ ys) zero h e = (y, e)
hit_of_some cast (y ∷ ys) (suc k) h e = hit_of_some cast ys k h e
