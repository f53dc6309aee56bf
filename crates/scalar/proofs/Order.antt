-- The order of floats. A NaN compares with nothing; the other values, infinities among them, are in one line, where -0 and +0 stand at one place.
use Rattle.std.proofs.Common.{◌≡◌, ℕ, ◌+◌, ◌*◌, ◌<◌, ◌≤◌, Bool, true, false, not, ◌||◌, T, ltb, leb, ◌⊎◌, ℤ, sym, refl, ap, ◌∙◌, subst, inl, inr, mul-le-mul_right, le_of_mul-le-mul_right, arith, le→leb, leb→le, T_not}
use mathlib.Core.Path.{subst⁻¹}
use lib.Dec.{not_T}
use Rattle.std.proofs.lemmas.Bool.Decides.{nat_tests}
use Rattle.std.proofs.lemmas.Bool.{cases_Bool, cond_both, or_parts, or_cases}
use lib.Ieee.{Float, nan, inf, fin, up, down, below, level, neg, lt, le, eq, is_nan, of_bits}
use lib.Ieee.Fits.{down_pos}
use Rattle.std.specs.Float.{float_min, float_max}
use Rattle.scalar.specs.Single.{zero, one, largest, Number, NotBelowZero}

-- ---- finite values: ±a as what it gains over zero and what it loses under it, so that the order is one of natural numbers
abbrev gain : Bool → ℕ → ℕ
gain false a = a
gain true a = 0

abbrev loss : Bool → ℕ → ℕ
loss false a = 0
loss true a = a

signed_lt : (s t : Bool) (a b : ℕ) → below s a t b ≡ ltb (gain s a + loss t b) (gain t b + loss s a)
signed_lt false false a b = grind (arith, nat_tests)
signed_lt false true a b = grind (arith, nat_tests)
signed_lt true false a b = grind (arith, nat_tests)
signed_lt true true a b = grind (arith, nat_tests)

signed_le : (s t : Bool) (a b : ℕ) → (below s a t b || level s a t b) ≡ leb (gain s a + loss t b) (gain t b + loss s a)
signed_le false false a b = grind (arith, nat_tests)
signed_le false true a b = grind (arith, nat_tests)
signed_le true false a b = grind (arith, nat_tests)
signed_le true true a b = grind (arith, nat_tests)

gain_times : (s : Bool) (a k : ℕ) → gain s (a * k) ≡ gain s a * k
gain_times false a k = refl
gain_times true a k = omega arith

loss_times : (s : Bool) (a k : ℕ) → loss s (a * k) ≡ loss s a * k
loss_times false a k = omega arith
loss_times true a k = refl

-- fractions with the denominators d, d' and d''
chain : (p n d p' n' d' p'' n'' d'' : ℕ) → 0 < d' → p * d' + n' * d ≤ p' * d + n * d' → p' * d'' + n'' * d' ≤ p'' * d' + n' * d'' → p * d'' + n'' * d ≤ p'' * d + n * d''
chain p n d p' n' d' p'' n'' d'' D h k =
    let l : (p * d'' + n'' * d) * d' ≤ (p'' * d + n * d'') * d' = omega (arith, mul-le-mul_right d'' h, mul-le-mul_right d k) in
    le_of_mul-le-mul_right l D

-- ---- which values compare
le_of_nan : (y : Float) → T (le nan y) → ⊥
unfolding le
le_of_nan y h = h

le_to_nan : (x : Float) → T (le x nan) → ⊥
unfolding le
le_to_nan nan h = h
le_to_nan (inf s) h = h
le_to_nan (fin s m e) h = h

pub le_left : (x y : Float) → T (le x y) → Number x
unfolding is_nan
le_left nan y h = le_of_nan y h
le_left (inf s) y h = tt
le_left (fin s m e) y h = tt

pub le_right : (x y : Float) → T (le x y) → Number y
unfolding is_nan
le_right x nan h = le_to_nan x h
le_right x (inf s) h = tt
le_right x (fin s m e) h = tt

pub le_of_lt : (x y : Float) → T (lt x y) → T (le x y)
unfolding le
le_of_lt x y h = or_left (lt x y) (eq x y) h
  where
    or_left : (a b : Bool) → T a → T (a || b)
    or_left true b h = tt
    or_left false b h = absurd h

pub le_of_eq : (x y : Float) → T (eq x y) → T (le x y)
unfolding le
le_of_eq x y h = or_right (lt x y) (eq x y) h
  where
    or_right : (a b : Bool) → T b → T (a || b)
    or_right true b h = tt
    or_right false b h = h

-- ---- of two numbers, one is at most the other exactly where the other is not below it
reversed : (s t : Bool) (a b : ℕ) → (below s a t b || level s a t b) ≡ not (below t b s a)
reversed s t a b = signed_le s t a b ∙ flip (gain s a + loss t b) (gain t b + loss s a) ∙ ap not (sym (signed_lt t s b a))
  where
    flip : (x y : ℕ) → leb x y ≡ not (ltb y x)
    flip x y = grind (arith, nat_tests)

pub le_is_not_lt : (x y : Float) → Number x → Number y → le x y ≡ not (lt y x)
unfolding le is_nan
le_is_not_lt nan y p q = absurd p
le_is_not_lt (inf s) nan p q = absurd q
le_is_not_lt (inf true) (inf true) p q = refl
le_is_not_lt (inf true) (inf false) p q = refl
le_is_not_lt (inf false) (inf true) p q = refl
le_is_not_lt (inf false) (inf false) p q = refl
le_is_not_lt (inf true) (fin t n d) p q = refl
le_is_not_lt (inf false) (fin t n d) p q = refl
le_is_not_lt (fin s m e) nan p q = absurd q
le_is_not_lt (fin s m e) (inf true) p q = refl
le_is_not_lt (fin s m e) (inf false) p q = refl
le_is_not_lt (fin s m e) (fin t n d) p q = reversed s t (m * up e * down d) (n * up d * down e)

pub le_of_not_lt : (x y : Float) → Number x → Number y → T (not (lt x y)) → T (le y x)
le_of_not_lt x y p q h = subst⁻¹ T (le_is_not_lt y x q p) h

pub not_lt_of_le : (x y : Float) → T (le x y) → T (not (lt y x))
not_lt_of_le x y h = subst T (le_is_not_lt x y (le_left x y h) (le_right x y h)) h

-- ---- `le` is transitive
finite_le : (s t : Bool) (a b c d : ℕ)
    → leb (gain s (a * d) + loss t (b * c)) (gain t (b * c) + loss s (a * d)) ≡ leb (gain s a * d + loss t b * c) (gain t b * c + loss s a * d)
finite_le s t a b c d =
    ap (λ (z : ℕ). leb (z + loss t (b * c)) (gain t (b * c) + loss s (a * d))) (gain_times s a d)
    ∙ ap (λ (z : ℕ). leb (gain s a * d + z) (gain t (b * c) + loss s (a * d))) (loss_times t b c)
    ∙ ap (λ (z : ℕ). leb (gain s a * d + loss t b * c) (z + loss s (a * d))) (gain_times t b c)
    ∙ ap (λ (z : ℕ). leb (gain s a * d + loss t b * c) (gain t b * c + z)) (loss_times s a d)

le_as_numbers : (s t : Bool) (m n : ℕ) → (e d : ℤ) → le (fin s m e) (fin t n d) ≡ leb (gain s (m * up e) * down d + loss t (n * up d) * down e) (gain t (n * up d) * down e + loss s (m * up e) * down d)
unfolding le
le_as_numbers s t m n e d = signed_le s t (m * up e * down d) (n * up d * down e) ∙ finite_le s t (m * up e) (n * up d) (down e) (down d)

-- the two infinities stand at the ends
pub le_infinity : (x : Float) → Number x → T (le x (inf false))
unfolding le is_nan
le_infinity nan p = p
le_infinity (inf true) p = tt
le_infinity (inf false) p = tt
le_infinity (fin s m e) p = tt

pub infinity_le : (x : Float) → Number x → T (le (inf true) x)
unfolding le is_nan
infinity_le nan p = p
infinity_le (inf true) p = tt
infinity_le (inf false) p = tt
infinity_le (fin s m e) p = tt

above_infinity : (y : Float) → T (le (inf false) y) → y ≡ inf false
unfolding le
above_infinity nan h = absurd h
above_infinity (inf true) h = absurd h
above_infinity (inf false) h = refl
above_infinity (fin s m e) h = absurd h

below_infinity : (x : Float) → T (le x (inf true)) → x ≡ inf true
unfolding le
below_infinity nan h = absurd h
below_infinity (inf true) h = refl
below_infinity (inf false) h = absurd h
below_infinity (fin s m e) h = absurd h

finite_trans : (s t r : Bool) (l m n : ℕ) (e d c : ℤ) → T (le (fin s l e) (fin t m d)) → T (le (fin t m d) (fin r n c)) → T (le (fin s l e) (fin r n c))
finite_trans s t r l m n e d c h k =
    let low = leb→le _ _ (subst T (le_as_numbers s t l m e d) h) in
    let high = leb→le _ _ (subst T (le_as_numbers t r m n d c) k) in
    subst⁻¹ T (le_as_numbers s r l n e c)
    (le→leb _ _
    (chain (gain s (l * up e)) (loss s (l * up e)) (down e) (gain t (m * up d)) (loss t (m * up d)) (down d) (gain r (n * up c)) (loss r (n * up c)) (down c) (down_pos d) low high))

pub le_trans : (x y z : Float) → T (le x y) → T (le y z) → T (le x z)
le_trans nan y z h k = absurd (le_of_nan y h)
le_trans (inf true) y z h k = infinity_le z (le_right y z k)
le_trans (inf false) y z h k = subst (λ (w : Float). T (le w z)) (above_infinity y h) k
le_trans (fin s l e) nan z h k = absurd (le_of_nan z k)
le_trans (fin s l e) (inf true) z h k = subst⁻¹ (λ (w : Float). T (le w z)) (below_infinity (fin s l e) h) k
le_trans (fin s l e) (inf false) z h k = subst⁻¹ (λ (w : Float). T (le (fin s l e) w)) (above_infinity z k) h
le_trans (fin s l e) (fin t m d) nan h k = absurd (le_to_nan (fin t m d) k)
le_trans (fin s l e) (fin t m d) (inf true) h k = subst (λ (w : Float). T (le (fin s l e) w)) (below_infinity (fin t m d) k) h
le_trans (fin s l e) (fin t m d) (inf false) h k = le_infinity (fin s l e) (le_left (fin s l e) (fin t m d) h)
le_trans (fin s l e) (fin t m d) (fin r n c) h k = finite_trans s t r l m n e d c h k

-- ---- what follows
pub lt_of_not_le : (x y : Float) → Number x → Number y → T (not (le y x)) → T (lt x y)
lt_of_not_le x y p q h = twice (lt x y) (subst (λ (b : Bool). T (not b)) (le_is_not_lt y x q p) h)
  where
    twice : (b : Bool) → T (not (not b)) → T b
    twice true h = tt
    twice false h = h

pub lt_left : (x y : Float) → T (lt x y) → Number x
lt_left x y h = le_left x y (le_of_lt x y h)

pub lt_right : (x y : Float) → T (lt x y) → Number y
lt_right x y h = le_right x y (le_of_lt x y h)

pub not_le_of_lt : (x y : Float) → T (lt x y) → T (not (le y x))
not_le_of_lt x y h = not_T (le y x) (λ k. T_not (lt x y) (not_lt_of_le y x k) h)

pub lt_of_le_of_lt : (x y z : Float) → T (le x y) → T (lt y z) → T (lt x z)
lt_of_le_of_lt x y z h k =
    lt_of_not_le x z (le_left x y h) (lt_right y z k) (not_T (le z x) (λ n. T_not (lt y z) (not_lt_of_le z y (le_trans z x y n h)) k))

pub lt_of_lt_of_le : (x y z : Float) → T (lt x y) → T (le y z) → T (lt x z)
lt_of_lt_of_le x y z h k =
    lt_of_not_le x z (lt_left x y h) (le_right y z k) (not_T (le z x) (λ n. T_not (lt x y) (not_lt_of_le y x (le_trans y z x k n)) h))

pub lt_trans : (x y z : Float) → T (lt x y) → T (lt y z) → T (lt x z)
lt_trans x y z h k = lt_of_lt_of_le x y z h (le_of_lt y z k)

pub le_refl : (x : Float) → Number x → T (le x x)
unfolding is_nan
le_refl nan p = absurd p
le_refl (inf true) p = infinity_le (inf true) p
le_refl (inf false) p = le_infinity (inf false) p
le_refl (fin s m e) p = subst⁻¹ T (le_as_numbers s s m m e e) (le→leb _ _ (omega arith))

pub lt_irrefl : (x : Float) → T (not (lt x x))
lt_irrefl x = not_T (lt x x) (λ h. T_not (lt x x) (not_lt_of_le x x (le_of_lt x x h)) h)

pub le_total : (x y : Float) → Number x → Number y → T (le x y) ⊎ T (le y x)
le_total x y p q = elim (cases_Bool (lt x y)) [
  | inl h ↦ inl (le_of_lt x y (subst⁻¹ T h tt))
  | inr h ↦ inr (le_of_not_lt x y p q (subst⁻¹ (λ (b : Bool). T (not b)) h tt))
]

-- ---- `eq` is the equality of that order
pub eq_of_le_le : (x y : Float) → T (le x y) → T (le y x) → T (eq x y)
unfolding le
eq_of_le_le x y h k = the_other (lt x y) (eq x y) (not_lt_of_le y x k) h
  where
    the_other : (a b : Bool) → T (not a) → T (a || b) → T b
    the_other true b n h = absurd n
    the_other false b n h = h

same_level : (s t : Bool) (a b : ℕ) → level s a t b ≡ level t b s a
same_level false false a b = grind (arith, nat_tests)
same_level false true a b = grind (arith, nat_tests)
same_level true false a b = grind (arith, nat_tests)
same_level true true a b = grind (arith, nat_tests)

pub eq_sym : (x y : Float) → T (eq x y) → T (eq y x)
unfolding eq
eq_sym nan y h = absurd h
eq_sym (inf s) nan h = absurd h
eq_sym (inf true) (inf true) h = h
eq_sym (inf true) (inf false) h = h
eq_sym (inf false) (inf true) h = h
eq_sym (inf false) (inf false) h = h
eq_sym (inf s) (fin t n d) h = absurd h
eq_sym (fin s m e) nan h = absurd h
eq_sym (fin s m e) (inf t) h = absurd h
eq_sym (fin s m e) (fin t n d) h = subst T (same_level s t (m * up e * down d) (n * up d * down e)) h

pub eq_refl : (x : Float) → Number x → T (eq x x)
eq_refl x p = eq_of_le_le x x (le_refl x p) (le_refl x p)

pub eq_trans : (x y z : Float) → T (eq x y) → T (eq y z) → T (eq x z)
eq_trans x y z h k =
    eq_of_le_le x z (le_trans x y z (le_of_eq x y h) (le_of_eq y z k)) (le_trans z y x (le_of_eq z y (eq_sym y z k)) (le_of_eq y x (eq_sym x y h)))

-- ---- zero
pub zero_number : Number zero
unfolding is_nan of_bits
zero_number = tt

pub zero_le_zero : T (le zero zero)
zero_le_zero = le_refl zero zero_number

-- ---- the constants in their order: the lowest finite value, zero, one and the largest
pub lowest_below_zero : T (lt (neg largest) zero)
unfolding lt of_bits neg
lowest_below_zero = tt

pub zero_below_one : T (lt zero one)
unfolding lt of_bits
zero_below_one = tt

pub one_below_largest : T (lt one largest)
unfolding lt of_bits
one_below_largest = tt

pub zero_below_largest : T (lt zero largest)
zero_below_largest = lt_trans zero one largest zero_below_one one_below_largest

-- ---- the least and the most of two, in which a NaN gives way to the other
holds : (b : Bool) → b ≡ true → T b
holds b h = subst⁻¹ T h tt

fails : (b : Bool) → b ≡ false → T (not b)
fails b h = subst⁻¹ (λ (c : Bool). T (not c)) h tt

-- what holds of each of two numbers where it is the lesser holds of their least
pub least_cases : (x y : Float) → Number x → Number y → (P : Float → Type 0) → (T (le x y) → P x) → (T (le y x) → P y) → P (float_min x y)
least_cases x y p q P f g = cond_both (le x y || is_nan y) x y P
    (λ h. elim (or_cases (le x y) (is_nan y) h) [ inl k ↦ f (holds (le x y) k) | inr k ↦ absurd (T_not (is_nan y) q (holds (is_nan y) k)) ])
    (λ h. g (le_of_lt y x (lt_of_not_le y x q p (fails (le x y) (or_parts (le x y) (is_nan y) h).0))))

pub most_cases : (x y : Float) → Number x → Number y → (P : Float → Type 0) → (T (le y x) → P x) → (T (le x y) → P y) → P (float_max x y)
most_cases x y p q P f g = cond_both (le y x || is_nan y) x y P
    (λ h. elim (or_cases (le y x) (is_nan y) h) [ inl k ↦ f (holds (le y x) k) | inr k ↦ absurd (T_not (is_nan y) q (holds (is_nan y) k)) ])
    (λ h. g (le_of_lt x y (lt_of_not_le x y p q (fails (le y x) (or_parts (le y x) (is_nan y) h).0))))

-- also where y is a NaN
pub least_number : (x y : Float) → Number x → Number (float_min x y)
least_number x y p = cond_both (le x y || is_nan y) x y Number (λ _. p) (λ h. fails (is_nan y) (or_parts (le x y) (is_nan y) h).1)

pub least_le_left : (x y : Float) → Number x → Number y → T (le (float_min x y) x)
least_le_left x y p q = least_cases x y p q (λ (z : Float). T (le z x)) (λ h. le_refl x p) (λ h. h)

pub least_le_right : (x y : Float) → Number x → Number y → T (le (float_min x y) y)
least_le_right x y p q = least_cases x y p q (λ (z : Float). T (le z y)) (λ h. h) (λ h. le_refl y q)

pub le_least : (z x y : Float) → T (le z x) → T (le z y) → T (le z (float_min x y))
le_least z x y h k = least_cases x y (le_right z x h) (le_right z y k) (λ (w : Float). T (le z w)) (λ _. h) (λ _. k)

pub lt_least : (z x y : Float) → T (lt z x) → T (lt z y) → T (lt z (float_min x y))
lt_least z x y h k = least_cases x y (lt_right z x h) (lt_right z y k) (λ (w : Float). T (lt z w)) (λ _. h) (λ _. k)

pub least_not_below_zero : (x y : Float) → NotBelowZero x → NotBelowZero y → NotBelowZero (float_min x y)
least_not_below_zero x y h k = le_least zero x y h k

pub least_mono : (c m n : Float) → Number c → T (le m n) → T (le (float_min c m) (float_min c n))
least_mono c m n p h =
    let q = le_left m n h in
    le_least (float_min c m) c n (least_le_left c m p q) (le_trans (float_min c m) m n (least_le_right c m p q) h)

pub most_zero_of_le : (x : Float) → T (le x zero) → T (eq (float_max x zero) zero)
most_zero_of_le x h = most_cases x zero (le_left x zero h) zero_number (λ (z : Float). T (eq z zero)) (λ k. eq_of_le_le x zero h k) (λ _. eq_refl zero zero_number)
