-- Quotients of grid numbers and products with a rounded reciprocal: how close they are to their fractions, and that different fractions keep their order.
use Rattle.std.proofs.Common.{◌≡◌, ℕ, suc, ◌+◌, ◌-◌, ◌*◌, ◌/◌, ◌^◌, ◌<◌, ◌≤◌, Bool, true, false, T, ltb, ℤ, pos, negsuc, nat_abs, sym, refl, ap, ◌∙◌, subst, inl, inr, true≢false, mul-le-mul_right, suc-mul, eq-zero-or-pos, mul-le-mul, lt_of_mul-lt-mul_right, mul-lt-mul_of_pos_right, mul-pos, lt_of_not-le, zero-mul, le_of_mul-le-mul_right, arith, lt→ltb, T_not, pow_pos, pow_mono}
use mathlib.Core.Path.{subst⁻¹}
use lib.Dec.{not_T}
use lib.Ieee.{Float, binary32, unlike, round, neg, lt, le, eq, to_signed, below}
use lib.Ieee.Bits.{is_true, is_false}
use lib.Ieee.Fits.{round_is}
use lib.Ieee.Exact.{HasValue, round_exact, units_val}
use lib.Ieee.Order.{drop, kept, le_of_values}
use lib.Ieee.Scale.{round_same, grid, normal_of_fraction}
use Rattle.std.proofs.lemmas.Int.{ints}
use Rattle.std.proofs.lemmas.Bool.{cases_lt, cases_order, lt-ltb, le-ltb}
use Rattle.std.specs.Float as Floats
use Rattle.scalar.specs.Grid.{OnGrid, IsCell, place, cell_key, away}
use Rattle.scalar.specs.Shares.{Close, Terms, NotNegative, is_negative, Time}
use Rattle.scalar.specs.Single.{plus, minus, times, over, zero, one, largest, Number}
use Rattle.scalar.proofs.Order.{le_of_lt, not_lt_of_le, lt_irrefl}
use Rattle.scalar.proofs.Rounding.{grid_near}
use Rattle.scalar.proofs.Values.{value_number, value_as, zero_value, one_value, largest_value, lowest_value, times_is, over_is, lt_is, lt_of_values, zero_le_value, zero_lt_value, value_le_zero, value_lt_zero}
use Rattle.scalar.proofs.Grid.{offset_exact, start_exact, key_exact, place_bound}

-- ---- one rounding in the normal range is off by 2 ^ -24 at most
record Rounded (s : Bool) (a c : ℕ) : Type 0 where
  units : ℕ
  value : HasValue (round binary32 s a c) s units (2 ^ 149)
  most : units * c * 2 ^ 24 ≤ a * 2 ^ 149 * 2 ^ 24 + a * 2 ^ 149
  least : a * 2 ^ 149 * 2 ^ 24 ≤ units * c * 2 ^ 24 + a * 2 ^ 149

rounded : (s : Bool) (a c : ℕ) → 0 < c → c ≤ a * 2 ^ 126 → a < c * 2 ^ 127 → Rounded s a c
rounded s a c C lo hi =
    let near = grid_near binary32 a c (omega arith) C (normal_of_fraction binary32 a c C (omega arith)) in
    let g = grid binary32 a c in
    let under : g < 2 ^ 277 = lt_of_not-le (λ (l : 2 ^ 277 ≤ g). omega (arith, mul-le-mul_right c l, near.0)) in
    record {
      units = g;
      value = subst⁻¹ (λ (z : Float). HasValue z s g (2 ^ 149)) (round_is binary32 s a c) (units_val binary32 s (kept 24 (a * 2 ^ 149) c) (drop 24 (a * 2 ^ 149) c) under);
      most = near.0;
      least = near.1;
    }

-- ---- quotients
pub quotient_rounded : (s t : Bool) (p q : ℕ) (x y : Float) → Terms s t p q x y → over x y ≡ round binary32 (unlike s t) p q
quotient_rounded s t p q x y w =
    let K = 2 ^ w.k in
    let Q : 0 < q * K = mul-pos w.q_least (pow_pos w.k) in
    over_is x y s t (p * K) (2 ^ 17) (q * K) (2 ^ 17) (pow_pos 17) (pow_pos 17) Q w.x_is w.y_is
    ∙ round_same binary32 (unlike s t) (p * K * 2 ^ 17) (q * K * 2 ^ 17) p q (mul-pos Q (pow_pos 17)) w.q_least (omega arith)

zero_close : (s : Bool) (q c : ℕ) → 0 < c → Close s 0 q (round binary32 s 0 c)
zero_close s q c C = record {
  units = 0;
  value = value_as (round binary32 s 0 c) s 0 c 0 (2 ^ 149) C (omega arith) (round_exact binary32 s 0 c 0 0 C (omega arith) (omega arith) (omega arith));
  most = omega arith;
  least = omega arith;
}

round_close : (s : Bool) (p q : ℕ) → 0 < q → p ≤ 1024 → q ≤ 1023 → Close s p q (round binary32 s p q)
round_close s p q Q hp hq = elim (eq-zero-or-pos p) [
  | inl z ↦ subst⁻¹ (λ (i : ℕ). Close s i q (round binary32 s i q)) z (zero_close s q q Q)
  | inr P ↦
      let r = rounded s p q Q (omega arith) (omega arith) in
      record { units = r.units; value = r.value; most = omega (arith, r.most); least = omega (arith, r.least) }
]

pub quotient_close : (s t : Bool) (p q : ℕ) (x y : Float) → Terms s t p q x y → Close (unlike s t) p q (over x y)
quotient_close s t p q x y w = subst⁻¹ (λ (v : Float). Close (unlike s t) p q v) (quotient_rounded s t p q x y w) (round_close (unlike s t) p q w.q_least w.p_most w.q_most)

-- equal fractions have one quotient
pub quotient_same : (s t s' t' : Bool) (p q p' q' : ℕ) (x y x' y' : Float) → Terms s t p q x y → Terms s' t' p' q' x' y' → unlike s t ≡ unlike s' t' → p * q' ≡ p' * q
    → over x y ≡ over x' y'
quotient_same s t s' t' p q p' q' x y x' y' w w' e h =
    quotient_rounded s t p q x y w
    ∙ round_same binary32 (unlike s t) p q p' q' w.q_least w'.q_least h
    ∙ ap (λ (b : Bool). round binary32 b p' q') e
    ∙ sym (quotient_rounded s' t' p' q' x' y' w')

-- ---- products with the rounded reciprocal
two_roundings_most : (g q p X D L : ℕ) → 0 < D → g * q * D * 2 ^ 24 ≤ p * X * L * 2 ^ 24 + p * X * L → X * 2 ^ 24 ≤ D * 2 ^ 24 + D → g * q * 2 ^ 22 ≤ p * L * 2 ^ 22 + p * L
two_roundings_most g q p X D L P f e = le_of_mul-le-mul_right {k = D} (omega (arith, mul-le-mul_right (p * L) e)) P

two_roundings_least : (g q p X D L : ℕ) → 0 < D → p * X * L * 2 ^ 24 ≤ g * q * D * 2 ^ 24 + p * X * L → D * 2 ^ 24 ≤ X * 2 ^ 24 + D → p * L * 2 ^ 22 ≤ g * q * 2 ^ 22 + p * L
two_roundings_least g q p X D L P f e = le_of_mul-le-mul_right {k = D} (omega (arith, mul-le-mul_right (p * L) e)) P

-- r is the rounded reciprocal of q * K / 2 ^ 17
record Reciprocal (t : Bool) (q K : ℕ) (r : Float) : Type 0 where
  units : ℕ
  value : HasValue r t units (2 ^ 149)
  most : units * (q * K) * 2 ^ 24 ≤ 2 ^ 166 * 2 ^ 24 + 2 ^ 166
  least : 2 ^ 166 * 2 ^ 24 ≤ units * (q * K) * 2 ^ 24 + 2 ^ 166

reciprocal : (t : Bool) (q K : ℕ) (y : Float) → 0 < q → 0 < K → q ≤ 1023 → K ≤ 2 ^ 20 → HasValue y t (q * K) (2 ^ 17) → Reciprocal (unlike false t) q K (over one y)
reciprocal t q K y Q P hq hK v =
    let U : 0 < q * K = mul-pos Q P in
    let m : q * K ≤ 1023 * 2 ^ 20 = mul-le-mul {n₂ = 1023} {m₂ = 2 ^ 20} hq hK in
    let e : over one y ≡ round binary32 (unlike false t) (2 ^ 17) (q * K) =
    over_is one y false t 1 1 (q * K) (2 ^ 17) (omega arith) (pow_pos 17) U one_value v
    ∙ round_same binary32 (unlike false t) (1 * 2 ^ 17) (q * K * 1) (2 ^ 17) (q * K) (mul-pos {n = 1} U (omega arith)) U (omega arith) in
    let r = rounded (unlike false t) (2 ^ 17) (q * K) U (omega arith) (omega arith) in
    record {
      units = r.units;
      value = subst⁻¹ (λ (z : Float). HasValue z (unlike false t) r.units (2 ^ 149)) e r.value;
      most = omega (arith, r.most);
      least = omega (arith, r.least);
    }

times_reciprocal : (s t : Bool) (p q K : ℕ) (x r : Float) → 0 < q → 0 < K → p ≤ 1024 → q ≤ 1023 → HasValue x s (p * K) (2 ^ 17) → Reciprocal t q K r → Close (unlike s t) p q (times x r)
times_reciprocal s t p q K x r Q P hp hq v w =
    let X = w.units in
    let D : 0 < 2 ^ 166 = pow_pos 166 in
    let e : times x r ≡ round binary32 (unlike s t) (p * K * X) (2 ^ 166) = times_is x r s t (p * K) (2 ^ 17) X (2 ^ 149) (pow_pos 17) (pow_pos 149) v w.value in
    elim (eq-zero-or-pos p) [
      | inl z ↦
          let none : p * K * X ≡ 0 = ap (λ (i : ℕ). i * K * X) z ∙ omega arith in
          subst⁻¹ (λ (f : Float). Close (unlike s t) p q f) (e ∙ ap (λ (i : ℕ). round binary32 (unlike s t) i (2 ^ 166)) none)
          (subst⁻¹ (λ (i : ℕ). Close (unlike s t) i q (round binary32 (unlike s t) 0 (2 ^ 166))) z (zero_close (unlike s t) q (2 ^ 166) D))
      | inr l ↦
          let KX = K * X in
          let a : q * KX ≤ 1023 * KX = mul-le-mul_right KX hq in
          let b : 1 * KX ≤ q * KX = mul-le-mul_right KX Q in
          let c : p * KX ≤ 1024 * KX = mul-le-mul_right KX hp in
          let d : 1 * KX ≤ p * KX = mul-le-mul_right KX l in
          let o : X * (q * K) * 2 ^ 24 ≤ 2 ^ 166 * 2 ^ 24 + 2 ^ 166 = w.most in
          let u : 2 ^ 166 * 2 ^ 24 ≤ X * (q * K) * 2 ^ 24 + 2 ^ 166 = w.least in
          let h = rounded (unlike s t) (p * K * X) (2 ^ 166) D (omega arith) (omega arith) in
          let G = h.units in
          subst⁻¹ (λ (f : Float). Close (unlike s t) p q f) e
          (record {
            units = G;
            value = h.value;
            most = two_roundings_most G q p (X * (q * K)) (2 ^ 166) (2 ^ 149) D (omega (arith, mul-le-mul_right q h.most)) o;
            least = two_roundings_least G q p (X * (q * K)) (2 ^ 166) (2 ^ 149) D (omega (arith, mul-le-mul_right q h.least)) u;
          })
    ]

pub product_close : (s t : Bool) (p q : ℕ) (x y : Float) → Terms s t p q x y → Close (unlike s t) p q (times x (over one y))
product_close s t p q x y w =
    let K = 2 ^ w.k in
    let r = reciprocal t q K y w.q_least (pow_pos w.k) w.q_most (pow_mono {j = 20} w.k_most) w.y_is in
    subst (λ (b : Bool). Close (unlike s b) p q (times x (over one y))) (own_sign t)
    (times_reciprocal s (unlike false t) p q K x (over one y) w.q_least (pow_pos w.k) w.p_most w.q_most w.x_is r)
  where
    own_sign : (b : Bool) → unlike false b ≡ b
    own_sign true = refl
    own_sign false = refl

-- ---- different fractions differ by more than the two floats are off: with terms up to 1024 they differ by 2 ^ -20 in proportion
apart : (p q p' q' g g' : ℕ) → 0 < q → 0 < q' → p ≤ 1024 → q' ≤ 1023 → p * q' < p' * q
    → g * q * 2 ^ 22 ≤ p * 2 ^ 149 * 2 ^ 22 + p * 2 ^ 149 → p' * 2 ^ 149 * 2 ^ 22 ≤ g' * q' * 2 ^ 22 + p' * 2 ^ 149 → g < g'
apart p q p' q' g g' Q Q' hp hq h a b =
    let m : p * q' ≤ 1024 * 1023 = mul-le-mul {n₂ = 1024} {m₂ = 1023} hp hq in
    let x = mul-le-mul_right q' a in
    let y = mul-le-mul_right q b in
    lt_of_mul-lt-mul_right (q * q') (omega arith)

pub close_lt : (s s' : Bool) (p q p' q' : ℕ) (v v' : Float) → 0 < q → 0 < q' → p ≤ 1024 → q' ≤ 1023 → NotNegative s' p' → Close s p q v → Close s' p' q' v' → p * q' < p' * q → T (lt v v')
close_lt s false p q p' q' v v' Q Q' hp hq n c c' h =
    let l : c.units < c'.units = apart p q p' q' c.units c'.units Q Q' hp hq h c.most c'.least in
    lt_of_values v v' s c.units (2 ^ 149) c'.units (2 ^ 149) (pow_pos 149) (pow_pos 149) c.value c'.value (omega arith)
close_lt s true p q p' q' v v' Q Q' hp hq n c c' h = absurd (omega (arith, ap (λ (i : ℕ). i * q) (n refl), zero-mul q))

pub plus_not_negative : (p : ℕ) → NotNegative false p
plus_not_negative p e = absurd (true≢false (sym e))

pub close_number : (s : Bool) (p q : ℕ) (v : Float) → Close s p q v → Number v
close_number s p q v c = value_number v s c.units (2 ^ 149) c.value

-- so a comparison of two floats says that of their fractions
pub close_le : (s s' : Bool) (p q p' q' : ℕ) (v v' : Float) → 0 < q → 0 < q' → q ≤ 1023 → p' ≤ 1024 → NotNegative s p → Close s p q v → Close s' p' q' v' → T (le v v') → p * q' ≤ p' * q
close_le s s' p q p' q' v v' Q Q' hq hp n c c' h = elim (cases_lt (p' * q) (p * q')) [
  | inr l ↦ l
  | inl l ↦ absurd (T_not (lt v' v) (not_lt_of_le v v' h) (close_lt s' s p' q' p q v' v Q' Q hp hq n c' c l))
]

-- ---- against zero
some_units : (p q n : ℕ) → 0 < p → p * 2 ^ 149 * 2 ^ 22 ≤ n * q * 2 ^ 22 + p * 2 ^ 149 → 0 < n
some_units p q ℕ.zero P h = absurd (omega (arith, zero-mul q))
some_units p q (suc n) P h = omega arith

no_units : (n q : ℕ) → 0 < q → n * q * 2 ^ 22 ≤ 0 → n ≡ 0
no_units ℕ.zero q Q h = refl
no_units (suc n) q Q h = absurd (omega (arith, suc-mul n q))

pub close_not_below_zero : (p q : ℕ) (v : Float) → Close false p q v → T (le zero v)
close_not_below_zero p q v c = zero_le_value v c.units (2 ^ 149) (pow_pos 149) c.value

pub close_above_zero : (p q : ℕ) (v : Float) → 0 < p → Close false p q v → T (lt zero v)
close_above_zero p q v P c = zero_lt_value v c.units (2 ^ 149) (pow_pos 149) (some_units p q c.units P c.least) c.value

pub close_not_above_zero : (p q : ℕ) (v : Float) → Close true p q v → T (le v zero)
close_not_above_zero p q v c = value_le_zero v c.units (2 ^ 149) (pow_pos 149) c.value

pub close_below_zero : (p q : ℕ) (v : Float) → 0 < p → Close true p q v → T (lt v zero)
close_below_zero p q v P c = value_lt_zero v c.units (2 ^ 149) (pow_pos 149) (some_units p q c.units P c.least) c.value

-- zero over anything is a zero, with its sign
pub close_zero : (s : Bool) (q : ℕ) (v : Float) → 0 < q → Close s 0 q v → HasValue v s 0 1
close_zero s q v Q c =
    let n = c.units in
    let z : n ≡ 0 = no_units n q Q (omega (arith, c.most)) in
    value_as v s 0 (2 ^ 149) 0 1 (pow_pos 149) (omega arith) (subst (λ (i : ℕ). HasValue v s i (2 ^ 149)) z c.value)

-- ---- against one
pub close_below_one : (s : Bool) (p q : ℕ) (v : Float) → q ≤ 1023 → p < q → (c : Close s p q v) → (c.units + 2 ^ 139 ≤ 2 ^ 149) × T (lt v one)
close_below_one s p q v hq h c =
    let n = c.units in
    let d : n + 2 ^ 139 ≤ 2 ^ 149 = le_of_mul-le-mul_right {k = q} (omega (arith, c.most)) (omega arith) in
    (d, lt_of_values v one s n (2 ^ 149) 1 1 (pow_pos 149) (omega arith) c.value one_value (omega arith))

pub close_above_one : (p q : ℕ) (v : Float) → 0 < q → q ≤ 1023 → q < p → Close false p q v → T (lt one v)
close_above_one p q v Q hq h c =
    let n = c.units in
    let d : 2 ^ 149 < n = lt_of_mul-lt-mul_right q (omega (arith, c.least)) in
    lt_of_values one v false 1 1 n (2 ^ 149) (omega arith) (pow_pos 149) one_value c.value (omega arith)

-- up to one, v is off by 2 ^ -22 at most
pub close_within : (s : Bool) (p q : ℕ) (v : Float) → p ≤ q → (c : Close s p q v)
    → (c.units * q * 2 ^ 22 ≤ p * 2 ^ 149 * 2 ^ 22 + q * 2 ^ 149) × (p * 2 ^ 149 * 2 ^ 22 ≤ c.units * q * 2 ^ 22 + q * 2 ^ 149)
close_within s p q v h c = (omega (arith, c.most), omega (arith, c.least))

-- what is at one or later comes after all that is before one
pub close_later : (s : Bool) (p q p' q' : ℕ) (v v' : Float) → 0 < q → q ≤ 1023 → q ≤ p → q' ≤ 1023 → p' < q' → Close false p q v → Close s p' q' v' → T (lt v' v)
close_later s p q p' q' v v' Q hq h hq' l c c' =
    close_lt s false p' q' p q v' v (omega arith) Q (omega arith) hq (plus_not_negative p) c' c (omega (arith, mul-le-mul_right q' h, mul-lt-mul_of_pos_right l Q))

-- and all is below the largest value
pub close_below_largest : (s : Bool) (p q : ℕ) (v : Float) → 0 < q → p ≤ 1024 → Close s p q v → T (lt v largest)
close_below_largest s p q v Q h c =
    let n = c.units in
    let d : n < 2 ^ 160 = lt_of_mul-lt-mul_right q (omega (arith, c.most)) in
    lt_of_values v largest s n (2 ^ 149) (16777215 * 2 ^ 104) 1 (pow_pos 149) (omega arith) c.value largest_value (omega arith)

-- and above the lowest
pub close_above_lowest : (s : Bool) (p q : ℕ) (v : Float) → 0 < q → p ≤ 1024 → Close s p q v → T (lt (neg largest) v)
close_above_lowest s p q v Q h c =
    let n = c.units in
    let d : n < 2 ^ 160 = lt_of_mul-lt-mul_right q (omega (arith, c.most)) in
    subst⁻¹ T (lt_is (neg largest) v true s (16777215 * 2 ^ 253) n (2 ^ 149) (pow_pos 149) (value_as (neg largest) true (16777215 * 2 ^ 104) 1 (16777215 * 2 ^ 253) (2 ^ 149) (omega arith) (omega arith) lowest_value) c.value)
    (by_sign s n d)
  where
    by_sign : (s : Bool) (n : ℕ) → n < 2 ^ 160 → T (below true (16777215 * 2 ^ 253) s n)
    by_sign false n d = lt→ltb 0 (16777215 * 2 ^ 253 + n) (omega arith)
    by_sign true n d = lt→ltb n (16777215 * 2 ^ 253) (omega arith)

-- ---- all that is close to a share before one comes before f
abbrev pub Late : Float → Type 0
Late f = (s : Bool) (p q : ℕ) (v : Float) → q ≤ 1023 → p < q → Close s p q v → T (lt v f)

pub one_is_late : Late one
one_is_late s p q v h l c = (close_below_one s p q v h l c).1

pub largest_is_late : Late largest
largest_is_late s p q v h l c = close_below_largest s p q v (omega arith) (omega arith) c

pub close_is_late : (p q : ℕ) (f : Float) → 0 < q → q ≤ 1023 → q ≤ p → Close false p q f → Late f
close_is_late p q f Q h l c s p' q' v h' l' c' = close_later s p q p' q' f v Q h l h' l' c c'

-- ---- two quotients that are not negative compare as their fractions do
zeros_level : (v v' : Float) (s s' : Bool) → HasValue v s 0 1 → HasValue v' s' 0 1 → T (lt v v') → ⊥
zeros_level v v' s s' u u' l = by_signs s s' (subst T (lt_is v v' s s' 0 0 1 (omega arith) u u') l)
  where
    by_signs : (r r' : Bool) → T (below r 0 r' 0) → ⊥
    by_signs false false h = h
    by_signs false true h = h
    by_signs true false h = h
    by_signs true true h = h

zero_too : (p q p' q' : ℕ) → 0 < q → p ≡ 0 → p * q' ≡ p' * q → p' ≡ 0
zero_too p q ℕ.zero q' Q z h = refl
zero_too p q (suc p') q' Q z h = absurd (omega (arith, ap (λ (i : ℕ). i * q') z, zero-mul q', suc-mul p' q))

module _ (s t s' t' : Bool) (p q p' q' : ℕ) (x y x' y' : Float) (w : Terms s t p q x y) (w' : Terms s' t' p' q' x' y') (n : NotNegative (unlike s t) p) (n' : NotNegative (unlike s' t') p') where
  smaller_lt : p * q' < p' * q → T (lt (over x y) (over x' y'))
  smaller_lt h =
      close_lt (unlike s t) (unlike s' t') p q p' q' (over x y) (over x' y') w.q_least w'.q_least w.p_most w'.q_most n' (quotient_close s t p q x y w) (quotient_close s' t' p' q' x' y' w') h

  zeros_not_lt : p ≡ 0 → p' ≡ 0 → T (lt (over x y) (over x' y')) → ⊥
  zeros_not_lt z z' =
      zeros_level (over x y) (over x' y') (unlike s t) (unlike s' t')
      (close_zero (unlike s t) q (over x y) w.q_least (subst (λ (i : ℕ). Close (unlike s t) i q (over x y)) z (quotient_close s t p q x y w)))
      (close_zero (unlike s' t') q' (over x' y') w'.q_least (subst (λ (i : ℕ). Close (unlike s' t') i q' (over x' y')) z' (quotient_close s' t' p' q' x' y' w')))

  -- one fraction: one float, or zeros of two signs
  equal_not_lt : (r r' : Bool) → unlike s t ≡ r → unlike s' t' ≡ r' → p * q' ≡ p' * q → T (lt (over x y) (over x' y')) → ⊥
  equal_not_lt true r' e e' h l = zeros_not_lt (n e) (zero_too p q p' q' w.q_least (n e) h) l
  equal_not_lt false true e e' h l = zeros_not_lt (zero_too p' q' p q w'.q_least (n' e') (sym h)) (n' e') l
  equal_not_lt false false e e' h l =
      T_not (lt (over x' y') (over x' y')) (lt_irrefl (over x' y')) (subst (λ (r : Float). T (lt r (over x' y'))) (quotient_same s t s' t' p q p' q' x y x' y' w w' (e ∙ sym e') h) l)

pub quotient_lt : (s t s' t' : Bool) (p q p' q' : ℕ) (x y x' y' : Float) → Terms s t p q x y → Terms s' t' p' q' x' y' → NotNegative (unlike s t) p → NotNegative (unlike s' t') p'
    → lt (over x y) (over x' y') ≡ ltb (p * q') (p' * q)
quotient_lt s t s' t' p q p' q' x y x' y' w w' n n' = elim (cases_order (p * q') (p' * q)) [
  | inl e ↦
      is_false _ (not_T (lt (over x y) (over x' y')) (equal_not_lt s t s' t' p q p' q' x y x' y' w w' n n' (unlike s t) (unlike s' t') refl refl e))
      ∙ sym (le-ltb (p * q') (p' * q) (omega arith))
  | inr (inl l) ↦ is_true _ (smaller_lt s t s' t' p q p' q' x y x' y' w w' n n' l) ∙ sym (lt-ltb (p * q') (p' * q) l)
  | inr (inr l) ↦
      is_false _ (not_lt_of_le (over x' y') (over x y) (le_of_lt (over x' y') (over x y) (smaller_lt s' t' s t p' q' p q x' y' x y w' w n' n l)))
      ∙ sym (le-ltb (p * q') (p' * q) (omega arith))
]

-- ---- one axis of a line within the chunk `key`: x is its start, at the grid number g, y its end, at h, and f a plane, at i
grid_sign : (k : ℕ) (x : Float) (z : ℤ) → OnGrid x k z → HasValue x (is_negative z) (nat_abs z * 2 ^ k) (2 ^ 17)
grid_sign k x (pos n) h = h
grid_sign k x (negsuc n) h = h

pub grid_terms : (k : ℕ) (x y : Float) (z w : ℤ) → k ≤ 20 → OnGrid x k z → OnGrid y k w → nat_abs z ≤ 1024 → 0 < nat_abs w → nat_abs w ≤ 1023
    → Terms (is_negative z) (is_negative w) (nat_abs z) (nat_abs w) x y
grid_terms k x y z w K u v h P l = record { k = k; k_most = K; p_most = h; q_least = P; q_most = l; x_is = grid_sign k x z u; y_is = grid_sign k y w v }

module _ (k : ℕ) (x y f : Float) (key : ℤ) (g h i : ℕ) (K : k ≤ 20) (l : nat_abs key ≤ 4096) (G : g ≤ 1023) (H : h ≤ 1023) (I : i ≤ 1024)
    (X : OnGrid x k (place key g)) (Y : OnGrid y k (place key h)) (F : OnGrid f k (place key i)) where
  pub plane_terms : (g ≡ h → ⊥) → Terms (is_negative (away i g)) (is_negative (away h g)) (nat_abs (away i g)) (nat_abs (away h g)) (minus f x) (minus y x)
  plane_terms ne =
      grid_terms k (minus f x) (minus y x) (away i g) (away h g) K (offset_exact k x f key g i K l (omega arith) I X F) (offset_exact k x y key g h K l (omega arith) (omega arith) X Y)
      (omega (arith, ints)) (omega (arith, ints, ne)) (omega (arith, ints))

  -- by what the two offsets are
  plane_time : (z w : ℤ) (u : Bool) (p q : ℕ) → (g ≡ h → ⊥) → away i g ≡ z → away h g ≡ w → unlike (is_negative z) (is_negative w) ≡ u → nat_abs z ≡ p → nat_abs w ≡ q → Time u p q (minus f x) (minus y x)
  plane_time z w u p q ne a b e r o =
      let c = subst (λ (i' : ℤ). Terms (is_negative i') (is_negative (away h g)) (nat_abs i') (nat_abs (away h g)) (minus f x) (minus y x)) a (plane_terms ne) in
      let d = subst (λ (h' : ℤ). Terms (is_negative z) (is_negative h') (nat_abs z) (nat_abs h') (minus f x) (minus y x)) b c in
      subst (λ (v : Bool). Time v p q (minus f x) (minus y x)) e
      (subst (λ (m : ℕ). Time (unlike (is_negative z) (is_negative w)) m q (minus f x) (minus y x)) r
      (subst (λ (m : ℕ). Time (unlike (is_negative z) (is_negative w)) (nat_abs z) m (minus f x) (minus y x)) o
      (record {
        quotient = quotient_close (is_negative z) (is_negative w) (nat_abs z) (nat_abs w) (minus f x) (minus y x) d;
        product = product_close (is_negative z) (is_negative w) (nat_abs z) (nat_abs w) (minus f x) (minus y x) d;
      })))

-- A plane ahead has a positive time, and one behind a negative one. At a plane through the start the time is zero: the negative one where the line falls.
module _ (k : ℕ) (x y f : Float) (key : ℤ) (g h i : ℕ) (K : k ≤ 20) (l : nat_abs key ≤ 4096) (G : g ≤ 1023) (H : h ≤ 1023) (I : i ≤ 1024)
    (X : OnGrid x k (place key g)) (Y : OnGrid y k (place key h)) (F : OnGrid f k (place key i)) where
  pub rising_ahead : g < h → g ≤ i → Time false (i - g) (h - g) (minus f x) (minus y x)
  rising_ahead m n =
      let z : away i g ≡ pos (i - g) = omega (arith, ints) in
      let w : away h g ≡ pos (h - g) = omega (arith, ints) in
      plane_time k x y f key g h i K l G H I X Y F (pos (i - g)) (pos (h - g)) false (i - g) (h - g) (λ e. omega arith) z w refl refl refl

  pub rising_behind : g < h → i < g → Time true (g - i) (h - g) (minus f x) (minus y x)
  rising_behind m n =
      let z : away i g ≡ negsuc (g - i - 1) = omega (arith, ints) in
      let w : away h g ≡ pos (h - g) = omega (arith, ints) in
      plane_time k x y f key g h i K l G H I X Y F (negsuc (g - i - 1)) (pos (h - g)) true (g - i) (h - g) (λ e. omega arith) z w refl (omega arith) refl

  pub falling_ahead : h < g → i < g → Time false (g - i) (g - h) (minus f x) (minus y x)
  falling_ahead m n =
      let z : away i g ≡ negsuc (g - i - 1) = omega (arith, ints) in
      let w : away h g ≡ negsuc (g - h - 1) = omega (arith, ints) in
      plane_time k x y f key g h i K l G H I X Y F (negsuc (g - i - 1)) (negsuc (g - h - 1)) false (g - i) (g - h) (λ e. omega arith) z w refl (omega arith) (omega arith)

  pub falling_behind : h < g → g ≤ i → Time true (i - g) (g - h) (minus f x) (minus y x)
  falling_behind m n =
      let z : away i g ≡ pos (i - g) = omega (arith, ints) in
      let w : away h g ≡ negsuc (g - h - 1) = omega (arith, ints) in
      plane_time k x y f key g h i K l G H I X Y F (pos (i - g)) (negsuc (g - h - 1)) true (i - g) (g - h) (λ e. omega arith) z w refl refl (omega arith)

-- ---- the chunk's own clip, with its low face at 0 and its high one at 1024: a line between grid points of the chunk enters at zero or before
-- and leaves at one or later, up to 2 ^ -22 where it falls
module _ (k : ℕ) (x y lo hi : Float) (key : ℤ) (g h : ℕ) (K : k ≤ 20) (l : nat_abs key ≤ 4096) (G : g ≤ 1023) (H : h ≤ 1023)
    (X : OnGrid x k (place key g)) (Y : OnGrid y k (place key h)) (L : OnGrid lo k (place key 0)) (U : OnGrid hi k (place key 1024)) where
  pub rising_enters : g < h → T (le (times (minus lo x) (over one (minus y x))) zero)
  rising_enters m = elim (eq-zero-or-pos g) [
    | inl z ↦
        let c = (rising_ahead k x y lo key g h 0 K l G H (omega arith) X Y L m (omega arith)).product in
        let none : 0 - g ≡ 0 = omega arith in
        let v = times (minus lo x) (over one (minus y x)) in
        le_of_values v zero 0 1 0 1 (omega arith) (omega arith) (close_zero false (h - g) v (omega arith) (subst (λ (i : ℕ). Close false i (h - g) v) none c)) zero_value (omega arith)
    | inr z ↦ close_not_above_zero (g - 0) (h - g) (times (minus lo x) (over one (minus y x))) (rising_behind k x y lo key g h 0 K l G H (omega arith) X Y L m z).product
  ]

  pub rising_entry_bounded : g < h → T (lt (neg largest) (times (minus lo x) (over one (minus y x))))
  rising_entry_bounded m =
      let v = times (minus lo x) (over one (minus y x)) in
      elim (eq-zero-or-pos g) [
        | inl z ↦ close_above_lowest false (0 - g) (h - g) v (omega arith) (omega arith) (rising_ahead k x y lo key g h 0 K l G H (omega arith) X Y L m (omega arith)).product
        | inr z ↦ close_above_lowest true (g - 0) (h - g) v (omega arith) (omega arith) (rising_behind k x y lo key g h 0 K l G H (omega arith) X Y L m z).product
      ]

  pub rising_leaves : g < h → Close false (1024 - g) (h - g) (times (minus hi x) (over one (minus y x)))
  rising_leaves m = (rising_ahead k x y hi key g h 1024 K l G H (omega arith) X Y U m (omega arith)).product

  pub falling_enters : h < g → T (le (times (minus hi x) (over one (minus y x))) zero)
  falling_enters m = close_not_above_zero (1024 - g) (g - h) (times (minus hi x) (over one (minus y x))) (falling_behind k x y hi key g h 1024 K l G H (omega arith) X Y U m (omega arith)).product

  pub falling_entry_bounded : h < g → T (lt (neg largest) (times (minus hi x) (over one (minus y x))))
  falling_entry_bounded m =
      close_above_lowest true (1024 - g) (g - h) (times (minus hi x) (over one (minus y x))) (omega arith) (omega arith)
      (falling_behind k x y hi key g h 1024 K l G H (omega arith) X Y U m (omega arith)).product

  pub falling_leaves : h < g → Close false g (g - h) (times (minus lo x) (over one (minus y x)))
  falling_leaves m =
      let all : g - 0 ≡ g = omega arith in
      subst (λ (i : ℕ). Close false i (g - h) (times (minus lo x) (over one (minus y x)))) all (falling_ahead k x y lo key g h 0 K l G H (omega arith) X Y L m (omega arith)).product

-- ---- the cell that a line starts in, where it starts at zero of either sign: c is the size of a cell
pub first_key : (k : ℕ) (x y start c : Float) (key : ℤ) (g h : ℕ) → k ≤ 20 → nat_abs key ≤ 4096 → g ≤ 1023 → h ≤ 1023
    → OnGrid x k (place key g) → OnGrid y k (place key h) → T (eq start zero) → IsCell c k
    → to_signed 31 (Floats.floor binary32 (over (plus x (times (minus y x) start)) c)) ≡ cell_key key (g / 128)
first_key k x y start c key g h K l G H X Y o C =
    let d = minus y x in
    let D = grid_sign k d (away h g) (offset_exact k x y key g h K l (omega arith) (omega arith) X Y) in
    key_exact k (plus x (times d start)) c key g l G
    (start_exact k x d start (place key g) (is_negative (away h g)) (nat_abs (away h g) * 2 ^ k) (2 ^ 17) K (place_bound key g l (omega arith)) X (pow_pos 17) D o) C
