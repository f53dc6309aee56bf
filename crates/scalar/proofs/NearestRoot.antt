-- The root of binary32, as std defines it, is the value nearest to the exact root.
use Rattle.std.proofs.Common.{◌≡◌, ℕ, zero, suc, ◌+◌, ◌-◌, ◌*◌, ◌/◌, ◌%◌, ◌^◌, ◌<◌, ◌≤◌, Bool, true, false, cond, ◌&&◌, T, eqb, ltb, leb, ℤ, pos, negsuc, sym, refl, ap, ◌∙◌, subst, inl, inr, mul-le-mul_right, zero-lt-suc, mul_assoc, mul-le-mul, lt_of_mul-lt-mul_right, mul-le-mul_left, mul-lt-mul_of_pos_right, mul-pos, le_of_mul-le-mul_right, mul-div_cancel, mul_left_comm, arith, eqb→eq, ltb→lt, leb→le, pow_pos, pow_mono, pow-add}
use native.Mathlib.Nat.{eq_of_mul-eq-mul_right}
use lib.Arith.{lt_of_le-ne}
use lib.Ieee.{Float, nan, inf, fin, binary32, up, down, size, round, root_below, root_twice, fits}
use lib.Ieee.Digits.{size-lt}
use lib.Ieee.Fits.{up_pos, down_pos, and_l, and_r}
use lib.Ieee.Exact.{HasValue}
use lib.Ieee.Scale.{grid, round_val, normal_of_fraction}
use Rattle.std.proofs.lemmas.Bool.{cases_lt, cases_eq, leb-true, leb-false, eqb-true, cond_both}
use Rattle.std.specs.Float.{sqrt}
use Rattle.scalar.specs.Root.{NearestRoot, RootOf}
use Rattle.scalar.proofs.Rounding.{grid_near, none_nearer}

-- ---- the whole part of a root
record WholeRoot (n s : ℕ) : Type 0 where
  reached : s * s ≤ n
  passed : n < suc s * suc s

-- one binary digit of the root for two of the number
root_digit : (n r : ℕ) → WholeRoot (n / 4) r → WholeRoot n (cond (leb ((2 * r + 1) * (2 * r + 1)) n) (2 * r + 1) (2 * r))
root_digit n r h =
    cond_both (leb ((2 * r + 1) * (2 * r + 1)) n) (2 * r + 1) (2 * r) (WholeRoot n)
    (λ t. record { reached = leb-true ((2 * r + 1) * (2 * r + 1)) n t; passed = omega (arith, h.passed) })
    (λ t. record { reached = omega (arith, h.reached); passed = omega (arith, leb-false ((2 * r + 1) * (2 * r + 1)) n t) })

root_digits : (k n : ℕ) → n < 2 ^ k → WholeRoot n (root_below k n)
unfolding root_below
root_digits zero n h = record { reached = omega arith; passed = omega arith }
root_digits (suc k) n h = root_digit n (root_below k (n / 4)) (root_digits k (n / 4) (omega arith))

abbrev whole_root : ℕ → ℕ
whole_root n = root_below (size n) n

whole_root_lem : (n : ℕ) → WholeRoot n (whole_root n)
whole_root_lem n = root_digits (size n) n (size-lt n)

squares_order : (a b : ℕ) → a * a < b * b → a < b
squares_order a b h = elim (cases_lt a b) [ inl l ↦ l | inr l ↦ absurd (omega (arith, mul-le-mul l l)) ]

-- t is twice the root of n where that is whole, and else the odd number beside it: an even number 2 * h stands to t as to twice the root itself
record TwiceRoot (n t : ℕ) : Type 0 where
  least : 2 * whole_root n ≤ t
  most : t ≤ 2 * whole_root n + 1
  over : (h : ℕ) → t ≤ 2 * h → 4 * n ≤ 2 * h * (2 * h)
  under : (h : ℕ) → 2 * h ≤ t → 2 * h * (2 * h) ≤ 4 * n

twice_root : (n : ℕ) → TwiceRoot n (root_twice n)
unfolding root_twice
twice_root n =
    cond_both (eqb (whole_root n * whole_root n) n) 0 1 (λ (d : ℕ). TwiceRoot n (2 * whole_root n + d))
    (λ e. record {
      least = omega arith;
      most = omega arith;
      over = λ h l. let k : whole_root n ≤ h = omega arith in omega (arith, mul-le-mul k k, eqb-true (whole_root n * whole_root n) n e);
      under = λ h l. let k : h ≤ whole_root n = omega arith in omega (arith, mul-le-mul k k, (whole_root_lem n).reached);
    })
    (λ e. record {
      least = omega arith;
      most = omega arith;
      over = λ h l. let k : suc (whole_root n) ≤ h = omega arith in omega (arith, mul-le-mul k k, (whole_root_lem n).passed);
      under = λ h l. let k : h ≤ whole_root n = omega arith in omega (arith, mul-le-mul k k, (whole_root_lem n).reached);
    })

-- ---- powers of two
pow_order : (i j : ℕ) → 2 ^ i ≤ 2 ^ j → i ≤ j
pow_order i j h = elim (cases_lt j i) [
  | inr l ↦ l
  | inl l ↦ let a : 2 ^ (j + 1) ≤ 2 ^ i = pow_mono (omega arith) in absurd (omega (arith, pow-add 2 j 1, pow_pos j))
]

pow_split : (l k : ℕ) → k ≤ l → 2 ^ l ≡ 2 ^ (l - k) * 2 ^ k
pow_split l k h = ap (λ (z : ℕ). 2 ^ z) {y = l - k + k} (omega arith) ∙ pow-add 2 (l - k) k

pow-suc : (a i : ℕ) → a * 2 ^ suc i ≡ 2 * (a * 2 ^ i)
pow-suc a i = let e : 2 ^ suc i ≡ 2 * 2 ^ i = omega arith in ap (λ (z : ℕ). a * z) e ∙ mul_left_comm a 2 (2 ^ i)

-- the exponents of up e and down e
abbrev raised : ℤ → ℕ
raised (pos k) = k
raised (negsuc k) = 0

abbrev lowered : ℤ → ℕ
lowered (pos k) = 0
lowered (negsuc k) = suc k

up_is : (e : ℤ) → up e ≡ 2 ^ raised e
up_is (pos k) = refl
up_is (negsuc k) = refl

down_is : (e : ℤ) → down e ≡ 2 ^ lowered e
down_is (pos k) = refl
down_is (negsuc k) = refl

-- ---- the values of binary32
record InFormat (m : ℕ) (e : ℤ) : Type 0 where
  odd : m % 2 ≡ 1
  few : m < 2 ^ 24
  fine : down e ≤ 2 ^ 149
  bounded : m * up e < 2 ^ 128 * down e

in_format : (s : Bool) (m : ℕ) (e : ℤ) → T (fits binary32 (fin s (suc m) e)) → InFormat (suc m) e
unfolding fits
in_format s m e f =
    let o = eqb (suc m % 2) 1 in
    let l = ltb (suc m) (2 ^ 24) in
    let d = leb (down e) (2 ^ 149) in
    let b = ltb (suc m * up e) (2 ^ 128 * down e) in
    record {
      odd = eqb→eq (suc m % 2) 1 (and_l o l (and_l (o && l) d (and_l (o && l && d) b f)));
      few = ltb→lt (suc m) (2 ^ 24) (and_r o l (and_l (o && l) d (and_l (o && l && d) b f)));
      fine = leb→le (down e) (2 ^ 149) (and_r (o && l) d (and_l (o && l && d) b f));
      bounded = ltb→lt (suc m * up e) (2 ^ 128 * down e) (and_r (o && l && d) b f);
    }

-- in units of 2 ^ -149 each is a number of at most 24 binary digits, times a power of two
pub record Digits (q : ℕ) : Type 0 where
  pub digits : ℕ
  pub shift : ℕ
  pub few : digits < 2 ^ 24
  pub is : q ≡ digits * 2 ^ shift

in_units : (m : ℕ) (e : ℤ) (q : ℕ) → m < 2 ^ 24 → down e ≤ 2 ^ 149 → m * up e * 2 ^ 149 ≡ q * down e → Digits q
in_units m (pos k) q l h e = record { digits = m; shift = k + 149; few = l; is = omega (arith, ap (λ (z : ℕ). m * z) (pow-add 2 k 149)) }
in_units m (negsuc k) q l h e =
    let fine : suc k ≤ 149 = pow_order (suc k) 149 h in
    record {
      digits = m;
      shift = 149 - suc k;
      few = l;
      is = eq_of_mul-eq-mul_right (2 ^ suc k) (pow_pos (suc k)) q (m * 2 ^ (149 - suc k)) (omega (arith, ap (λ (z : ℕ). m * z) (pow_split 149 (suc k) fine)));
    }

pub value_digits : (y : Float) (q : ℕ) → T (fits binary32 y) → HasValue y false q (2 ^ 149) → Digits q
value_digits nan q f v = absurd v
value_digits (inf s) q f v = absurd v
value_digits (fin s zero e) q f v = record { digits = 0; shift = 0; few = omega arith; is = eq_of_mul-eq-mul_right (down e) (down_pos e) q 0 (omega (arith, v.1)) }
value_digits (fin s (suc m) e) q f v = let p = in_format s m e f in in_units (suc m) e q p.few p.fine v.1

-- ---- odd numbers
abbrev Odd : ℕ → Type 0
Odd n = n % 2 ≡ 1

record OddPart (s : ℕ) : Type 0 where
  part : ℕ
  shift : ℕ
  odd : Odd part
  is : s ≡ part * 2 ^ shift

twice_odd_part : (s h : ℕ) → s ≡ 2 * h → OddPart h → OddPart s
twice_odd_part s h e o = record { part = o.part; shift = suc o.shift; odd = o.odd; is = e ∙ ap (λ (z : ℕ). 2 * z) o.is ∙ sym (pow-suc o.part o.shift) }

odd_part : (b s : ℕ) → s < 2 ^ b → 0 < s → OddPart s
odd_part zero s h p = absurd (omega arith)
odd_part (suc b) s h p = elim (cases_eq (s % 2) 0) [
  | inl even ↦ twice_odd_part s (s / 2) (omega arith) (odd_part b (s / 2) (omega arith) (omega arith))
  | inr odd ↦ record { part = s; shift = 0; odd = omega arith; is = omega arith }
]

odd_square : (o : ℕ) → Odd o → Odd (o * o)
odd_square o h =
    let e : o ≡ 2 * (o / 2) + 1 = omega arith in
    let f : o * o ≡ 2 * (o / 2 * (2 * (o / 2) + 2)) + 1 = (λ i. e i * e i) ∙ omega arith in
    omega (arith, f)

-- the odd part is one
same_odd_part : (a b i j : ℕ) → Odd a → Odd b → a * 2 ^ i ≡ b * 2 ^ j → a ≡ b
same_odd_part a b zero zero p q e = omega arith
same_odd_part a b zero (suc j) p q e = absurd (omega (arith, pow-suc b j))
same_odd_part a b (suc i) zero p q e = absurd (omega (arith, pow-suc a i))
same_odd_part a b (suc i) (suc j) p q e = same_odd_part a b i j p q (omega (arith, pow-suc a i, pow-suc b j))

-- ---- a tie: the middle s / 2 of two values, whose square is a / c itself. It is a value of the format too, since M, the odd part of a, has at most 24 digits
-- and is the square of the odd part of s.
record Middle (s : ℕ) : Type 0 where
  half : ℕ
  digits : Digits half
  is : s ≡ 2 * half

middle_of : (s o r : ℕ) → o < 2 ^ 12 → 2 ^ 12 ≤ s → s ≡ o * 2 ^ r → Middle s
middle_of s o zero l big e = absurd (omega arith)
middle_of s o (suc r) l big e = record { half = o * 2 ^ r; digits = record { digits = o; shift = r; few = omega arith; is = refl }; is = e ∙ pow-suc o r }

square_shifted : (s o r : ℕ) → s ≡ o * 2 ^ r → s * s ≡ o * o * 2 ^ (r + r)
square_shifted s o r e = (λ i. e i * e i) ∙ omega (arith, ap (λ (z : ℕ). o * o * z) (pow-add 2 r r))

tie_is_value : (a c M t d s : ℕ) → a ≡ M * 2 ^ t → c ≡ 2 ^ d → Odd M → M < 2 ^ 24 → 2 ^ 12 ≤ s → s * s * c ≡ a * 2 ^ 300 → Middle s
tie_is_value a c M t d s ea ec O few big e = by_odd_part (odd_part (size s) s (size-lt s) (omega arith))
  where
    by_odd_part : OddPart s → Middle s
    by_odd_part p =
        let o : ℕ = p.part in
        let r : ℕ = p.shift in
        let left : o * o * 2 ^ (r + r + d) ≡ s * s * c =
        ap (λ (z : ℕ). o * o * z) (pow-add 2 (r + r) d)
        ∙ sym (mul_assoc (o * o) (2 ^ (r + r)) (2 ^ d))
        ∙ ap (λ (z : ℕ). z * 2 ^ d) (sym (square_shifted s o r p.is))
        ∙ ap (λ (z : ℕ). s * s * z) (sym ec) in
        let right : a * 2 ^ 300 ≡ M * 2 ^ (t + 300) = ap (λ (z : ℕ). z * 2 ^ 300) ea ∙ mul_assoc M (2 ^ t) (2 ^ 300) ∙ ap (λ (z : ℕ). M * z) (sym (pow-add 2 t 300)) in
        let square : o * o ≡ M = same_odd_part (o * o) M (r + r + d) (t + 300) (odd_square o p.odd) O (left ∙ e ∙ right) in
        middle_of s o r (squares_order o (2 ^ 12) (omega arith)) big p.is

squares_lt : (x y c : ℕ) → 0 < c → x < y → x * x * c < y * y * c
squares_lt x y c C h =
    let u : (x + 1) * (x + 1) * c ≤ y * y * c = mul-le-mul_right c (mul-le-mul {n₂ = y} {m₂ = y} (omega arith) (omega arith)) in
    omega (arith, mul-pos {m = x + 1} (omega arith) C)

-- ---- std's root of a / c: twice the root of W, where W is a / c at a scale of A * A * 2 ^ 298, over D. A is a power of two, too large for a tactic to compute.
module _ (A a c W : ℕ) (P : 0 < A) (C : 0 < c) (is : W * c ≡ a * (A * A * 2 ^ 298)) where
  over_square : (s : ℕ) → 4 * W ≤ s * A * (s * A) → a * 2 ^ 300 ≤ s * s * c
  over_square s h =
      let x = mul-le-mul_right c h in
      le_of_mul-le-mul_right {k = A * A} (omega (arith, is)) (mul-pos P P)

  under_square : (s : ℕ) → s * A * (s * A) ≤ 4 * W → s * s * c ≤ a * 2 ^ 300
  under_square s h =
      let x = mul-le-mul_right c h in
      le_of_mul-le-mul_right {k = A * A} (omega (arith, is)) (mul-pos P P)

  -- the root of a value of the format is far from the subnormal values and from overflow
  root_above : 0 < a → c ≤ 2 ^ 149 → A * 2 ^ 75 ≤ root_twice W
  root_above Z h =
      let w : A * A * 2 ^ 149 ≤ W = elim (cases_lt W (A * A * 2 ^ 149)) [
        | inr l ↦ l
        | inl l ↦
            let x : (W + 1) * 2 ^ 149 ≤ A * A * 2 ^ 149 * 2 ^ 149 = mul-le-mul_right (2 ^ 149) (omega arith) in
            let y : W * c ≤ W * 2 ^ 149 = mul-le-mul_left W h in
            let z : 1 * (A * A * 2 ^ 298) ≤ a * (A * A * 2 ^ 298) = mul-le-mul_right (A * A * 2 ^ 298) Z in
            absurd (omega (arith, is))
      ] in
      let s : A * 2 ^ 74 < suc (whole_root W) = squares_order (A * 2 ^ 74) (suc (whole_root W)) (omega (arith, (whole_root_lem W).passed, mul-pos P P)) in
      omega (arith, (twice_root W).least)

  root_below_overflow : a < 2 ^ 128 * c → root_twice W < A * 2 ^ 214
  root_below_overflow h =
      let x : a * (A * A * 2 ^ 298) < 2 ^ 128 * c * (A * A * 2 ^ 298) = mul-lt-mul_of_pos_right h (mul-pos (mul-pos P P) (pow_pos 298)) in
      let w : W < A * A * 2 ^ 426 = lt_of_mul-lt-mul_right c (omega (arith, is)) in
      let s : whole_root W < A * 2 ^ 213 = squares_order (whole_root W) (A * 2 ^ 213) (omega (arith, (whole_root_lem W).reached)) in
      omega (arith, (twice_root W).most)

-- the number of units that std's root has
abbrev root_units : ℕ → ℕ → ℕ
root_units W D = grid binary32 (root_twice W) D

module _ (A a c W : ℕ) (P : 0 < A) (C : 0 < c) (is : W * c ≡ a * (A * A * 2 ^ 298)) (Z : 0 < a) (fine : c ≤ 2 ^ 149) (bounded : a < 2 ^ 128 * c)
    (D B : ℕ) (eD : D ≡ A * 2 ^ 150) (eB : A ≡ 2 * B) where
  D-pos : 0 < D
  D-pos = omega arith

  normal : 24 ≤ size (root_twice W * 2 ^ 149 / D)
  normal = normal_of_fraction binary32 (root_twice W) D D-pos (omega (arith, root_above A a c W P C is Z fine))

  no_overflow : root_units W D < 2 ^ 277
  no_overflow = elim (cases_lt (root_units W D) (2 ^ 277)) [
    | inl l ↦ l
    | inr l ↦
        let near = grid_near binary32 (root_twice W) D (omega arith) D-pos normal in
        let x : 2 ^ 277 * D ≤ root_units W D * D = mul-le-mul_right D l in
        absurd (omega (arith, near.0, root_below_overflow A a c W P C is bounded))
  ]

  many_units : 2 ^ 12 ≤ root_units W D
  many_units = elim (cases_lt (root_units W D) (2 ^ 12)) [
    | inr l ↦ l
    | inl l ↦
        let near = grid_near binary32 (root_twice W) D (omega arith) D-pos normal in
        let x : root_units W D * D ≤ 2 ^ 12 * D = mul-le-mul_right D (omega arith) in
        absurd (omega (arith, near.1, root_above A a c W P C is Z fine))
  ]

  -- the middle with another value, s / 2, in the units of `root_twice`
  sum_over : (s : ℕ) → s * D ≡ s * B * 2 ^ 151
  sum_over s = ap (λ (z : ℕ). s * z) eD ∙ omega (arith, ap (λ (z : ℕ). s * z) eB)

  sum_twice : (s : ℕ) → s * A ≡ 2 * (s * B)
  sum_twice s = omega (arith, ap (λ (z : ℕ). s * z) eB)

  at_or_above : (q : ℕ) → Digits q → root_units W D < q → a * 2 ^ 300 ≤ (root_units W D + q) * (root_units W D + q) * c
  at_or_above q v l =
      let g : ℕ = root_units W D in
      let s : ℕ = g + v.digits * 2 ^ v.shift in
      let n : 2 * (root_twice W * 2 ^ 149) ≤ s * D =
      (none_nearer binary32 (root_twice W) D (omega arith) D-pos normal v.digits v.shift v.few).0 (subst (λ (z : ℕ). g < z) v.is l) in
      let t = (twice_root W).over (s * B) (omega (arith, n, sum_over s)) in
      subst (λ (z : ℕ). a * 2 ^ 300 ≤ (g + z) * (g + z) * c) (sym v.is) (over_square A a c W P C is s (rw sum_twice t))

  at_or_below : (q : ℕ) → Digits q → q < root_units W D → (root_units W D + q) * (root_units W D + q) * c ≤ a * 2 ^ 300
  at_or_below q v l =
      let g : ℕ = root_units W D in
      let s : ℕ = g + v.digits * 2 ^ v.shift in
      let n : s * D ≤ 2 * (root_twice W * 2 ^ 149) =
      (none_nearer binary32 (root_twice W) D (omega arith) D-pos normal v.digits v.shift v.few).1 (subst (λ (z : ℕ). z < g) v.is l) in
      let t = (twice_root W).under (s * B) (omega (arith, n, sum_over s)) in
      subst (λ (z : ℕ). (g + z) * (g + z) * c ≤ a * 2 ^ 300) (sym v.is) (under_square A a c W P C is s (rw sum_twice t))

  module _ (M t d : ℕ) (ea : a ≡ M * 2 ^ t) (ec : c ≡ 2 ^ d) (O : Odd M) (few : M < 2 ^ 24) where
    -- at a tie the middle would be a value between the two, and nearer
    strictly_above : (q : ℕ) → Digits q → root_units W D < q → a * 2 ^ 300 < (root_units W D + q) * (root_units W D + q) * c
    strictly_above q v l =
        let g : ℕ = root_units W D in
        lt_of_le-ne (at_or_above q v l) (λ e.
        let m = tie_is_value a c M t d (g + q) ea ec O few (omega (arith, many_units)) (sym e) in
        let h : ℕ = m.half in
        let between : (g < h) × (g + h < g + q) = omega (arith, m.is) in
        absurd (omega (arith, squares_lt (g + h) (g + q) c C between.1, at_or_above h m.digits between.0)))

    strictly_below : (q : ℕ) → Digits q → q < root_units W D → (root_units W D + q) * (root_units W D + q) * c < a * 2 ^ 300
    strictly_below q v l =
        let g : ℕ = root_units W D in
        lt_of_le-ne (at_or_below q v l) (λ e.
        let m = tie_is_value a c M t d (g + q) ea ec O few (omega (arith, many_units)) e in
        let h : ℕ = m.half in
        let between : (h < g) × (g + q < g + h) = omega (arith, m.is) in
        absurd (omega (arith, squares_lt (g + q) (g + h) c C between.1, at_or_below h m.digits between.0)))

    rounded_root_nearest : NearestRoot a c (round binary32 false (root_twice W) D)
    rounded_root_nearest = record {
      units = root_units W D;
      value = round_val binary32 (root_twice W) D no_overflow;
      above = λ y q f v l. strictly_above q (value_digits y q f v) l;
      below = λ y q f v l. strictly_below q (value_digits y q f v) l;
    }

-- ---- std's own scale, 2 ^ 4542, which every denominator of the format divides
whole_at_scale : (e : ℤ) → down e ≤ 2 ^ 149 → (w : ℕ) × (2 ^ 4542 ≡ w * down e)
whole_at_scale (pos k) h = (2 ^ 4542, refl)
whole_at_scale (negsuc k) h = let l : suc k ≤ 149 = pow_order (suc k) 149 h in (2 ^ (4542 - suc k), pow_split 4542 (suc k) (omega arith))

divides_out : (a c w K : ℕ) → 0 < c → K ≡ w * c → a * K / c * c ≡ a * K
divides_out a c w K C e =
    let x : a * K ≡ a * w * c = ap (λ (z : ℕ). a * z) e ∙ sym (mul_assoc a w c) in
    ap (λ (z : ℕ). z / c * c) x ∙ ap (λ (z : ℕ). z * c) (mul-div_cancel (a * w) C) ∙ sym x

pub root_nearest : (m : ℕ) (e : ℤ) → T (fits binary32 (fin false (suc m) e)) → NearestRoot (suc m * up e) (down e) (sqrt binary32 (fin false (suc m) e))
unfolding sqrt
root_nearest m e f =
    let v = in_format false m e f in
    let w = whole_at_scale e v.fine in
    rounded_root_nearest (2 ^ 2122) (suc m * up e) (down e) (suc m * up e * 2 ^ 4542 / down e) (pow_pos 2122) (down_pos e)
    (divides_out (suc m * up e) (down e) w.0 (2 ^ 4542) (down_pos e) w.1) (mul-pos (zero-lt-suc m) (up_pos e)) v.fine v.bounded
    (2 ^ 2272) (2 ^ 2121) refl refl
    (suc m) (raised e) (lowered e) (ap (λ (z : ℕ). suc m * z) (up_is e)) (down_is e) v.odd v.few

-- the one way to write a zero
pub zero_exponent : (s : Bool) (e : ℤ) → T (fits binary32 (fin s 0 e)) → e ≡ pos 0
unfolding fits
zero_exponent s (pos zero) f = refl
zero_exponent s (pos (suc k)) f =
    let h : 2 ^ suc k * 1 ≡ 1 = eqb→eq (2 ^ suc k * 1) 1 f in
    absurd (omega (arith, h, pow-add 2 k 1, pow_pos k))
zero_exponent s (negsuc k) f =
    let h : 1 * 2 ^ suc k ≡ 1 = eqb→eq (1 * 2 ^ suc k) 1 f in
    absurd (omega (arith, h, pow-add 2 k 1, pow_pos k))

pub root_of : (x : Float) → T (fits binary32 x) → RootOf x (sqrt binary32 x)
unfolding sqrt
root_of nan f = refl
root_of (inf false) f = refl
root_of (inf true) f = refl
root_of (fin s zero e) f = ap (fin s 0) (sym (zero_exponent s e f))
root_of (fin true (suc m) e) f = refl
root_of (fin false (suc m) e) f = root_nearest m e f
