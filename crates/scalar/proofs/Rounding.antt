-- How near `round` comes to its fraction: within half a unit of its last digit, so that no other value of the format is nearer.
use Rattle.std.proofs.Common.{◌≡◌, ℕ, suc, ◌+◌, ◌-◌, ◌*◌, ◌/◌, ◌%◌, ◌^◌, ◌<◌, ◌≤◌, true, false, sym, refl, ap, ◌∙◌, subst, inl, inr, le_trans, le_of_eq, mul-le-mul_right, mod-lt, mul_assoc, lt_of_mul-lt-mul_right, eq-or-lt_of_le, mul-lt-mul_of_pos_right, mul-pos, div-add-mod', le-div_iff_mul-le, arith, pow_pos, pow_mono, pow-add}
use Prim.Native.Nat.{compare, Ordering}
use lib.Dec.{is_le, compare_is_eq}
use lib.Ieee.{Format, prec, low, size, nearest}
use lib.Ieee.Digits.{size_reaches}
use lib.Ieee.Nearest.{closest, nearest-ge}
use lib.Ieee.Order.{drop, kept}
use lib.Ieee.Scale.{grid}
use Rattle.std.proofs.lemmas.Bool.{cases_lt, cases_eq, leb-true, leb-false, eqb-true}

-- ---- a fraction to the nearest whole number

-- g is at most a half away from n / d
abbrev pub WithinHalf : ℕ → ℕ → ℕ → Type 0
WithinHalf g n d = (2 * (g * d) ≤ 2 * n + d) × (2 * n ≤ 2 * (g * d) + d)

pub closest_within_half : (n d : ℕ) → 0 < d → WithinHalf (closest n d) n d
closest_within_half n d D =
    subst (λ (z : ℕ). WithinHalf (closest n d) z d) (div-add-mod' n d)
    (by_order (compare (n % d * 2) d) (n / d) (n % d) (mod-lt n D) (leb-true (n % d * 2) d) (leb-false (n % d * 2) d) (eqb-true (n % d * 2) d))
  where
    -- the remainder r decides between the whole part q and the next number; a tie goes to the even one of them
    by_order : (o : Ordering) (q r : ℕ) → r < d → (is_le o ≡ true → r * 2 ≤ d) → (is_le o ≡ false → d < r * 2) → (compare_is_eq o ≡ true → r * 2 ≡ d) → WithinHalf (nearest q o) (q * d + r) d
    by_order Ordering.lt q r l at_most more same = omega (arith, at_most refl)
    by_order Ordering.gt q r l at_most more same = omega (arith, more refl)
    by_order Ordering.eq q r l at_most more same = elim (cases_eq (q % 2) 0) [
      | inl even ↦ let e : q + q % 2 ≡ q = omega arith in rw e (omega (arith, same refl))
      | inr odd ↦ let e : q + q % 2 ≡ suc q = omega arith in rw e (omega (arith, same refl))
    ]

-- ---- the normal range: there the digits kept are all of the format's, so half a unit is a share of 2 ^ -prec at most

-- g is at most a share of 2 ^ -p of n / c away from n / c
abbrev pub Near : ℕ → ℕ → ℕ → ℕ → Type 0
Near p g n c = (g * c * 2 ^ p ≤ n * 2 ^ p + n) × (n * 2 ^ p ≤ g * c * 2 ^ p + n)

leading_digit : (p z : ℕ) → 0 < p → p ≤ z → p - 1 + (z - p) < z
leading_digit p z P h = omega arith

-- with the unit u at most n / w', where w is 2 * w'
half_as_share : (w' w g u n : ℕ) → w ≡ 2 * w' → u * w' ≤ n → WithinHalf g n u → (g * u * w ≤ n * w + n) × (n * w ≤ g * u * w + n)
half_as_share w' w g u n e s h =
    let over : 2 * (g * u) * w' ≤ (2 * n + u) * w' = mul-le-mul_right w' h.0 in
    let under : 2 * n * w' ≤ (2 * (g * u) + u) * w' = mul-le-mul_right w' h.1 in
    rw e (omega arith)

pub grid_near : (f : Format) (a c : ℕ) → 0 < prec f → 0 < c → prec f ≤ size (a * 2 ^ low f / c) → Near (prec f) (grid f a c) (a * 2 ^ low f) c
grid_near f a c P C normal =
    let n = a * 2 ^ low f in
    let p = prec f in
    let k = drop p n c in
    let u = c * 2 ^ k in
    let g = kept p n c in
    let reach : 2 ^ (p - 1 + k) * c ≤ n = (le-div_iff_mul-le C).0 (size_reaches (n / c) (p - 1 + k) (leading_digit p (size (n / c)) P normal)) in
    let twice : 2 ^ p ≡ 2 * 2 ^ (p - 1) = ap (λ (i : ℕ). 2 ^ i) {y = 1 + (p - 1)} (omega arith) ∙ pow-add 2 1 (p - 1) in
    let unit : u * 2 ^ (p - 1) ≤ n = omega (arith, ap (λ (i : ℕ). i * c) (pow-add 2 (p - 1) k)) in
    let e : g * 2 ^ k * c ≡ g * u = omega arith in
    subst (λ (i : ℕ). (i * 2 ^ p ≤ n * 2 ^ p + n) × (n * 2 ^ p ≤ i * 2 ^ p + n)) (sym e)
    (half_as_share (2 ^ (p - 1)) (2 ^ p) g u n twice unit (closest_within_half n u (mul-pos C (pow_pos k))))

-- ---- no other value is nearer

-- two multiples of v differ by v at least
next_multiple : (a b v : ℕ) → a * v < b * v → a * v + v ≤ b * v
next_multiple a b v h = let l : a < b = lt_of_mul-lt-mul_right v h in le_trans (omega arith) (mul-le-mul_right v l)

-- a number of p binary digits, j * 2 ^ i, that reaches 2 ^ (p - 1 + k) is a multiple of 2 ^ k
pub multiple : (p j i k : ℕ) → 0 < p → j < 2 ^ p → 2 ^ (p - 1 + k) ≤ j * 2 ^ i → (b : ℕ) × (j * 2 ^ i ≡ b * 2 ^ k)
multiple p j i k P J h =
    let l : k ≤ i = elim (cases_lt i k) [
      | inr l ↦ l
      | inl s ↦
          let a : 2 ^ (p + i) ≤ 2 ^ (p - 1 + k) = pow_mono (omega arith) in
          let b : j * 2 ^ i < 2 ^ p * 2 ^ i = mul-lt-mul_of_pos_right J (pow_pos i) in
          absurd (omega (arith, pow-add 2 p i))
    ] in
    (j * 2 ^ (i - k), ap (λ (z : ℕ). j * 2 ^ z) {y = i - k + k} (omega arith) ∙ ap (λ (z : ℕ). j * z) (pow-add 2 (i - k) k) ∙ sym (mul_assoc j (2 ^ (i - k)) (2 ^ k)))

-- the middle of x and y lies beyond n / c, or short of it, for the value x that is kept and another value y
abbrev pub Beyond : ℕ → ℕ → ℕ → ℕ → Type 0
Beyond x y n c = 2 * n ≤ (x + y) * c

abbrev pub Short : ℕ → ℕ → ℕ → ℕ → Type 0
Short x y n c = (x + y) * c ≤ 2 * n

-- g * v is a multiple of v nearest to n / c, and b * v is another
among_multiples : (g b v n c : ℕ) → WithinHalf g n (c * v) → (g * v < b * v → Beyond (g * v) (b * v) n c) × (b * v < g * v → Short (g * v) (b * v) n c)
among_multiples g b v n c h = (
  λ l. let s = mul-le-mul_right c (next_multiple g b v l) in omega (arith, h.1),
  λ l. let s = mul-le-mul_right c (next_multiple b g v l) in omega (arith, h.0),
)

-- q is below the multiple t = w * v, and n / c is not
below_multiples : (g q v t w n c : ℕ) → WithinHalf g n (c * v) → t ≡ w * v → t ≤ g * v → t * c ≤ n → q < t → Short (g * v) q n c
below_multiples g q v t w n c h e l s m = elim (eq-or-lt_of_le l) [
  | inl same ↦
      let a : (g * v + q) * c ≤ (t + t) * c = mul-le-mul_right c (omega arith) in
      omega arith
  | inr more ↦
      let f : w * v + v ≤ g * v = next_multiple w g v (subst (λ (z : ℕ). z < g * v) e more) in
      let a : (q + v) * c ≤ g * v * c = mul-le-mul_right c (omega arith) in
      omega (arith, h.0)
]

-- any value of the format is j * 2 ^ i units with a j of at most prec digits
pub none_nearer : (f : Format) (a c : ℕ) → 0 < prec f → 0 < c → prec f ≤ size (a * 2 ^ low f / c) → (j i : ℕ) → j < 2 ^ prec f
    → (grid f a c < j * 2 ^ i → Beyond (grid f a c) (j * 2 ^ i) (a * 2 ^ low f) c) × (j * 2 ^ i < grid f a c → Short (grid f a c) (j * 2 ^ i) (a * 2 ^ low f) c)
none_nearer f a c P C normal j i J =
    let n = a * 2 ^ low f in
    let p = prec f in
    let k = drop p n c in
    let v = 2 ^ k in
    let t = 2 ^ (p - 1 + k) in
    let g = kept p n c in
    let q = j * 2 ^ i in
    let unit : 0 < c * v = mul-pos C (pow_pos k) in
    let half : WithinHalf g n (c * v) = closest_within_half n (c * v) unit in
    let reach : t * c ≤ n = (le-div_iff_mul-le C).0 (size_reaches (n / c) (p - 1 + k) (leading_digit p (size (n / c)) P normal)) in
    let te : t ≡ 2 ^ (p - 1) * v = pow-add 2 (p - 1) k in
    let enough : 2 ^ (p - 1) * (c * v) ≤ n = omega (arith, ap (λ (z : ℕ). z * c) te) in
    let least : 2 ^ (p - 1) ≤ g = le_trans ((le-div_iff_mul-le unit).1 enough) (nearest-ge (n / (c * v)) _) in
    let from : t ≤ g * v = le_trans (le_of_eq te) (mul-le-mul_right v least) in
    elim (cases_lt q t) [
      | inr s ↦
          let m = multiple p j i k P J s in
          subst (λ (x : ℕ). (g * v < x → Beyond (g * v) x n c) × (x < g * v → Short (g * v) x n c)) (sym m.1) (among_multiples g m.0 v n c half)
      | inl s ↦ (λ l. absurd (omega arith), λ l. below_multiples g q v t (2 ^ (p - 1)) n c half te from reach s)
    ]
