-- A power of two by its bits, and as a unit and a cell of the grid.
use Rattle.std.proofs.Common.{◌≡◌, ℕ, suc, ◌+◌, ◌*◌, ◌/◌, ◌%◌, ◌^◌, ◌<◌, Bool, true, false, cond, leb, ℤ, pos, negsuc, ◌+ℤ◌, ◌-ℤ◌, refl, ap, ◌∙◌, arith, pow_pos, pow-add, ne_eqb}
use lib.Count.{count_trailing_zeros}
use lib.Ieee.{nan, inf, fin, binary32, of_bits, of_fields, odd, minus}
use lib.Ieee.Exact.{HasValue}
use borrow.Author.Tests.{lt-leb}
use Rattle.std.proofs.lemmas.Int.{ints}
use Rattle.scalar.specs.Grid.{IsUnit, IsCell}
use Rattle.scalar.proofs.Values.{value_as}
use Rattle.sight.specs.Power.{power_of_two}

fields_of_power : (x : ℕ) → suc x < 255 → of_fields binary32 false (suc x) 0 ≡ fin false 1 (minus (x + 23) 149)
unfolding of_fields odd count_trailing_zeros
fields_of_power x h = ap (λ (b : Bool). cond b (cond true (inf false) nan) (odd 24 false 8388608 x 149)) (ne_eqb (suc x) 255 (λ (e : suc x ≡ 255). omega arith))

bits_of_power : (x : ℕ) → suc x < 255 → of_bits binary32 (suc x * 8388608) ≡ fin false 1 (minus (x + 23) 149)
unfolding of_bits
bits_of_power x h =
    let b = suc x * 8388608 in
    let e : b % 2 ^ 31 / 2 ^ 23 ≡ suc x = omega arith in
    let d : b % 2 ^ 23 ≡ 0 = omega arith in
    let n : leb (2 ^ 31) b ≡ false = lt-leb (2 ^ 31) b (omega arith) in
    ap (λ (s : Bool). of_fields binary32 s (b % 2 ^ 31 / 2 ^ 23) (b % 2 ^ 23)) n
    ∙ ap (λ (y : ℕ). of_fields binary32 false y (b % 2 ^ 23)) e
    ∙ ap (λ (t : ℕ). of_fields binary32 false (suc x) t) d
    ∙ fields_of_power x h

exponent_back : (x : ℕ) (e : ℤ) → pos (suc x) ≡ e +ℤ pos 127 → minus (x + 23) 149 ≡ e
exponent_back x e h = grind (arith, ints)

pub power_by_bits : (n : ℕ) (e : ℤ) → pos n ≡ e +ℤ pos 127 → 0 < n → n < 255 → of_bits binary32 (n * 8388608) ≡ power_of_two e
power_by_bits ℕ.zero e h p q = absurd (omega arith)
power_by_bits (suc x) e h p q = bits_of_power x q ∙ ap (λ (z : ℤ). fin false 1 z) (exponent_back x e h)

-- ---- its value
power_value : (e : ℤ) (k : ℕ) → e +ℤ pos 17 ≡ pos k → HasValue (power_of_two e) false (2 ^ k) (2 ^ 17)
power_value (pos n) k h =
    let s : k ≡ n + 17 = omega (arith, ints) in
    (refl, rw s (rw (pow-add 2 n 17) (omega arith)))
power_value (negsuc n) k h =
    let s : 17 ≡ k + suc n = omega (arith, ints) in
    let t : 2 ^ 17 ≡ 2 ^ k * 2 ^ suc n = ap (λ (i : ℕ). 2 ^ i) s ∙ pow-add 2 k (suc n) in
    (refl, omega (arith, t))

-- with the exponent e of a cell, k is e + 10
pub power_is_unit : (e : ℤ) (k : ℕ) → e +ℤ pos 10 ≡ pos k → IsUnit (power_of_two (e -ℤ pos 7)) k
power_is_unit e k h = power_value (e -ℤ pos 7) k (omega (arith, ints))

pub power_is_cell : (e : ℤ) (k : ℕ) → e +ℤ pos 10 ≡ pos k → IsCell (power_of_two e) k
power_is_cell e k h =
    value_as (power_of_two e) false (2 ^ (k + 7)) (2 ^ 17) (128 * 2 ^ k) (2 ^ 17) (pow_pos 17) (rw (pow-add 2 k 7) (omega arith))
    (power_value e (k + 7) (omega (arith, ints)))
