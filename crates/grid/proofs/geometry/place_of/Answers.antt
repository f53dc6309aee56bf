use Rattle.std.proofs.Common.{◌≡◌, ℕ, ℤ, pos, ◌*ℤ◌, ◌-ℤ◌, nat_abs, ap, ◌∙◌, arith, w32, w64, to_z, of_z}
use Rattle.std.specs.Int.{int_max, int_min}
use Rattle.std.proofs.lemmas.Int.{ints}
use Rattle.math.specs.Vectors.{to_i32}
use Rattle.grid.specs.Frame.{place_of, nearest_place, lowest_key}
use Rattle.grid.proofs.geometry.place_of.Goals as goal

-- a number that is what the clamp leaves is the place
clamped : (low key z : ℤ) (n : ℕ) → z ≡ int_max (pos 0) (int_min (key -ℤ low) (pos 8)) → n ≡ nat_abs z → n ≡ nearest_place low key
clamped low key z n e is = grind (arith, ints)

pub returns : goal.returns
unfolding place_of
returns c =
    let key : c.from-key.result ≡ c.to_i32.result = omega (arith, ints) in
    let low : c.from-low.result ≡ c.args.chunk_key = omega (arith, ints) in
    let gap : to_z w64 (of_z w64 (to_z w64 (of_z w64 c.from-key.result) -ℤ to_z w64 (of_z w64 (pos 8 *ℤ to_z w64 (of_z w64 c.from-low.result))))) ≡ c.to_i32.result -ℤ lowest_key c.args.chunk_key = omega (arith, ints) in
    let same : to_z w64 (of_z w64 c.clamp.result) ≡ c.clamp.result = omega (arith, ints) in
    let left = c.clamp.ensures.value ∙ ap (λ (z : ℤ). int_max (pos 0) (int_min z (pos 8))) gap in
    clamped (lowest_key c.args.chunk_key) c.to_i32.result c.clamp.result _ left (omega (arith, ap nat_abs same)) ∙ ap (nearest_place (lowest_key c.args.chunk_key)) (c.to_i32.ensures ∙ ap to_i32 c.floor.ensures)
