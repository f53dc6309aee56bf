-- What a chain of steps that may give nothing says of each step.
use Rattle.std.proofs.Common.{◌≡◌, Some, None, Option, refl, arith}
use Rattle.query.specs.Cast.{and_then}

pub none_is_not_some : {A B : Type 0} (x : A) → ◌≡◌ {A = Option A} None (Some x) → B
none_is_not_some x e = let z : ◌≡◌ {A = Prim.Native.Nat.ℕ} 0 1 = cc in absurd (omega arith)

pub through : {A B : Type 0} (o : Option A) (f : A → Option B) (y : B) → and_then o f ≡ Some y → (x : A) × (o ≡ Some x) × (f x ≡ Some y)
through None f y e = none_is_not_some y e
through (Some x) f y e = (x, refl, e)
