-- The first hit among a list of things: the earliest, and of equal times the first.
use Rattle.std.specs.Prelude.{◌≡◌, ℕ, zero, suc, ◌<◌, cond, T, List, map, Some, None, Option, slice_index_or}
use Rattle.std.specs.Float.Ieee.{lt, le}
use Rattle.query.specs.declared.ray.RayIntersection.{RayIntersection}
use Rattle.query.specs.declared.first_hit.FirstHit.{FirstHit}

-- the hit of each element, by its index; none past the end
abbrev pub hits_of : {E : Type 0} → (E → Option RayIntersection) → List E → ℕ → Option RayIntersection
hits_of cast things k = slice_index_or (map cast things) k None

abbrev pub at : ℕ → RayIntersection → FirstHit
at i h = record { index = i; hit = h }

-- the best so far, or the element i where it is hit earlier
unfoldable pub earlier : Option FirstHit → ℕ → Option RayIntersection → Option FirstHit
earlier best i None = best
earlier None i (Some h) = Some (at i h)
earlier (Some f) i (Some h) = cond (lt h.time_of_impact f.hit.time_of_impact) (Some (at i h)) (Some f)

-- every element of the first n is asked, in order
unfoldable pub first_among : (ℕ → Option RayIntersection) → ℕ → Option FirstHit
first_among hits zero = None
first_among hits (suc n) = earlier (first_among hits n) n (hits n)

-- none exactly where no element of the first n is hit, else an element with its hit: none is hit earlier, and none before it at the same time
pub record Earliest (hits : ℕ → Option RayIntersection) (n : ℕ) (r : Option FirstHit) : Type 0 where
  pub none : r ≡ None → (k : ℕ) → k < n → hits k ≡ None
  pub found : (f : FirstHit) → r ≡ Some f → (f.index < n) × (hits f.index ≡ Some f.hit)
  pub least : (f : FirstHit) → r ≡ Some f → (k : ℕ) (h : RayIntersection) → k < n → hits k ≡ Some h → T (le f.hit.time_of_impact h.time_of_impact)
  pub first : (f : FirstHit) → r ≡ Some f → (k : ℕ) (h : RayIntersection) → k < f.index → hits k ≡ Some h → T (lt f.hit.time_of_impact h.time_of_impact)
