-- What is written of a statement, and of what a line should have had.
use Rattle.std.specs.Prelude.{ℕ, ◌^◌, ◌<◌, List, [], ◌∷◌, ◌++◌, ℤ, codes, decimal, unsigned_abs}
use Rattle.std.specs.Fmt.{signed_decimal}
use Rattle.math.specs.declared.IVector.{IVector}
use Rattle.setup.specs.declared.Statement.{Statement}
use Rattle.setup.specs.declared.Statement.TheVariants as statement
use Rattle.setup.specs.declared.Keyword.{Keyword}
use Rattle.setup.specs.declared.Keyword.TheVariants.{Room, Mark, Wipe, Sight}
use Rattle.setup.specs.declared.Expected.{Expected}
use Rattle.setup.specs.declared.Expected.TheVariants as expected
use Rattle.setup.specs.Grammar.{count, name}

abbrev pub keyword : Statement → Keyword
keyword (statement.Room e k i) = Room
keyword (statement.Mark c) = Mark
keyword (statement.Wipe c) = Wipe
keyword (statement.Sight c t) = Sight

abbrev pub coordinates : IVector → List ℤ
coordinates v = v.x ∷ v.y ∷ v.z ∷ []

-- in the order in which they are written
abbrev pub numbers : Statement → List ℤ
numbers (statement.Room e k i) = e ∷ (coordinates k ++ (i ∷ []))
numbers (statement.Mark c) = coordinates c
numbers (statement.Wipe c) = coordinates c
numbers (statement.Sight c t) = coordinates c ++ coordinates t

-- each number after a space
abbrev pub spaced : List ℤ → List ℕ
spaced [] = []
spaced (z ∷ zs) = 32 ∷ (signed_decimal z ++ spaced zs)

abbrev pub written : Statement → List ℕ
written s = name (keyword s) ++ spaced (numbers s)

abbrev pub wanted : Expected → List ℕ
wanted expected.Keyword = codes "expected room, mark, wipe or sight"
wanted (expected.Numbers k) = codes "expected " ++ (decimal (count k) ++ (codes " numbers after " ++ name k))
wanted (expected.WholeNumber place) = codes "expected a whole number of at most nine digits as number " ++ decimal place

-- at most nine digits
abbrev pub Short : ℤ → Type 0
Short z = unsigned_abs z < 10 ^ 9
