-- A look along a walk: the first cell that stops it, and how many cells the walk has stood on by then.
use Rattle.std.specs.Prelude.{◌≡◌, ℕ, zero, suc, Bool, true, false, cond, Some, None, Option}
use Rattle.line.specs.Line.{Point, Cell, Share, NoLater, TouchesAt, Crosses}
use Rattle.line.specs.Faces.{Entered}

pub record LookResult : Type 0 where
  pub hit : Option Cell
  pub visited : ℕ

abbrev pub clear_after : ℕ → LookResult
clear_after n = record { hit = None; visited = n }

abbrev pub counted : LookResult → LookResult
counted r = record { hit = r.hit; visited = suc r.visited }

abbrev pub look_on : (Cell → LookResult) → Option Cell → LookResult
look_on rest None = clear_after 1
look_on rest (Some d) = counted (rest d)

unfoldable pub look : (Cell → Bool) → (Cell → Option Cell) → ℕ → Cell → LookResult
look stops rule zero c = clear_after 0
look stops rule (suc n) c = cond (stops c) (record { hit = Some c; visited = 1 }) (look_on (look stops rule n) (rule c))

-- ---- filled cells

-- which cells may stop a look: only filled ones, and each filled one that the line crosses
pub record StopsFor (o t : Point) (filled stops : Cell → Bool) : Type 0 where
  pub only_filled : (c : Cell) → stops c ≡ true → filled c ≡ true
  pub each_crossed : (c : Cell) → Crosses o t c → filled c ≡ true → stops c ≡ true

-- the cell k is filled, the line enters it, and it touches no filled cell that it crosses before that
pub record FirstFilled (o t : Point) (filled : Cell → Bool) (k : Cell) : Type 0 where
  pub is_filled : filled k ≡ true
  pub entered : Entered o t k
  pub first : (c : Cell) → Crosses o t c → filled c ≡ true → (r : Share) → TouchesAt o t c r → NoLater entered.share r

-- clear: the line crosses no filled cell
abbrev pub Answers : Point → Point → (Cell → Bool) → Option Cell → Type 0
Answers o t filled None = (c : Cell) → Crosses o t c → filled c ≡ false
Answers o t filled (Some k) = FirstFilled o t filled k
