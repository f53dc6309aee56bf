-- What each statement answers, and the corner after it.
use Rattle.std.specs.Prelude.{◌≡◌, ℕ, Bool, true, false, cond, ◌&&◌, ℤ, pos, is_ok, Some, None, Option, Ok, Err, Result, int_le, unsigned_abs}
use Rattle.math.specs.declared.IVector.{IVector}
use Rattle.setup.specs.declared.Expected.{Expected}
use Rattle.setup.specs.declared.Statement.{Statement}
use Rattle.setup.specs.declared.Statement.TheVariants as statement
use Rattle.sight.specs.declared.scan.Scan.{Scan}
use Rattle.sight.specs.declared.grid_point.GridPoint.{GridPoint}
use Rattle.refusals.specs.declared.Refusal.TheVariants.{PointOutside, BadMaking}
use Rattle.grid.specs.Lawful.{exponent_fits, chunk_fits}
use Rattle.sight.specs.Ranges.{grid_fits}
use Rattle.sight.specs.Power.{cube}
use Rattle.stores.specs.Store.{with_cell}
use Rattle.sight.specs.Cells.{cell_index, cell_answer}
use Rattle.line.specs.Line.{Point, Cell, Crosses}
use Rattle.sight.specs.Sight.{look_at}
use Rattle.looks.specs.Units.{point_of}
use Rattle.looks.specs.Exact.{filled_in, FirstCell}
use Rattle.session.specs.declared.outcome.Outcome.{Outcome}
use Rattle.session.specs.declared.outcome.Outcome.TheVariants.{Blank, Done, Clear, Blocked, Refused, RoomMissing, RoomTwice, Unclear}
use Rattle.session.specs.Outcomes.{seen, done_or}

-- ---- a sight line

-- the grid point has these coordinates
abbrev pub Stands : GridPoint → IVector → Type 0
Stands p v = (pos p.x ≡ v.x) × ((pos p.y ≡ v.y) × (pos p.z ≡ v.z))

abbrev pub kinds_in : {S : Type 0} → (S → ℕ → ℕ) → Scan S → ℕ → ℕ
kinds_in kinds s = kinds s.chunk.cells

-- what the look between the two points sees
abbrev pub Looked : {S : Type 0} → (S → ℕ → ℕ) → Scan S → IVector → IVector → Outcome → Type 0
Looked kinds s camera target o = (p q : GridPoint) → Stands p camera → Stands q target → o ≡ seen (look_at s.exponent s.chunk.frame (kinds_in kinds s) p q)

-- where it is called clear, the exact line between the two points crosses the inside of no filled cell
abbrev pub ClearIsRight : {S : Type 0} → (S → ℕ → ℕ) → Scan S → IVector → IVector → Outcome → Type 0
ClearIsRight kinds s camera target o =
    (visited : ℕ) → o ≡ Clear visited → (p q : GridPoint) → Stands p camera → Stands q target → (c : Cell) → Crosses (point_of p) (point_of q) c → filled_in (kinds_in kinds s) c ≡ false

-- what an outcome says of the exact line from a to b. Clear: the line crosses the inside of no filled cell.
-- Blocked: that cell is filled, and the line enters it, near that time, no later than it touches any filled cell that it crosses.
abbrev pub RightOf : Point → Point → (ℕ → ℕ) → Outcome → Type 0
RightOf a b kinds Blank = Unit {0}
RightOf a b kinds Done = Unit {0}
RightOf a b kinds (Clear visited) = (c : Cell) → Crosses a b c → filled_in kinds c ≡ false
RightOf a b kinds (Blocked cell time visited) = FirstCell a b kinds cell time
RightOf a b kinds (Refused refusal) = Unit {0}
RightOf a b kinds RoomMissing = Unit {0}
RightOf a b kinds RoomTwice = Unit {0}
RightOf a b kinds (Unclear wanted) = Unit {0}

abbrev pub Right : {S : Type 0} → (S → ℕ → ℕ) → Scan S → IVector → IVector → Outcome → Type 0
Right kinds s camera target o = (p q : GridPoint) → Stands p camera → Stands q target → RightOf (point_of p) (point_of q) (kinds_in kinds s) o

-- refused where either end is no grid point
pub record Sees {S : Type 0} (kinds : S → ℕ → ℕ) (s : Scan S) (camera target : IVector) (o : Outcome) : Type 0 where
  pub refused : (grid_fits camera && grid_fits target) ≡ false → o ≡ Refused PointOutside
  pub looked : Looked kinds s camera target o
  pub clear : ClearIsRight kinds s camera target o
  pub right : Right kinds s camera target o

-- ---- a room

-- the id too is refused where it is out of range
abbrev pub room_fits : ℤ → IVector → ℤ → Bool
room_fits e key id = int_le (pos 0) id && (exponent_fits (Some e) && chunk_fits key (cube e) (unsigned_abs id))

-- a corner of empty cells
pub record IsNew {S : Type 0} (kinds : S → ℕ → ℕ) (e : ℤ) (key : IVector) (id : ℤ) (s : Scan S) : Type 0 where
  pub exponent : s.exponent ≡ e
  pub key_is : s.chunk.frame.key ≡ key
  pub id_is : pos s.chunk.frame.id ≡ id
  pub empty : (n : ℕ) → kinds_in kinds s n ≡ 0

abbrev pub Opened : {S : Type 0} → (S → ℕ → ℕ) → ℤ → IVector → ℤ → Option (Scan S) → Type 0
Opened kinds e key id None = ⊥
Opened kinds e key id (Some s) = IsNew kinds e key id s

pub record Opens {S : Type 0} (kinds : S → ℕ → ℕ) (e : ℤ) (key : IVector) (id : ℤ) (o : Outcome) (after : Option (Scan S)) : Type 0 where
  pub made : room_fits e key id ≡ true → (o ≡ Done) × Opened kinds e key id after
  pub refused : room_fits e key id ≡ false → (o ≡ Refused BadMaking) × (after ≡ None)

-- ---- a mark or a wipe: one cell changes, or none where it is refused
pub record Gives {S : Type 0} (kinds : S → ℕ → ℕ) (capacity : ℕ) (s : Scan S) (cell : IVector) (kind : ℕ) (o : Outcome) (t : Scan S) : Type 0 where
  pub answer : o ≡ done_or (cell_answer (kinds_in kinds s) capacity cell kind)
  pub cells : (m : ℕ) → kinds_in kinds t m ≡ cond (is_ok (cell_answer (kinds_in kinds s) capacity cell kind)) (with_cell (kinds_in kinds s) (cell_index cell) kind m) (kinds_in kinds s m)
  pub exponent : t.exponent ≡ s.exponent
  pub frame : t.chunk.frame ≡ s.chunk.frame

-- ---- any statement, by the corner before it
abbrev pub InCorner : {S : Type 0} → (S → ℕ → ℕ) → ℕ → Scan S → Statement → Outcome → Scan S → Type 0
InCorner kinds capacity s (statement.Room e key id) o t = (o ≡ RoomTwice) × (t ≡ s)
InCorner kinds capacity s (statement.Mark cell) o t = Gives kinds capacity s cell 1 o t
InCorner kinds capacity s (statement.Wipe cell) o t = Gives kinds capacity s cell 0 o t
InCorner kinds capacity s (statement.Sight camera target) o t = Sees kinds s camera target o × (t ≡ s)

abbrev pub BeforeRoom : {S : Type 0} → (S → ℕ → ℕ) → Statement → Outcome → Option (Scan S) → Type 0
BeforeRoom kinds (statement.Room e key id) o after = Opens kinds e key id o after
BeforeRoom kinds (statement.Mark cell) o after = (o ≡ RoomMissing) × (after ≡ None)
BeforeRoom kinds (statement.Wipe cell) o after = (o ≡ RoomMissing) × (after ≡ None)
BeforeRoom kinds (statement.Sight camera target) o after = (o ≡ RoomMissing) × (after ≡ None)

abbrev pub StillIn : {S : Type 0} → (S → ℕ → ℕ) → ℕ → Scan S → Statement → Outcome → Option (Scan S) → Type 0
StillIn kinds capacity s statement o None = ⊥
StillIn kinds capacity s statement o (Some t) = InCorner kinds capacity s statement o t

abbrev pub Answers : {S : Type 0} → (S → ℕ → ℕ) → ℕ → Option (Scan S) → Statement → Outcome → Option (Scan S) → Type 0
Answers kinds capacity None statement o after = BeforeRoom kinds statement o after
Answers kinds capacity (Some s) statement o after = StillIn kinds capacity s statement o after

-- ---- a line
abbrev pub AnswersLine : {S : Type 0} → (S → ℕ → ℕ) → ℕ → Option (Scan S) → Result (Option Statement) Expected → Outcome → Option (Scan S) → Type 0
AnswersLine kinds capacity before (Ok None) o after = (o ≡ Blank) × (after ≡ before)
AnswersLine kinds capacity before (Ok (Some statement)) o after = Answers kinds capacity before statement o after
AnswersLine kinds capacity before (Err wanted) o after = (o ≡ Unclear wanted) × (after ≡ before)
