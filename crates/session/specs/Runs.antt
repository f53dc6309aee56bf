-- A whole setup file: an outcome for each line, each on the corner that the lines before it left; and how many there are of each sort.
use Rattle.std.specs.Prelude.{◌≡◌, ℕ, ◌+◌, true, false, List, [], ◌∷◌, ◌++◌, length, is_ok, None, Option, Result, nat_le}
use Rattle.setup.specs.Grammar.{line_meaning}
use Rattle.sight.specs.declared.scan.Scan.{Scan}
use Rattle.session.specs.declared.outcome.Outcome.{Outcome}
use Rattle.session.specs.declared.outcome.Outcome.TheVariants.{Blank, Done, Clear, Blocked, Refused, RoomMissing, RoomTwice, Unclear}
use Rattle.session.specs.declared.run.NoRoom.{NoRoom}
use Rattle.session.specs.declared.tally.Tally.{Tally}
use Rattle.session.specs.Answers.{AnswersLine}

abbrev pub Runs : {S : Type 0} → (S → ℕ → ℕ) → ℕ → Option (Scan S) → List (List ℕ) → List Outcome → Type 0
Runs kinds capacity before [] [] = Unit {0}
Runs kinds capacity before [] (o ∷ os) = ⊥
Runs kinds capacity before (line ∷ lines) [] = ⊥
Runs {S} kinds capacity before (line ∷ lines) (o ∷ os) = (after : Option (Scan S)) × (AnswersLine kinds capacity before (line_meaning line) o after × Runs kinds capacity after lines os)

-- each line is carried out, its outcome put after what was there; where there is no room for an outcome of each, none is, and nothing changes
pub record CarriesOut {S : Type 0} (kinds : S → ℕ → ℕ) (capacity : ℕ) (lines : List (List ℕ)) (room : ℕ) (before after : List Outcome) (r : Result (Unit {0}) NoRoom) : Type 0 where
  pub accepted : is_ok r ≡ nat_le (length lines) room
  pub carried : is_ok r ≡ true → (os : List Outcome) × (after ≡ before ++ os) × Runs kinds capacity None lines os
  pub refused : is_ok r ≡ false → after ≡ before

-- ---- counts
abbrev pub none_yet : Tally
none_yet = record { clear = 0; blocked = 0; refused = 0; unclear = 0 }

-- a room that is missing or given twice counts as refused
abbrev pub tallied : Tally → Outcome → Tally
tallied t Blank = t
tallied t Done = t
tallied t (Clear visited) = record { clear = t.clear + 1; blocked = t.blocked; refused = t.refused; unclear = t.unclear }
tallied t (Blocked cell time visited) = record { clear = t.clear; blocked = t.blocked + 1; refused = t.refused; unclear = t.unclear }
tallied t (Refused r) = record { clear = t.clear; blocked = t.blocked; refused = t.refused + 1; unclear = t.unclear }
tallied t RoomMissing = record { clear = t.clear; blocked = t.blocked; refused = t.refused + 1; unclear = t.unclear }
tallied t RoomTwice = record { clear = t.clear; blocked = t.blocked; refused = t.refused + 1; unclear = t.unclear }
tallied t (Unclear wanted) = record { clear = t.clear; blocked = t.blocked; refused = t.refused; unclear = t.unclear + 1 }
