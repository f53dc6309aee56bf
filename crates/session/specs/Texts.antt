-- An outcome in words that can be read out.
use Rattle.std.specs.Prelude.{ℕ, ◌/◌, ◌%◌, cond, List, ◌++◌, codes, decimal, ◌==◌, Some, None, Option}
use Rattle.refusals.specs.Refusals.{refusal_number, refusal_text}
use Rattle.setup.specs.Texts.{wanted}
use Rattle.session.specs.declared.outcome.Outcome.{Outcome}
use Rattle.session.specs.declared.outcome.Outcome.TheVariants.{Blank, Done, Clear, Blocked, Refused, RoomMissing, RoomTwice, Unclear}

abbrev pub visited_text : ℕ → List ℕ
visited_text n = cond (n == 1) (codes "1 cell visited") (decimal n ++ codes " cells visited")

-- by its coordinates and its number
abbrev pub cell_text : ℕ → List ℕ
cell_text n = codes "cell (" ++ (decimal (n % 8) ++ (codes ", " ++ (decimal (n / 8 % 8) ++ (codes ", " ++ (decimal (n / 64) ++ (codes "), number " ++ decimal n))))))

-- None where a float is written, since no contract speaks of its digits
unfoldable pub outcome_text : Outcome → Option (List ℕ)
outcome_text Blank = Some (codes "nothing to do")
outcome_text Done = Some (codes "done")
outcome_text (Clear visited) = Some (codes "clear; " ++ visited_text visited)
outcome_text (Blocked cell time visited) = None
outcome_text (Refused refusal) = Some (codes "refused, number " ++ (decimal (refusal_number refusal) ++ (codes ": " ++ refusal_text refusal)))
outcome_text RoomMissing = Some (codes "expected an accepted room before this")
outcome_text RoomTwice = Some (codes "the room is given already; this one is passed over")
outcome_text (Unclear expected) = Some (codes "not understood: " ++ wanted expected)
