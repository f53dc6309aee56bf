use Rattle.std.proofs.Common.{refl}
use Rattle.line.proofs.Faces.{crossed_is_open}
use Rattle.line.proofs.Entry.{touched_is_entered, entry_is_latest, crossed_entry_before_target}
use Rattle.line.proofs.Walk.{crossed_is_visited, visited_is_touched, walk_is_short}
use Rattle.line.proofs.Look.{look_answers, look_visits_few, same_on_touched}
use Rattle.line.proofs.StepFractions.{least_step_rule_chooses}
use Rattle.line.proofs.Worked.{worked}
use Rattle.line.proofs.exact_line_holds.Goals as goal

pub returns : goal.returns
returns c = record {
  value = refl;
  exact = record {
    walks = λ o t lo lt rule f. record {
      crossed_is_visited = λ n h. crossed_is_visited o t rule f n lo lt h;
      visited_is_touched = λ n. visited_is_touched o t rule f n;
      walk_is_short = λ n. walk_is_short o t rule f n lo lt;
      look_answers = look_answers o t rule f lo lt;
      look_visits_few = look_visits_few o t rule f lo lt;
      same_on_touched = same_on_touched o t rule f;
    };
    rule = least_step_rule_chooses;
    cells = λ o t c. record {
      touched_is_entered = touched_is_entered o t c;
      entry_is_latest = entry_is_latest o t c;
      crossed_is_open = crossed_is_open o t c;
      crossed_entry_before_target = crossed_entry_before_target o t c;
    };
    worked = worked;
  };
}
