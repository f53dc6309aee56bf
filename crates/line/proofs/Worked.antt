-- The worked looks compute.
use Rattle.std.proofs.Common.{refl, arith}
use Rattle.line.specs.Line.{X, Y, Z, Share, TouchesAt, CrossesAt}
use Rattle.line.specs.Look.{look}
use Rattle.line.specs.StepFractions.{step_fraction, next_index, earlier_axis, least_axis, least_step_rule}
use Rattle.line.specs.Exact.{point, cell, five_eighths, Worked}

three_quarters : Share
three_quarters = record { gone = 3; left = 1; positive = omega arith }

half : Share
half = record { gone = 1; left = 1; positive = omega arith }

inside_fourth : CrossesAt (point 64 64 64) (point 576 64 64) (cell 3 0 0) three_quarters
unfolding three_quarters
inside_fourth X = record { low = omega arith; high = omega arith }
inside_fourth Y = record { low = omega arith; high = omega arith }
inside_fourth Z = record { low = omega arith; high = omega arith }

fourth_touched : TouchesAt (point 64 64 64) (point 576 64 64) (cell 3 0 0) five_eighths
fourth_touched X = record { low = omega arith; high = omega arith }
fourth_touched Y = record { low = omega arith; high = omega arith }
fourth_touched Z = record { low = omega arith; high = omega arith }

on_edge : TouchesAt (point 64 64 64) (point 192 192 64) (cell 0 1 0) half
unfolding half
on_edge X = record { low = omega arith; high = omega arith }
on_edge Y = record { low = omega arith; high = omega arith }
on_edge Z = record { low = omega arith; high = omega arith }

pub worked : Worked
unfolding step_fraction next_index earlier_axis least_axis least_step_rule look
worked = record {
  nothing_filled = refl;
  fourth_cell = refl;
  fourth_crossed = (three_quarters, inside_fourth);
  fourth_entered = record { touches = fourth_touched; first = λ r w. omega (arith, (w X).low) };
  edge_first_axis = refl;
  edge_second_axis = refl;
  edge_touched = (half, on_edge);
  edge_not_crossed = λ x. omega (arith, (x.1 X).high, (x.1 Y).low);
  longest = refl;
}
