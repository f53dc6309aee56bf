-- Grid points and axes of the floats as those of the exact line.
use Rattle.math.specs.declared.Axis as Math
use Rattle.math.specs.declared.Axis.TheVariants as MathAxis
use Rattle.sight.specs.declared.grid_point.GridPoint.{GridPoint}
use Rattle.line.specs.Line.{Axis, X, Y, Z}
use Rattle.line.specs.Walk.{InGrid}
use Rattle.looks.specs.Units.{point_of}

pub in_grid : (p : GridPoint) → InGrid (point_of p)
in_grid p X = p.ok.0
in_grid p Y = p.ok.1.0
in_grid p Z = p.ok.1.1

abbrev pub axis_of : Axis → Math.Axis
axis_of X = MathAxis.X
axis_of Y = MathAxis.Y
axis_of Z = MathAxis.Z

abbrev pub line_axis : Math.Axis → Axis
line_axis MathAxis.X = X
line_axis MathAxis.Y = Y
line_axis MathAxis.Z = Z
