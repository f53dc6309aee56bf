-- The limit of a look, its clip's end or the target, is at the target: it is no later, and all that is before the target comes before it.
use Rattle.std.proofs.Common.{◌≡◌, false, T, ℤ, Some, sym, ◌∙◌, inl, inr, true≢false}
use lib.Ieee.{Float, le, eq}
use Rattle.std.specs.Float as Floats
use Rattle.scalar.specs.Single.{zero, one}
use Rattle.scalar.proofs.Order.{le_of_lt, le_right, lt_right, lt_least, least_le_right, least_not_below_zero, zero_below_one}
use Rattle.scalar.proofs.Shares.{Late, one_is_late}
use Rattle.math.specs.declared.Axis.TheVariants as MathAxis
use Rattle.math.specs.Vectors.{component}
use Rattle.grid.specs.declared.frame.ChunkFrame.{ChunkFrame}
use Rattle.grid.specs.Lawful.{exponent_fits}
use Rattle.sight.specs.declared.grid_point.GridPoint.{GridPoint}
use Rattle.sight.specs.Power.{cube}
use Rattle.sight.specs.Sight.{sight_line}
use Rattle.sight.proofs.Axes.{look_axis}
use Rattle.sight.proofs.LookStart.{look_clip}
use Rattle.line.specs.Line.{Point, Axis, X, Y, Z, coordinate}
use Rattle.looks.specs.Units.{point_of}
use Rattle.looks.proofs.Units.{axis_of}

-- the limit is one at most and, where the line moves at all, later than all that is before one
pub record LimitAtTarget (o t : Point) (limit : Float) : Type 0 where
  pub no_later : T (le limit one)
  pub no_earlier : (i : Axis) → (coordinate o i ≡ coordinate t i → ⊥) → Late limit

module _ (f : ChunkFrame) (e : ℤ) (range : T (exponent_fits (Some e))) (size : f.voxel_size ≡ cube e) (camera target : GridPoint) where
  abbrev end : Float
  end = (look_clip f e range size camera target).end

  end_not_below_zero : T (le zero end)
  end_not_below_zero = (look_clip f e range size camera target).end_least

  abbrev pub look_limit : Float
  look_limit = Floats.float_min end one

  pub limit_not_below_zero : T (le zero look_limit)
  limit_not_below_zero = least_not_below_zero end one end_not_below_zero (le_of_lt zero one zero_below_one)

  moves_where_differs : (i : Axis) → (coordinate (point_of camera) i ≡ coordinate (point_of target) i → ⊥) → eq (component (sight_line e f.key camera target).dir (axis_of i)) zero ≡ false
  moves_where_differs X = (look_axis f e range size camera target MathAxis.X).moves
  moves_where_differs Y = (look_axis f e range size camera target MathAxis.Y).moves
  moves_where_differs Z = (look_axis f e range size camera target MathAxis.Z).moves

  end_late : (i : Axis) → (coordinate (point_of camera) i ≡ coordinate (point_of target) i → ⊥) → Late end
  end_late i n = elim (look_clip f e range size camera target).end_after [
    | inl still ↦ absurd (true≢false (sym (still (axis_of i)) ∙ moves_where_differs i n))
    | inr after ↦ after.1
  ]

  pub limit_at_target : LimitAtTarget (point_of camera) (point_of target) look_limit
  limit_at_target = record {
    no_later = least_le_right end one (le_right zero end end_not_below_zero) (lt_right zero one zero_below_one);
    no_earlier = λ i n s p q v h l c. lt_least v end one (end_late i n s p q v h l c) (one_is_late s p q v h l c);
  }
