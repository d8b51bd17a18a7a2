use Rattle.std.proofs.Common.{◌≡◌, ◌↔◌, ℤ, take, None}
use Rattle.std.specs.List.{All}
use Rattle.isl_piece.specs.declared.row.Row.{Row}
use Rattle.isl_piece.specs.Row.{coef_at}
use Rattle.isl_points.specs.Interval.{AreEndsWithin, IsBetween, MeetsBound}
use Rattle.isl_tower.specs.Ends.{EndsAbove, EndsBelow}
use Rattle.isl_points.proofs.interval.Interval.of.Given as goal

abbrev pub invariant-loop-row : goal.invariant-loop-row
invariant-loop-row l = record {
  exact : (x : ℤ) → IsBetween l.interval x ↔ All (MeetsBound x) (take l.row-index l.rows);
  low : l.interval.low ≡ None → All (λ (r : Row). ¬ EndsBelow r.kind (coef_at r 0)) (take l.row-index l.rows);
  high : l.interval.high ≡ None → All (λ (r : Row). ¬ EndsAbove r.kind (coef_at r 0)) (take l.row-index l.rows);
  within : AreEndsWithin l.fn.meter l.interval;
}
