use Rattle.std.proofs.Common.{ℤ, pos, ◌≤ℤ◌, take}
use Rattle.std.specs.List.{All}
use Rattle.isl_math.specs.Order.{abs_of}
use Rattle.isl_piece.specs.Row.{coef_at}
use Rattle.isl_column.proofs.mirror.greatest_factor.Given as goal

abbrev pub invariant-loop-bound : goal.invariant-loop-bound
invariant-loop-bound l = (pos 0 ≤ℤ l.greatest)
    × All (λ r. abs_of (coef_at r l.column.at) ≤ℤ l.greatest) (take l.bound-index l.bounds)
    × ((m : ℤ) → pos 0 ≤ℤ m → All (λ r. abs_of (coef_at r l.column.at) ≤ℤ m) (take l.bound-index l.bounds) → l.greatest ≤ℤ m)
