use Rattle.std.proofs.Common.{◌≡◌, ◌≢◌, ◌<◌, ℕ, pos, get_or}
use Rattle.isl_piece.specs.declared.row.Row.{Row}
use Rattle.isl_piece.specs.Row.{coef_at}
use Rattle.isl_nest.proofs.equality.tells_form.Given as goal

abbrev pub invariant-loop-i : goal.invariant-loop-i
invariant-loop-i l = (at : ℕ) (d : Row) → at < l.i → coef_at l.equality at ≢ pos 0 → (get_or l.place.frame at d).k ≡ pos 1
