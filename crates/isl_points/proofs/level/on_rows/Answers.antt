use Rattle.std.proofs.Common.{◌≡◌, ◌↔◌, ◌∷◌, [], List, arith, subst}
use Rattle.isl_piece.specs.declared.row.Row.{Row}
use Rattle.isl_piece.specs.System.{HoldRows}
use Rattle.isl_points.proofs.level.on_rows.Goals as goal

pub on_one-requires-clause-within : goal.on_one-requires-clause-within
on_one-requires-clause-within c = (rw c.in-Some.is at c.solution.ensures).0

pub on_one-requires-clause-only : goal.on_one-requires-clause-only
on_one-requires-clause-only c = λ z.
    let read : c.as_slice.result.now ≡ c.args.rows.items = grind arith in
    let only = rw c.in-Some.is at c.solution.ensures in
    subst (λ (l : List Row). HoldRows l (z ∷ []) ↔ (z ≡ c.in-Some.x)) read (only.1 z)
