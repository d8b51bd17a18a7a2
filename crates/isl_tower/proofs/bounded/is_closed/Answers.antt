use Rattle.std.proofs.Common.{◌≡◌, ◌-◌, arith}
use Rattle.isl_piece.specs.System.{free_columns}
use Rattle.isl_tower.specs.Ends.{HasLowerEnd, HasUpperEnd}
use Rattle.isl_tower.proofs.ClosedLaws.{closed_where_empty, not_true}
use Rattle.isl_tower.proofs.bounded.is_closed.Goals as goal
use Rattle.isl_tower.proofs.bounded.is_closed.Goals.{else-has_lower_end-via-then-has_lower_end+else-has_upper_end}
use Rattle.isl_tower.proofs.bounded.is_closed.Goals.{else-has_lower_end-via-else-has_lower_end}

pub returns-clause-exact : goal.returns-clause-exact
returns-clause-exact c =
    let s = c.args.system.now in
    let last = c.free-last.result - 1 in
    let same : last ≡ free_columns s - 1 = grind arith in
    let rows : c.as_slice-rows.result.now ≡ s.rows = grind arith in
    let none : ¬ (HasLowerEnd last c.as_slice-rows.result.now × HasUpperEnd last c.as_slice-rows.result.now) =
    elim c.else-has_lower_end.branch [
      | else-has_lower_end-via-then-has_lower_end+else-has_upper_end w ↦
          λ h. not_true w.has_upper_end.result (grind arith) (w.has_upper_end.ensures.1 h.1)
      | else-has_lower_end-via-else-has_lower_end w ↦ λ h. not_true c.has_lower_end.result (grind arith) (c.has_lower_end.ensures.1 h.0)
    ] in
    closed_where_empty s last c.is_empty.result same (rw rows at none) c.is_empty.ensures.exact
