use Rattle.isl_plain.proofs.PieceLaws.{points_result}
use Rattle.isl_plain.proofs.lowered.rows_written.Goals as goal

pub returns-clause-points : goal.returns-clause-points
returns-clause-points c are_known =
    points_result c.made_rows.result _ _ c.args.params.now c.args.piece.now c.requires.plain are_known (λ rows h. h.0) c.made_rows.ensures
