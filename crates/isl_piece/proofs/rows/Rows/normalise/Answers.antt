use Rattle.isl_piece.proofs.RowsLaws.{answered_none, answered_points, answered_normal, answered_shape, answered_within, answered_up_to}
use Rattle.isl_piece.proofs.rows.Rows.normalise.Goals as goal

pub returns-clause-none : goal.returns-clause-none
returns-clause-none c = answered_none c.args.meter.now c.args.self c.normal.result c.normal.ensures c.requires.moduli

pub returns-clause-points : goal.returns-clause-points
returns-clause-points c = answered_points c.args.meter.now c.args.self c.normal.result c.normal.ensures c.requires.moduli

pub returns-clause-normal : goal.returns-clause-normal
returns-clause-normal c = answered_normal c.args.meter.now c.args.self c.normal.result c.normal.ensures c.requires.moduli

pub returns-clause-shape : goal.returns-clause-shape
returns-clause-shape c = answered_shape c.args.meter.now c.args.self c.normal.result c.normal.ensures c.requires.moduli

pub returns-clause-within : goal.returns-clause-within
returns-clause-within c = answered_within c.args.meter.now c.args.self c.normal.result c.normal.ensures c.requires.moduli c.requires.within

pub returns-clause-magnitudes : goal.returns-clause-magnitudes
returns-clause-magnitudes c = answered_up_to c.args.meter.now c.args.self c.normal.result c.normal.ensures c.requires.moduli
