use Rattle.isl_piece.proofs.NegationLaws.{negation_points, negation_within, negation_shape}
use Rattle.isl_piece.proofs.negation.negate.Goals as goal

pub returns-clause-points : goal.returns-clause-points
returns-clause-points c = negation_points c.args.meter.now c.negated.new.meter c.args.row.now c.negated.result c.negated.ensures c.requires.modulus

pub returns-clause-within : goal.returns-clause-within
returns-clause-within c = negation_within c.args.meter.now c.negated.new.meter c.args.row.now c.negated.result c.negated.ensures c.requires.modulus c.requires.within

pub returns-clause-shape : goal.returns-clause-shape
returns-clause-shape c = negation_shape c.args.meter.now c.negated.new.meter c.args.row.now c.negated.result c.negated.ensures c.requires.modulus
