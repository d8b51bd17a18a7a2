use Rattle.std.proofs.Common.{arith}
use Rattle.isl_piece.proofs.NormalSteps.{IsRowWithin-divided}
use Rattle.isl_piece.proofs.reduction.divide.Goals as goal

pub returns-clause-within : goal.returns-clause-within
returns-clause-within c = IsRowWithin-divided c.args.meter.now c.args.row.now c.set_constant.new.self c.args.g c.requires.divisor c.requires.within (grind arith)
