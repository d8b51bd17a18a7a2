use Rattle.std.proofs.Common.{arith}
use Rattle.isl_piece.proofs.NormalSteps.{IsRowWithin-reduced}
use Rattle.isl_piece.proofs.reduction.reduce.Goals as goal

pub returns-clause-within : goal.returns-clause-within
returns-clause-within c = IsRowWithin-reduced c.args.meter.now c.args.row.now c.set_constant.new.self c.requires.modulus c.requires.within (grind arith)
