use Rattle.std.proofs.Common.{arith}
use Rattle.isl_meter.specs.Gauge.{IsWithin}
use Rattle.isl_piece.proofs.NumberSteps.{holds_unchanged}
use Rattle.isl_piece.proofs.numbers.oppose.Goals as goal

pub neg-requires : goal.neg-requires
neg-requires c = holds_unchanged (IsWithin c.args.meter.now) c.loop-i.numbers c.args.numbers.now c.loop-i.i c.index-numbers-i.result (omega arith) (omega arith) c.requires.numbers_within c.loop-i.invariant.1 c.index-numbers-i.is
