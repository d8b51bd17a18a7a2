use Rattle.std.proofs.Common.{arith}
use Rattle.isl_meter.specs.Gauge.{IsWithin}
use Rattle.isl_piece.proofs.NumberLaws.{divided_by_one}
use Rattle.isl_piece.proofs.NumberSteps.{holds_unchanged}
use Rattle.isl_piece.proofs.numbers.divide.Goals as goal

pub floor_div-requires-clause-within : goal.floor_div-requires-clause-within
floor_div-requires-clause-within c = holds_unchanged (IsWithin c.args.meter.now) c.loop-i.numbers c.args.numbers.now c.loop-i.i c.index-numbers-i.result (omega arith) (omega arith) c.requires.within c.loop-i.invariant.1 c.index-numbers-i.is

pub returns-then-eq : goal.returns-then-eq
returns-then-eq c = divided_by_one c.args.g c.args.numbers.now (grind arith)
