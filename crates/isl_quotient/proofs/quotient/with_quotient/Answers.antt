use Rattle.std.proofs.Common.{◌≡◌, ◌<◌, length, get_or, arith}
use Rattle.isl_quotient.proofs.CodeLaws.{short_wide}
use Rattle.isl_quotient.proofs.quotient.with_quotient.Goals as goal

pub numbers_without-requires : goal.numbers_without-requires
numbers_without-requires c =
    let s = c.args.system.now in
    let d = c.definition-item.result in
    let i = c.loop-definition.definition-index in
    let inside : i < length s.definitions = grind arith in
    let at : d ≡ get_or s.definitions i d = grind arith in
    (short_wide c.args._meter.now s i c.args.col d c.requires.well_formed inside at c.requires.col_in).0
