use Rattle.std.proofs.Common.{◌≡◌, arith}
use Rattle.std.proofs.lemmas.Grind.{common_steps}
use Rattle.isl_loops.proofs.OrderLaws.{less_is, less_row}
use Rattle.isl_loops.proofs.order.less_row.Goals as goal

pub returns : goal.returns
returns c =
    let made : c.new-3.result ≡ less_row c.args.columns = grind (arith, common_steps) in
    less_is c.args.columns c.new-3.result made
