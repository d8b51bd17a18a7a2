use Rattle.std.proofs.Common.{◌≡◌, arith}
use Rattle.std.proofs.lemmas.Grind.{common_steps}
use Rattle.isl_frame.specs.Frame.{isolated}
use Rattle.isl_frame.proofs.SolvedLaws.{row_solved}
use Rattle.isl_frame.proofs.equality.isolated.Goals as goal

pub returns-clause-solved : goal.returns-clause-solved
returns-clause-solved c zero some =
    let is : c.new.result ≡ isolated c.args.variables c.args.row.now = grind (arith, common_steps) in
    row_solved c.args.variables c.args.row.now c.requires.row zero some c.new.result is
