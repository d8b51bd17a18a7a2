use Rattle.std.proofs.Common.{◌≡◌, [], ◌∷◌, length, get_or, drop, arith}
use Rattle.std.proofs.lemmas.Grind.{common_steps}
use Rattle.isl_points.proofs.RowLaws.{last_left}
use Rattle.isl_points.proofs.row.LineRow.behind.Goals as goal

pub returns : goal.returns
returns c =
    let coefs = c.args.row.now.coefs in
    let numbers = c.args.numbers.now in
    let last : drop (length numbers) coefs ≡ get_or coefs (length numbers) c.in_ok-constant.constant ∷ [] =
    last_left coefs (length numbers) c.in_ok-constant.constant c.requires in
    grind (arith, common_steps, last)
