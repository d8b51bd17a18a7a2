use Rattle.std.proofs.Common.{arith, ◌++◌}
use Rattle.std.proofs.lemmas.Grind.{common_steps}
use Rattle.std.proofs.lemmas.Result.{on_ok_weaker}
use Rattle.std.specs.Prelude.{string_bytes}
use Rattle.isl_row_text.specs.Sum.{side_text}
use Rattle.isl_row_text.proofs.SumLaws.{sum_end}
use Rattle.isl_row_text.proofs.sum.write_side.Goals as goal

pub returns : goal.returns
returns c = on_ok_weaker c.write_constant.result
    (λ h. sum_end c.args.side c.args.names.now c.args.row.now.coefs c.args.row.now.constant c.loop-column.column c.loop-column.is_first (string_bytes c.loop-column.out) (string_bytes c.write_constant.new.out)
    (string_bytes c.args.out.now ++ side_text c.args.side c.args.names.now c.args.row.now.coefs c.args.row.now.constant) (grind (arith, common_steps)) (grind (arith, common_steps)) (grind (arith, common_steps, c.loop-column.invariant))) c.write_constant.ensures
