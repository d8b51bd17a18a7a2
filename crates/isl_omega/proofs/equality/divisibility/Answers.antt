use Rattle.std.proofs.Common.{◌≡◌, ◌≢◌, ◌∙◌, pos, [], ◌∷◌, sym, arith}
use Rattle.std.proofs.lemmas.Grind.{common_steps}
use Rattle.isl_math.specs.Order.{abs_of}
use Rattle.isl_meter.specs.Gauge.{IsWithin}
use Rattle.isl_piece.specs.Row.{coef_at}
use Rattle.isl_omega.specs.Column.{dropped}
use Rattle.isl_omega.specs.Equality.{solvable}
use Rattle.isl_omega.proofs.ShortImages.{divisibility_some, one_within}
use Rattle.isl_omega.proofs.equality.divisibility.Goals as goal

pub returns : goal.returns
returns c =
    let fixed = c.args.fixed.now in
    let col = c.args.column.at in
    let more : abs_of (coef_at fixed col) ≢ pos 1 = grind arith in
    let within : IsWithin c.args.meter.now (abs_of (coef_at fixed col)) = grind arith in
    let is : c.push.new.self ≡ dropped (solvable fixed col) col ∷ [] = grind (arith, common_steps) in
    (is ∙ sym (divisibility_some fixed col more), rw is (one_within c.args.meter.now fixed col c.requires.fixed_within within))
