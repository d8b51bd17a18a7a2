use Rattle.std.proofs.Common.{◌≡◌, ◌<ℤ◌, ◌+ℤ◌, pos, arith, to_z-of_z}
use Rattle.std.proofs.lemmas.Grind.{common_steps}
use Rattle.isl_math.proofs.Ring.{linear}
use Rattle.isl_piece.specs.declared.row.RowKind.TheVariants.{AtLeast}
use Rattle.isl_piece.specs.Row.{coef_at}
use Rattle.isl_quotient.proofs.quotient.are_quotient.Goals as goal

pub returns-then-slack-k-clause-quotient : goal.returns-then-slack-k-clause-quotient
returns-then-slack-k-clause-quotient c = λ same.
    let upper_kind : c.args.upper.now.kind ≡ AtLeast = grind (arith, common_steps) in
    let lower_kind : c.args.lower.now.kind ≡ AtLeast = grind (arith, common_steps) in
    let large : pos 1 <ℤ coef_at c.args.lower.now c.args.col = grind (arith, linear, common_steps, to_z-of_z) in
    let near : (c.args.upper.now.constant +ℤ c.args.lower.now.constant) <ℤ coef_at c.args.lower.now c.args.col =
    grind (arith, linear, common_steps, to_z-of_z) in
    record {
      upper_kind = upper_kind;
      lower_kind = lower_kind;
      opposite = c.are_opposite.ensures.0 same;
      positive = omega (arith, linear, large);
      near = near;
    }

pub returns-then-slack-k-clause-found : goal.returns-then-slack-k-clause-found
returns-then-slack-k-clause-found c = λ pins. c.are_opposite.ensures.1 pins.quotient.opposite
