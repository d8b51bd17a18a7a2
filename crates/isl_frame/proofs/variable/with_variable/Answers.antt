use Rattle.std.proofs.Common.{◌≡◌, ◌++◌, ◌∷◌, [], sym, subst, arith, map}
use Rattle.std.proofs.lemmas.Grind.{common_steps}
use Rattle.std.specs.List.{All}
use Rattle.isl_piece.specs.Row.{IsRowWithin}
use Rattle.isl_piece.specs.System.{widened}
use Rattle.isl_frame.specs.Frame.{own_column, IsWithVariable}
use Rattle.isl_frame.proofs.FrameLaws.{variable_within, with_variable_is}
use Rattle.isl_frame.proofs.variable.with_variable.Goals as goal

pub returns-clause-frame : goal.returns-clause-frame
returns-clause-frame c is =
    let frame = c.args.frame.now in
    let made : c.push.new.self ≡ map widened frame ++ own_column c.args.variables ∷ [] = grind (arith, common_steps) in
    subst (IsWithVariable c.args.variables frame) (sym made) (with_variable_is c.args.variables frame is)

pub returns-clause-within : goal.returns-clause-within
returns-clause-within c g wide within =
    let frame = c.args.frame.now in
    let made : c.push.new.self ≡ map widened frame ++ own_column c.args.variables ∷ [] = grind (arith, common_steps) in
    subst (All (IsRowWithin g)) (sym made) (variable_within g c.args.variables frame wide within)
