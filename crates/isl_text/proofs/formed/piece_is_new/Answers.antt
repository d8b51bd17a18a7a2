use Rattle.std.proofs.Common.{◌++◌}
use Rattle.isl_text.proofs.Along.{map_goes_on}
use Rattle.isl_text.proofs.formed.piece_is_new.Goals as goal

pub returns-in-Some : goal.returns-in-Some
returns-in-Some c =
    let known = c.args.params.now.keys in
    map_goes_on c.args.piece.now (known ++ c.args.own.now.keys) (known ++ c.tuple_is_new.new.own.keys) _ c.in-Some.second
    c.in_ok-tuple_is_new.field-0 c.tuple_is_new-in-Some.result c.in-Some.is c.if-not-branch.false c.in_ok-tuple_is_new.ensures
    c.tuple_is_new-in-Some.ensures
