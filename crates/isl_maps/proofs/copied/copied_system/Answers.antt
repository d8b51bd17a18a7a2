use Rattle.std.proofs.Common.{◌∙◌, arith, ◌+◌}
use Rattle.isl_piece.proofs.PlacedLaws.{first_inside}
use Rattle.isl_maps.proofs.CopiedLaws.{copied_is, wider_room}
use Rattle.isl_maps.proofs.copied.copied_system.Goals as goal

pub placed-requires : goal.placed-requires
placed-requires c =
    rw (c.as_slice.ensures.value, c.in_ok-places.ensures)
    (first_inside c.free-free.result (c.free-free.result + c.args.count) (omega arith))

pub push_equal_rows-requires-clause-within : goal.push_equal_rows-requires-clause-within
push_equal_rows-requires-clause-within c =
    wider_room (c.free-free.result + c.args.count) c.as_slice.result.now c.args.own.now c.in_ok-system.system c.in_ok-system.ensures.exact

pub returns : goal.returns
returns c =
    copied_is c.args.first c.args.count c.args.own.now c.in_ok-system.system c.push_equal_rows.new.system c.free-free.result
    c.as_slice.result.now c.free-free.ensures (c.as_slice.ensures.value ∙ c.in_ok-places.ensures) c.in_ok-system.ensures.exact
    c.in_ok-push_equal_rows.ensures
