use Rattle.std.proofs.Common.{◌+◌, refl, sym, subst}
use Rattle.isl_nest.specs.Places.{AreGuards}
use Rattle.isl_nest.proofs.NestedLaws.{asked_over, looped_is, nothing_over}
use Rattle.isl_nest.proofs.nested.Nested.of_loop.Goals as goal

pub returns-clause-nested : goal.returns-clause-nested
returns-clause-nested c =
    let runs = c.in_ok-tree.ensures.runs in
    looped_is c.args.around c.args.body _ c.in_ok-rows.rows c.in_ok-tree.tree c.in_ok-rows.ensures runs.calls c.args.variables
    (λ point long. c.in_ok-for_loop.ensures.trace point long) runs.turned runs.idle runs.depth
    (λ point none. c.in_ok-for_loop.ensures.none point none) (λ point long. c.in_ok-for_loop.ensures.turned point long)
    (λ point long. c.in_ok-for_loop.ensures.idle point long) c.in_ok-for_loop.ensures.depth c.new.ensures refl

pub returns-clause-over : goal.returns-clause-over
returns-clause-over c g around body =
    let n = c.args.variables in
    let asked = asked_over g (n + 1) c.args.around.guards c.args.body.rows c.in_ok-rows.rows c.in_ok-rows.ensures around.guards body.rows in
    let tree = c.in_ok-tree.ensures.over g (n + 1) asked body.tree in record {
      rows = subst (AreGuards g n) (sym c.new.ensures) (nothing_over g n);
      tree = c.in_ok-for_loop.ensures.over g around.low around.high around.positive around.within tree;
      inside = around.inside;
    }

pub returns-clause-changing : goal.returns-clause-changing
returns-clause-changing c body =
    let n = c.args.variables in
    c.in_ok-for_loop.ensures.changing (c.in_ok-tree.ensures.changing (n + 1) body)

pub returns-clause-printable : goal.returns-clause-printable
returns-clause-printable c few body =
    c.in_ok-for_loop.ensures.printable few (c.in_ok-tree.ensures.printable (c.args.variables + 1) body)
