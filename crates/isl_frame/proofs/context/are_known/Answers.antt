use Rattle.std.proofs.Common.{◌≡◌, ◌∙◌, ap}
use Rattle.isl_frame.proofs.NeededLaws.{all_told, over_rows, system_over}
use Rattle.isl_frame.proofs.context.are_known.Goals as goal

pub hold_throughout-requires-clause-within : goal.hold_throughout-requires-clause-within
hold_throughout-requires-clause-within c =
    let is : c.from_rows-system.result ≡ over_rows c.args.variables c.args.rows.now =
    c.from_rows-system.ensures ∙ ap (over_rows c.args.variables) c.in_ok-copy.ensures in
    system_over c.args.meter.now c.args.variables c.args.rows.now c.from_rows-system.result is c.requires.rows

pub returns-clause-exact : goal.returns-clause-exact
returns-clause-exact c =
    let is : c.from_rows-system.result ≡ over_rows c.args.variables c.args.rows.now =
    c.from_rows-system.ensures ∙ ap (over_rows c.args.variables) c.in_ok-copy.ensures in
    all_told c.hold_throughout.result c.args.variables c.from_rows-system.result c.args.rows.now c.args.others.now is
    c.requires.others.formed c.hold_throughout.ensures.exact
