use Rattle.std.proofs.Common.{◌≡◌, ◌+◌, ◌++◌, ◌∙◌, sym, ap, subst, List}
use Rattle.std.specs.Prelude.{map}
use Rattle.isl_piece.specs.declared.row.Row.{Row}
use Rattle.isl_piece.specs.System.{widened}
use Rattle.isl_frame.specs.Needed.{AreRowsOver, IsNeeded}
use Rattle.isl_bounds.proofs.PrunedLaws.{both_over}
use Rattle.isl_nest.specs.Asked.{AreAsked}
use Rattle.isl_nest.proofs.AskedLaws.{all_asked, kept_wide, needed_asked}
use Rattle.isl_nest.proofs.PlaceLaws.{widened_over}
use Rattle.isl_nest.proofs.asked.asked.Goals as goal

pub returns-then-left-eq0-clause-asked : goal.returns-then-left-eq0-clause-asked
returns-then-left-eq0-clause-asked c =
    let place = c.args.place.now in
    let nested = c.args.nested.now in
    all_asked place.variables place.context nested.inside (c.args.rows.now ++ nested.rows) c.in_ok-all.all c.in_ok-all.ensures

pub needed-requires-clause-context : goal.needed-requires-clause-context
needed-requires-clause-context c =
    let g = c.args.meter.now in
    let place = c.args.place.now in
    let columns = place.variables + 1 in
    let wide : AreRowsOver g columns c.in_ok-context.context =
    subst (AreRowsOver g columns) (sym c.in_ok-context.ensures)
    (widened_over g place.variables place.context c.limit-limit.ensures.bits_low c.requires.place.context) in
    both_over g columns c.in_ok-context.context c.args.nested.now.inside c.in_ok-known.known c.in_ok-known.ensures wide c.requires.nested.inside

pub needed-requires-clause-rows : goal.needed-requires-clause-rows
needed-requires-clause-rows c =
    let g = c.args.meter.now in
    let place = c.args.place.now in
    let over : AreRowsOver g place.variables c.in_ok-all.all = both_over g place.variables c.args.rows.now c.args.nested.now.rows
    c.in_ok-all.all c.in_ok-all.ensures c.requires.rows c.requires.nested.rows.over in
    subst (AreRowsOver g (place.variables + 1)) (sym c.in_ok-wide.ensures)
    (widened_over g place.variables c.in_ok-all.all c.limit-limit.ensures.bits_low over)

pub naming-requires : goal.naming-requires
naming-requires c =
    let g = c.args.meter.now in
    let place = c.args.place.now in
    let over : AreRowsOver g place.variables c.in_ok-all.all = both_over g place.variables c.args.rows.now c.args.nested.now.rows
    c.in_ok-all.all c.in_ok-all.ensures c.requires.rows c.requires.nested.rows.over in
    let wide : AreRowsOver g (place.variables + 1) c.in_ok-wide.wide = subst (AreRowsOver g (place.variables + 1)) (sym c.in_ok-wide.ensures)
    (widened_over g place.variables c.in_ok-all.all c.limit-limit.ensures.bits_low over) in
    kept_wide g place.variables c.in_ok-known.known c.in_ok-wide.wide c.in_ok-kept.kept wide c.in_ok-kept.ensures.exact

pub returns-clause-asked : goal.returns-clause-asked
returns-clause-asked c =
    let g = c.args.meter.now in
    let place = c.args.place.now in
    let nested = c.args.nested.now in
    let known = c.in_ok-known.known in
    let kept = c.in_ok-kept.kept in
    let asked = c.in_ok-naming.field-0 in
    let over : AreRowsOver g place.variables c.in_ok-all.all = both_over g place.variables c.args.rows.now nested.rows
    c.in_ok-all.all c.in_ok-all.ensures c.requires.rows c.requires.nested.rows.over in
    let known_is : known ≡ map widened place.context ++ nested.inside =
    c.in_ok-known.ensures ∙ ap (λ (rs : List Row). rs ++ nested.inside) c.in_ok-context.ensures in
    let needed : IsNeeded (place.variables + 1) known (map widened c.in_ok-all.all) kept =
    subst (λ (rs : List Row). IsNeeded (place.variables + 1) known rs kept) c.in_ok-wide.ensures c.in_ok-kept.ensures.exact in
    subst (λ (rs : List Row). AreAsked place.variables place.context nested.inside rs asked) c.in_ok-all.ensures
    (needed_asked place.variables place.context nested.inside c.in_ok-all.all known kept asked c.requires.place.context.formed over.formed
    known_is needed c.in_ok-naming.ensures)
