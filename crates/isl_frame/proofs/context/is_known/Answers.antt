use Rattle.std.proofs.Common.{◌≡◌, ◌++◌, ◌∷◌, [], ◌∙◌, ap, arith, get_or}
use Rattle.std.specs.List.{remove}
use Rattle.std.proofs.lemmas.Grind.{common_steps}
use Rattle.std.proofs.lemmas.List.{get_or_read}
use Rattle.isl_piece.specs.declared.row.Row.{Row}
use Rattle.isl_frame.proofs.NeededLaws.{known_told, over_rows, rows_beside, system_over}
use Rattle.isl_frame.proofs.context.is_known.Goals as goal

pub hold_throughout-requires-clause-within : goal.hold_throughout-requires-clause-within
hold_throughout-requires-clause-within c =
    let others = c.args.context.now ++ remove c.args.rows.now c.args.at in
    let is : c.from_rows-system.result ≡ over_rows c.args.variables others =
    c.from_rows-system.ensures ∙ ap (over_rows c.args.variables) c.in_ok-others.ensures in
    system_over c.args.meter.now c.args.variables others c.from_rows-system.result is
    (rows_beside c.args.meter.now c.args.variables c.args.context.now c.args.rows.now c.args.at c.requires.context c.requires.rows)

pub returns-clause-exact : goal.returns-clause-exact
returns-clause-exact c d =
    let others = c.args.context.now ++ remove c.args.rows.now c.args.at in
    let is : c.from_rows-system.result ≡ over_rows c.args.variables others =
    c.from_rows-system.ensures ∙ ap (over_rows c.args.variables) c.in_ok-others.ensures in
    let at : c.index-as_slice-at.result ≡ get_or c.args.rows.now c.args.at d = grind (arith, common_steps, get_or_read) in
    known_told c.hold_throughout.result c.args.variables c.from_rows-system.result others c.in_ok-row.row
    (get_or c.args.rows.now c.args.at d) is
    (c.in_ok-row.ensures ∙ ap (λ (r : Row). r ∷ []) at) (c.requires.rows.formed c.args.at d c.requires.inside)
    c.hold_throughout.ensures.exact
