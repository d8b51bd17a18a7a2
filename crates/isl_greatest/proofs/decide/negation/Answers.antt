use Rattle.std.proofs.Common.{◌≡◌, ◌∙◌, ap, List, length, get_or}
use Rattle.isl_piece.specs.declared.definition.Definition.{Definition}
use Rattle.isl_piece.specs.declared.row.Row.{Row}
use Rattle.isl_piece.specs.declared.system.System.{System}
use Rattle.isl_piece.specs.System.{free_columns}
use Rattle.isl_greatest.proofs.DecideLaws.{negation_made, question_formed, question_row}
use Rattle.isl_greatest.proofs.decide.negation.Goals as goal

pub returns-clause-negation : goal.returns-clause-negation
returns-clause-negation c =
    let g = c.args.meter.now in
    let s = c.args.question.now in
    let n = free_columns s in
    let r = c.index-as_slice-0.result in
    let read = c.index-as_slice-0.is ∙ ap (λ (rs : List Row). get_or rs 0 r) c.as_slice.ensures in
    let own = question_row g n s r c.requires read in
    let width = ap (λ (t : Row). length t.coefs) own ∙ (question_formed g n s c.requires).width in
    negation_made g n s c.over.result r c.in_ok-rows.rows c.requires read c.in_ok-rows.ensures.exact.0 c.in_ok-rows.ensures.points
    (c.in_ok-rows.ensures.shape s.columns width) c.in_ok-rows.ensures.within
    (c.over.ensures
    ∙ ap (λ (ds : List Definition). let q : System = record { columns = s.columns; definitions = ds; rows = c.in_ok-rows.rows } in q)
    c.in_ok-definitions.ensures)
