use Rattle.std.proofs.Common.{◌∙◌, map}
use Rattle.isl_plain.proofs.JoinLaws.{fails_more}
use Rattle.isl_plain.proofs.LoweredLaws.{rows_are, passes_are}
use Rattle.isl_plain.proofs.PassLaws.{match_weaker}
use Rattle.isl_plain.proofs.lowered.entry_rows.Goals as goal

pub returns : goal.returns
returns c =
    let params = c.args.params.now in
    let piece = c.args.piece.now in
    let entries = map (λ entry. entry.now) c.args.entries.now in
    match_weaker c.rows_in.result _ _ _ _
    (λ rows h. (h.0 ∙ rows_are params piece entries c.requires.entries c.requires.plain, h.1, h.2))
    (λ cut h. fails_more _ _ c.args.meter.now c.rows_in.new.meter cut
    (λ a. passes_are c.args.meter.now params piece entries c.requires.entries c.requires.plain a) h)
    c.rows_in.ensures
