use Rattle.std.proofs.Common.{length}
use Rattle.isl_plain.specs.Rows.{placed_entries, written_body}
use Rattle.isl_plain.specs.Width.{width_of, added_in, PassesIn, brings_in, entries_in}
use Rattle.isl_plain.proofs.JoinLaws.{both_rows, both_fail}
use Rattle.isl_plain.proofs.PassLaws.{match_weaker}
use Rattle.isl_plain.proofs.lowered.push_rows.Goals as goal

pub returns : goal.returns
returns c =
    let places = c.args.places.now in
    let first = placed_entries (brings_in places) (entries_in places) (length places.params.now) in
    let second = written_body (width_of places) c.args.piece.now.body in
    match_weaker c.push_body.result _ _ _ _
    (λ u h. both_rows (λ g. PassesIn g places) (added_in places) c.args.meter.now c.push_entries.new.meter c.push_body.new.meter
    c.args.rows.now c.push_entries.new.rows c.push_body.new.rows first second c.in_default.ensures.0 c.in_default.ensures.2 h)
    (λ cut h. both_fail (λ g. PassesIn g places) (added_in places) c.args.meter.now c.push_entries.new.meter c.push_body.new.meter cut first
    second c.in_default.ensures.2 h)
    c.push_body.ensures
