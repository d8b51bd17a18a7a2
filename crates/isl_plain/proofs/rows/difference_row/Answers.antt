use Rattle.std.proofs.Common.{◌≡◌, ◌∙◌, ◌+◌, ℕ, pos, ap, length, replicate}
use Rattle.std.proofs.lemmas.List.{length-replicate}
use Rattle.isl_plain.specs.Linear.{with_amounts, row_of}
use Rattle.isl_plain.specs.Rows.{amounts_in}
use Rattle.isl_plain.specs.Width.{width_of, place_in}
use Rattle.isl_plain.specs.Code.{written_of}
use Rattle.isl_plain.proofs.PassLaws.{length-with_amounts', added_is, row_within}
use Rattle.isl_plain.proofs.rows.difference_row.Goals as goal

pub finished-requires : goal.finished-requires
finished-requires c =
    let w = written_of c.args.written in
    length-with_amounts' c.in-Ok.row c.add_written.new.row
    (amounts_in (width_of c.args.places.now) (place_in c.args.places.now) w)
    (c.width-columns.result + 1)
    c.in-Ok-add_written.ensures.0 (ap length c.in-Ok.ensures ∙ length-replicate (c.width-columns.result + 1) (pos 0))

pub returns-in-Ok-add_written : goal.returns-in-Ok-add_written
returns-in-Ok-add_written c =
    let n = width_of c.args.places.now in
    let place = place_in c.args.places.now in
    let w = written_of c.args.written in
    let amounts = amounts_in n place w in
    let columns = c.width-columns.result in
    let zeros = c.in-Ok.ensures ∙ ap (λ (k : ℕ). replicate (k + 1) (pos 0)) c.width-columns.ensures in
    let is : c.add_written.new.row ≡ row_of n amounts = c.in-Ok-add_written.ensures.0 ∙ ap (λ (l : _). with_amounts l amounts) zeros
    in
    let long = length-with_amounts' c.in-Ok.row c.add_written.new.row amounts (columns + 1) c.in-Ok-add_written.ensures.0
    (ap length c.in-Ok.ensures ∙ length-replicate (columns + 1) (pos 0)) in (
      added_is w c.args.modulus n columns place c.add_written.new.row c.finished.result c.width-columns.ensures c.requires.modulus is
          c.finished.ensures,
      row_within c.args.meter.now w.kind c.args.modulus columns c.add_written.new.row c.finished.result c.requires.small
          c.in-Ok-add_written.ensures.1 long c.finished.ensures,
      c.in-Ok-add_written.ensures.2,
    )
