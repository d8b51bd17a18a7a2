use Rattle.std.proofs.Common.{◌≡◌, ◌+◌, [], ◌∷◌, ◌++◌, drop, arith}
use Rattle.std.proofs.lemmas.Grind.{common_steps}
use Rattle.isl_plain.specs.Rows.{written_links}
use Rattle.isl_plain.specs.Width.{width_of, added_in, PassesIn}
use Rattle.isl_plain.specs.Code.{written_of}
use Rattle.isl_plain.proofs.JoinLaws.{next_rows, failed_rows}
use Rattle.isl_plain.proofs.chains.push_links.Goals as goal

pub returns-in-Err : goal.returns-in-Err
returns-in-Err c =
    let places = c.args.places.now in
    let later = written_links (width_of places) c.as_slice-right.result.now (drop (c.loop-i.i + 1) c.args.links.now) in
    let split : written_links (width_of places) c.loop-i.left.now (drop c.loop-i.i c.args.links.now)
    ≡ (written_of c.compared-row.result ∷ []) ++ later = grind (arith, common_steps) in
    failed_rows (λ g. PassesIn g places) (added_in places) c.args.meter.now c.loop-i.meter c.push_row.new.meter c.in-Err.cut c.args.rows.now
    c.loop-i.rows _ (written_of c.compared-row.result ∷ []) later (written_links (width_of places) c.args.first.now c.args.links.now)
    c.loop-i.invariant split c.in-Err.ensures

pub loop-i-preserved : goal.loop-i-preserved
loop-i-preserved c =
    let places = c.args.places.now in
    let later = written_links (width_of places) c.as_slice-right.result.now (drop (c.loop-i.i + 1) c.args.links.now) in
    let split : written_links (width_of places) c.loop-i.left.now (drop c.loop-i.i c.args.links.now)
    ≡ (written_of c.compared-row.result ∷ []) ++ later = grind (arith, common_steps) in
    next_rows (λ g. PassesIn g places) (added_in places) c.args.meter.now c.loop-i.meter c.push_row.new.meter c.args.rows.now c.loop-i.rows
    c.push_row.new.rows _ (written_of c.compared-row.result ∷ []) later (written_links (width_of places) c.args.first.now c.args.links.now)
    c.loop-i.invariant c.in_default-push_row.ensures split
