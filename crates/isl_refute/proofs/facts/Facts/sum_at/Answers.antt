use mir.Syntax.{w128}
use Rattle.std.proofs.Common.{to_z, of_z, to_z-of_z, ◌≡◌, slice_get, option_map, ◌∙◌, sym, ap, Some, arith}
use Rattle.std.proofs.lemmas.Grind.{common_steps}
use Rattle.isl_refute.proofs.WithinLaws.{sum_at_cuts, sum_at_fact}
use Rattle.isl_refute.proofs.facts.Facts.sum_at.Goals as goal

pub returns-in-Some-Some-clause-cut : goal.returns-in-Some-Some-clause-cut
returns-in-Some-Some-clause-cut c =
    let rows = c.args.self.now.rows in
    let one : slice_get rows c.args.i ≡ Some c.in-Some-Some.first.now =
    sym c.row_at.ensures ∙ ap (λ o. option_map (λ r. r.now) o) c.in-Some-Some.is-0 in
    let two : slice_get rows c.args.j ≡ Some c.in-Some-Some.second.now =
    sym c.row_at-2.ensures ∙ ap (λ o. option_map (λ r. r.now) o) c.in-Some-Some.is-1 in
    let left : to_z w128 (of_z w128 c.args.a) ≡ c.args.a = grind (arith, common_steps, to_z-of_z) in
    let right : to_z w128 (of_z w128 c.args.b) ≡ c.args.b = grind (arith, common_steps, to_z-of_z) in
    sum_at_cuts c.args.meter.now c.sum_row.new.meter rows c.args.i c.args.a (to_z w128 (of_z w128 c.args.a)) c.args.j c.args.b
    (to_z w128 (of_z w128 c.args.b)) c.in-Some-Some.first.now c.in-Some-Some.second.now c.sum_row.result left right one two
    c.sum_row.ensures

pub returns-in-Some-Some-clause-fact : goal.returns-in-Some-Some-clause-fact
returns-in-Some-Some-clause-fact c =
    let rows = c.args.self.now.rows in
    let one : slice_get rows c.args.i ≡ Some c.in-Some-Some.first.now =
    sym c.row_at.ensures ∙ ap (λ o. option_map (λ r. r.now) o) c.in-Some-Some.is-0 in
    let two : slice_get rows c.args.j ≡ Some c.in-Some-Some.second.now =
    sym c.row_at-2.ensures ∙ ap (λ o. option_map (λ r. r.now) o) c.in-Some-Some.is-1 in
    sum_at_fact c.args.meter.now c.sum_row.new.meter c.args.self.now.columns rows c.args.i (to_z w128 (of_z w128 c.args.a)) c.args.j
    (to_z w128 (of_z w128 c.args.b)) c.in-Some-Some.first.now c.in-Some-Some.second.now _ _ c.sum_row.result one two c.requires
    c.sum_row.ensures
