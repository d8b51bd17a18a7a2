use Rattle.std.proofs.Common.{◌≡◌, ◌<◌, ◌≤◌, false, arith, sym, ◌∙◌, get_or, length}
use Rattle.std.proofs.lemmas.Bool.{false≢true}
use Rattle.std.proofs.lemmas.Grind.{common_steps}
use Rattle.isl_piece.specs.declared.row.Row.{Row}
use Rattle.isl_elim.specs.Solved.{IsUnitEquality}
use Rattle.isl_quotient.proofs.PinnedLaws.{all_seen, one_more}
use Rattle.isl_quotient.proofs.solved.unit_at.Goals as goal

pub loop-i-preserved : goal.loop-i-preserved
loop-i-preserved c =
    let rows = c.args.rows.now in
    let i = c.loop-i.i in
    let x = c.index-rows-i.result in
    let low : i < length rows = grind (arith, common_steps) in
    let at : x ≡ get_or rows i x = grind (arith, common_steps) in
    let no : c.is_unit_equality.result ≡ false = grind (arith, common_steps) in
    one_more (λ (r : Row). ¬ IsUnitEquality c.args.col r) rows i x low at
    (λ unit. false≢true (sym no ∙ c.is_unit_equality.ensures.1 unit)) c.loop-i.invariant

pub returns-clause-none : goal.returns-clause-none
returns-clause-none c = λ _.
    let end : length c.args.rows.now ≤ c.loop-i.i = grind (arith, common_steps) in
    all_seen (λ (r : Row). ¬ IsUnitEquality c.args.col r) c.args.rows.now c.loop-i.i end c.loop-i.invariant
