use Rattle.std.proofs.Common.{◌≡◌, false, arith, sym, ◌∙◌}
use Rattle.std.proofs.lemmas.Bool.{false≢true}
use Rattle.std.proofs.lemmas.Grind.{common_steps}
use Rattle.isl_quotient.proofs.PinnedLaws.{flat_pins}
use Rattle.isl_quotient.proofs.candidate.has_lower.Goals as goal

pub returns-then-not-is_steep : goal.returns-then-not-is_steep
returns-then-not-is_steep c = λ _.
    let flat : c.is_steep.result ≡ false = grind (arith, common_steps) in
    flat_pins c.args.rows.now c.args.col c.args.row.now (λ steep. false≢true (sym flat ∙ c.is_steep.ensures.1 steep))
