use Rattle.std.proofs.Common.{◌≡◌, ◌+◌, ◌<◌, ◌++◌, ◌∷◌, [], length, take, sym, ap, ◌∙◌, refl, arith}
use Rattle.std.proofs.lemmas.Grind.{common_steps}
use Rattle.std.proofs.lemmas.List.{take_more}
use Rattle.isl_piece.specs.declared.row.Row.{Row}
use Rattle.isl_omega.specs.Congruence.{period}
use Rattle.isl_shadows.specs.Residue.{IsCommonMultiple}
use Rattle.isl_omega.specs.Sides.{IsNotDivides}
use Rattle.isl_omega.proofs.MergeLemmas.{take_one}
use Rattle.isl_shadows.proofs.CommonPeriods.{period_one, period_more}
use Rattle.isl_piece.proofs.RowLemmas.{HasModulus-positive}
use Rattle.isl_column.proofs.residue.common_period.Goals as goal

pub loop-i-init : goal.loop-i-init
loop-i-init c =
    let rows = c.args.rows.now in
    let r = c.index-rows-0.result in
    let not_divides : IsNotDivides c.args.meter.now c.args.column.columns c.args.column.at r = grind (arith, common_steps) in
    let is : c.period_of-period.result ≡ period c.args.column.at r = grind arith in
    record {
      is_period = rw (take_one rows r c.requires.some c.index-rows-0.is, is) (period_one c.args.column.at r (HasModulus-positive r.kind r.k not_divides.proper.formed.modulus));
      within = grind arith;
      at_least_one = omega arith;
      same = refl;
    }

pub loop-i-preserved : goal.loop-i-preserved
loop-i-preserved c =
    let rows = c.args.rows.now in
    let i = c.loop-i.i in
    let r = c.index-rows-i.result in
    let inside : i < length rows = grind (arith, common_steps) in
    let not_divides : IsNotDivides c.args.meter.now c.args.column.columns c.args.column.at r = grind (arith, common_steps) in
    let multiple : IsCommonMultiple c.loop-i.period (period c.args.column.at r) c.in_ok-period.period = grind arith in
    let taken : take (i + 1) rows ≡ take i rows ++ r ∷ [] = take_more rows i r inside ∙ ap (λ (s : Row). take i rows ++ s ∷ []) (sym c.index-rows-i.is) in
    record {
      is_period = rw taken (period_more c.args.column.at (take i rows) r c.loop-i.period c.in_ok-period.period (HasModulus-positive r.kind r.k not_divides.proper.formed.modulus) c.loop-i.invariant.is_period multiple);
      within = grind arith;
      at_least_one = omega arith;
      same = grind arith;
    }
