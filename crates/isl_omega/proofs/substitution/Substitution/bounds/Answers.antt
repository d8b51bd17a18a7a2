use Rattle.std.proofs.Common.{◌≡◌, ◌<◌, ◌++◌, ◌∷◌, [], length, arith}
use Rattle.std.proofs.lemmas.Grind.{common_steps}
use Rattle.std.proofs.lemmas.List.Elements.{all_zip_more, All-push}
use Rattle.isl_piece.specs.Row.{IsRowWithin}
use Rattle.isl_omega.specs.Substitution.{IsMovedBound}
use Rattle.isl_omega.proofs.substitution.Substitution.bounds.Goals as goal

pub loop-row-preserved : goal.loop-row-preserved
loop-row-preserved c =
    let s = c.args.self.now in
    let bound = c.in_ok-bound.field-0 in
    let inside : c.loop-row.row-index < length c.args.rows.now = grind (arith, common_steps) in
    let is : IsMovedBound c.args.column.columns c.args.column.at s.scale s.offsets c.row-item.result bound = grind arith in
    let within : IsRowWithin c.args.meter.now bound = grind arith in
    let pushed : c.push.new.self ≡ c.loop-row.moved ++ bound ∷ [] = grind arith in (
      rw pushed (all_zip_more (IsMovedBound c.args.column.columns c.args.column.at s.scale s.offsets) c.args.rows.now c.loop-row.moved c.loop-row.row-index c.row-item.result bound inside c.row-item.is c.loop-row.invariant.0 is),
      rw pushed (All-push (IsRowWithin c.args.meter.now) c.loop-row.moved bound c.loop-row.invariant.1 within),
      grind arith,
    )
