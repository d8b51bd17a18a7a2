use Rattle.std.proofs.Common.{◌≡◌, ◌≢◌, ◌<◌, ◌++◌, ◌∷◌, [], length, refl, arith}
use Rattle.std.proofs.lemmas.Grind.{common_steps}
use Rattle.std.proofs.lemmas.List.Elements.{All-push}
use Rattle.isl_meter.specs.declared.Cut.TheVariants.{Overflow}
use Rattle.isl_piece.specs.Row.{IsRowWithin}
use Rattle.isl_omega.specs.Column.{dropped}
use Rattle.isl_omega.specs.Equality.{image_of}
use Rattle.isl_omega.specs.Magnitude.{IsRowUpToAt}
use Rattle.isl_omega.proofs.ShortImages.{short_images_more}
use Rattle.isl_omega.proofs.equality.images_without.Goals as goal

pub loop-row-preserved : goal.loop-row-preserved
loop-row-preserved c =
    let fixed = c.args.fixed.now in
    let short = c.in_ok-image_without.field-0 in
    let inside : c.loop-row.row-index < length c.args.rows.now = grind (arith, common_steps) in
    let is : short ≡ dropped (image_of fixed c.args.column.at c.row-item.result) c.args.column.at = grind arith in
    let within : IsRowWithin c.args.meter.now short = grind arith in
    let pushed : c.push.new.self ≡ c.loop-row.short ++ short ∷ [] = grind arith in (
      rw (pushed, is, short_images_more fixed c.args.column.at c.args.rows.now c.loop-row.row-index c.row-item.result inside c.row-item.is, c.loop-row.invariant.0) refl,
      rw pushed (All-push (IsRowWithin c.args.meter.now) c.loop-row.short short c.loop-row.invariant.1 within),
      grind arith,
    )

pub returns-in_err-image_without-clause-no_overflow : goal.returns-in_err-image_without-clause-no_overflow
returns-in_err-image_without-clause-no_overflow c = λ u v w x small large room.
    let row = c.row-item.result in
    let i = c.loop-row.row-index in
    let inside : i < length c.args.rows.now = grind (arith, common_steps) in
    let one : IsRowUpToAt c.args.column.at u w row = rw (← c.row-item.is) at (small i row inside) in
    let fact : c.in_err-image_without.field-0.0 ≢ Overflow = c.in_err-image_without.ensures.no_overflow u v w x one large (rw c.loop-row.invariant.2 room) in
    grind arith
