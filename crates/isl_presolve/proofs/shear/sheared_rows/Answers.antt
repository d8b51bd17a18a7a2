use Rattle.std.proofs.Common.{◌≡◌, ◌∙◌, ◌+◌, ◌<◌, ◌++◌, ◌∷◌, [], refl, sym, ap, arith, length, map, take}
use Rattle.std.proofs.lemmas.Grind.{common_steps}
use Rattle.std.proofs.lemmas.List.{map_more}
use Rattle.std.proofs.lemmas.List.Elements.{All-push}
use Rattle.isl_piece.specs.declared.row.Row.{Row}
use Rattle.isl_piece.specs.Row.{IsRowWithin}
use Rattle.isl_presolve.specs.Shear.{sheared}
use Rattle.isl_presolve.proofs.shear.sheared_rows.Goals as goal

pub loop-row-preserved : goal.loop-row-preserved
loop-row-preserved c =
    let g = c.args.meter.now in
    let f = sheared c.args.shear.from c.args.shear.to c.args.shear.times in
    let rows = c.args.rows.now in
    let i = c.loop-row.row-index in
    let row = c.row-item.result in
    let new = c.in_ok-sheared.field-0 in
    let inside : i < length rows = grind (arith, common_steps) in
    let is : new ≡ f row = grind arith in
    let within : IsRowWithin g new = grind arith in
    let pushed : c.push.new.self ≡ c.loop-row.new ++ new ∷ [] = grind arith in
    let more = map_more f rows i row inside ∙ ap (λ (r : Row). map f (take i rows) ++ f r ∷ []) (sym c.row-item.is) in (
      rw (pushed, more, c.loop-row.invariant.0, is) refl,
      rw pushed (All-push (IsRowWithin g) c.loop-row.new new c.loop-row.invariant.1 within),
      grind arith,
    )
