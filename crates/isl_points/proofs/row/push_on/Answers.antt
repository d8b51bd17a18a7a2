use Rattle.std.proofs.Common.{◌≡◌, ◌≢◌, ◌∙◌, ◌++◌, ◌∷◌, [], List, length, map, pos, arith, ap, refl, sym}
use Rattle.std.proofs.lemmas.Grind.{common_steps}
use Rattle.std.proofs.lemmas.List.{append-nil}
use Rattle.std.proofs.lemmas.List.Elements.{All-append, All-cons, All-nil}
use Rattle.isl_meter.specs.Gauge.{IsWithin}
use Rattle.isl_piece.specs.declared.row.Row.{Row}
use Rattle.isl_piece.specs.Row.{coef_at}
use Rattle.isl_tower.specs.Numbers.{row_at}
use Rattle.isl_points.proofs.ShornLaws.{on_none, on_one}
use Rattle.isl_points.proofs.row.push_on.Goals as goal

pub returns-then-is_zero : goal.returns-then-is_zero
returns-then-is_zero c =
    let numbers = c.args.numbers.now in
    let row = c.args.row.now in
    let old = c.args.kept.now.items in
    let zero : coef_at row (length numbers) ≡ pos 0 = grind arith in (
      sym (append-nil old) ∙ ap (λ (l : List Row). old ++ map (row_at numbers) l) (sym (on_none (length numbers) row zero)),
      c.requires.kept,
      refl,
    )

pub returns : goal.returns
returns c =
    let g = c.args.meter.now in
    let numbers = c.args.numbers.now in
    let row = c.args.row.now in
    let old = c.args.kept.now.items in
    let left = c.in_ok-left.left in
    let new = c.push.new.self.items in
    let IsRowConstant : Row → Type 0 = λ r. IsWithin g r.constant in
    let own = c.in_ok-left.ensures.exact in
    let some : coef_at row (length numbers) ≢ pos 0 = grind arith in
    let more : new ≡ old ++ left ∷ [] = grind (arith, common_steps) in (
      more ∙ ap (λ (r : Row). old ++ r ∷ []) own.0
          ∙ ap (λ (l : List Row). old ++ map (row_at numbers) l) (sym (on_one (length numbers) row some)),
      rw more (All-append IsRowConstant old (left ∷ []) c.requires.kept (All-cons IsRowConstant left [] own.1 (All-nil IsRowConstant))),
      grind arith,
    )
