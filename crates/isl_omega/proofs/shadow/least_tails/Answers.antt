use Rattle.std.proofs.Common.{◌≡◌, ◌+◌, ◌<◌, ◌++◌, ◌∷◌, [], ◌∙◌, length, take, refl, sym, ap, List, arith}
use Rattle.std.proofs.lemmas.Grind.{common_steps}
use Rattle.std.proofs.lemmas.List.{take_more}
use Rattle.isl_math.proofs.ListLaws.{AllZip-more}
use Rattle.isl_piece.specs.declared.row.Row.{Row}
use Rattle.isl_omega.specs.Shadow.{AreSplintersOf}
use Rattle.isl_omega.proofs.shadow.least_tails.Goals as goal

pub loop-lower-init : goal.loop-lower-init
loop-lower-init c =
    let none : c.in_ok-tails.tails.items ≡ [] = grind arith in
    rw none ((λ uppers. tt), refl)

pub loop-lower-preserved : goal.loop-lower-preserved
loop-lower-preserved c =
    let g = c.args.meter.now in
    let lowers = c.args.lowers.now in
    let tail = c.in_ok-least_tail.field-0 in
    let i = c.loop-lower.lower-index in
    let l = c.lower-item.result in
    let inside : i < length lowers = grind (arith, common_steps) in
    let taken : take (i + 1) lowers ≡ take i lowers ++ l ∷ [] = take_more lowers i l inside ∙ ap (λ (s : Row). take i lowers ++ s ∷ []) (sym c.lower-item.is) in
    let same : c.loop-lower.meter ≡ g = grind arith in
    let least : (uppers : List Row) → AreSplintersOf g c.args.column.at c.args.neighbours uppers l tail = rw same at c.in_ok-least_tail.ensures.exact.0 in
    let pushed : c.push.new.self.items ≡ c.loop-lower.tails.items ++ tail ∷ [] = grind arith in (
      (λ uppers. rw (taken, pushed) (AllZip-more (AreSplintersOf g c.args.column.at c.args.neighbours uppers) (take i lowers) c.loop-lower.tails.items l tail (c.loop-lower.invariant.0 uppers) (least uppers))),
      grind arith,
    )
