use Rattle.std.proofs.Common.{◌≡◌, ◌∷◌, ◌++◌, [], refl, sym, arith, pos, ◌+ℤ◌, append-nil}
use Rattle.std.proofs.lemmas.Grind.{common_steps}
use Rattle.std.proofs.lemmas.List.Elements.{All-nil}
use Rattle.isl_math.proofs.Ring.{linear}
use Rattle.isl_meter.specs.Gauge.{IsWithin}
use Rattle.isl_piece.specs.declared.row.RowKind.TheVariants as kinds
use Rattle.isl_piece.specs.Row.{IsRowWithin, coef_at}
use Rattle.isl_elim.proofs.NarrowLaws.{remainder_more, remainder_within}
use Rattle.isl_elim.proofs.narrow.push_remainders.Goals as goal

pub get-k-requires : goal.get-k-requires
get-k-requires c =
    let wide = c.requires.row.formed.width in
    let low = c.args.column.in_range in
    omega (arith, wide, low)

pub loop-made-init : goal.loop-made-init
loop-made-init c =
    (omega (arith, linear, c.constant-constant.ensures), sym (append-nil c.args.rows.now), All-nil (IsRowWithin c.args.meter.now), refl)

pub loop-made-preserved : goal.loop-made-preserved
loop-made-preserved c =
    let g = c.args.meter.now in
    let row = c.args.row.now in
    let col = c.args.column.at in
    let n = c.loop-made._made in
    let last = c.loop-made.constant in
    let more = c.in_ok-more.more in
    let before = c.loop-made.invariant in
    let next : more ≡ last +ℤ pos 1 = grind (arith, common_steps) in
    let within : IsWithin g more = grind (arith, common_steps) in
    let made : c.new.result ≡ record { kind = kinds.NotDivides; coefs = row.coefs; constant = more; k = coef_at row col } =
    grind (arith, common_steps) in
    let pushed : c.push.new.self ≡ c.loop-made.rows ++ c.new.result ∷ [] = grind (arith, common_steps) in (
      (let first = before.0 in omega (arith, linear, next, first)),
      remainder_more g col n row c.args.rows.now c.loop-made.rows c.push.new.self last more c.new.result before.0 next made before.1 pushed,
      remainder_within g c.args.column.columns col n row last more c.requires.row c.args.column.in_range before.0 next within before.2,
      grind (arith, common_steps),
    )

pub returns : goal.returns
returns c =
    let end : c.loop-made._made ≡ c.args.count = grind (arith, common_steps) in
    let last = rw end at c.loop-made.invariant in
    ((last.1, last.2), last.3)
