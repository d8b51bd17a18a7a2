use Rattle.std.proofs.Common.{◌≡◌, ◌+◌, ◌∷◌, [], sym, subst, arith}
use Rattle.std.proofs.lemmas.Grind.{common_steps}
use Rattle.isl_meter.specs.Gauge.{Gauge}
use Rattle.isl_frame.specs.Needed.{AreRowsOver}
use Rattle.isl_loops.proofs.OrderLaws.{less_over, precede_told}
use Rattle.isl_loops.proofs.order.systems_precede.Goals as goal

pub are_known-requires-clause-others : goal.are_known-requires-clause-others
are_known-requires-clause-others c =
    let place = c.args.place.now in
    let g = c.args.meter.now in
    let less = c.in_ok-less_row.field-0 in
    let made : c.push.new.self ≡ less ∷ [] = grind (arith, common_steps) in
    let over : AreRowsOver g (place.variables + 2) (less ∷ []) =
    less_over g place.variables less c.limit-limit.ensures.bits_low c.in_ok-less_row.ensures in
    subst (λ (h : Gauge). AreRowsOver h (place.variables + 2) c.push.new.self) (sym c.in_ok-rows.ensures.1)
    (subst (AreRowsOver g (place.variables + 2)) (sym made) over)

pub returns-clause-precede : goal.returns-clause-precede
returns-clause-precede c =
    let place = c.args.place.now in
    let less = c.in_ok-less_row.field-0 in
    let made : c.push.new.self ≡ less ∷ [] = grind (arith, common_steps) in
    precede_told c.are_known.result c.args.meter.now place c.args.one.now c.args.other.now c.in_ok-rows.rows c.push.new.self less made
    c.in_ok-rows.ensures.0 c.in_ok-less_row.ensures c.are_known.ensures.exact
