use Rattle.std.proofs.Common.{◌≡◌, ◌∙◌, ◌+◌, ◌++◌, refl, sym, ap, subst, List}
use Rattle.isl_meter.specs.Gauge.{Gauge, IsCharged}
use Rattle.isl_meter.proofs.CutLemmas.{IsCharged_refl, IsCharged_trans}
use Rattle.isl_piece.specs.declared.row.Row.{Row}
use Rattle.isl_frame.specs.Needed.{AreRowsOver}
use Rattle.isl_frame.proofs.NeededLaws.{over_later}
use Rattle.isl_bounds.specs.Bound.{AreEndGroups}
use Rattle.isl_bounds.specs.Head.{IsHeadOf}
use Rattle.isl_bounds.specs.Pruned.{AreFewer}
use Rattle.isl_bounds.specs.declared.side.Side.TheVariants.{Low, High}
use Rattle.isl_bounds.proofs.PrunedLaws.{both_over}
use Rattle.isl_nest.specs.Stepping.{only_of, steps_of}
use Rattle.isl_nest.proofs.AroundLaws.{between_is, charged_bits, end_groups_later, fewer_ends, inside_over}
use Rattle.isl_nest.proofs.PlaceLaws.{widened_over}
use Rattle.isl_nest.proofs.around.Around.between.Goals as goal

pub pruned-requires-clause-context : goal.pruned-requires-clause-context
pruned-requires-clause-context c =
    let g = c.args.meter.now in
    let place = c.args.place.now in
    let columns = place.variables + 1 in
    let context = c.in_ok-context.context in
    let wide : AreRowsOver g columns context =
    subst (AreRowsOver g columns) (sym c.in_ok-context.ensures)
    (widened_over g place.variables place.context c.limit-limit.ensures.bits_low c.requires.place.context) in
    let start : IsCharged g c.step_among.new.meter = IsCharged_refl g c.step_among.new.meter c.in_ok-step.ensures.1 in
    over_later g c.step_among.new.meter columns context start wide

pub pruned-requires-2-clause-context : goal.pruned-requires-2-clause-context
pruned-requires-2-clause-context c =
    let g = c.args.meter.now in
    let place = c.args.place.now in
    let columns = place.variables + 1 in
    let context = c.in_ok-context.context in
    let wide : AreRowsOver g columns context =
    subst (AreRowsOver g columns) (sym c.in_ok-context.ensures)
    (widened_over g place.variables place.context c.limit-limit.ensures.bits_low c.requires.place.context) in
    let start : IsCharged g c.step_among.new.meter = IsCharged_refl g c.step_among.new.meter c.in_ok-step.ensures.1 in
    let second : IsCharged g c.pruned.new.meter = IsCharged_trans g c.step_among.new.meter c.pruned.new.meter start c.in_ok-lows.ensures.meter in
    over_later g c.pruned.new.meter columns context second wide

pub head_of-requires-clause-lows : goal.head_of-requires-clause-lows
head_of-requires-clause-lows c =
    let g = c.args.meter.now in
    let place = c.args.place.now in
    let columns = place.variables + 1 in
    let context = c.in_ok-context.context in
    let start : IsCharged g c.step_among.new.meter = IsCharged_refl g c.step_among.new.meter c.in_ok-step.ensures.1 in
    let second : IsCharged g c.pruned.new.meter = IsCharged_trans g c.step_among.new.meter c.pruned.new.meter start c.in_ok-lows.ensures.meter in
    let third : IsCharged g c.pruned-2.new.meter =
    IsCharged_trans g c.pruned.new.meter c.pruned-2.new.meter second c.in_ok-highs.ensures.meter in
    let lows = c.in_ok-lows.lows.items in
    let fewer_lows : AreFewer columns context c.args.sides.now.lows.items lows =
    subst (λ (gs : List (List Row)). AreFewer columns context gs lows) c.as_slice.ensures.value c.in_ok-lows.ensures.exact in
    subst (AreEndGroups c.pruned-2.new.meter place.variables Low) (sym c.as_slice-3.ensures.value)
    (end_groups_later g place.variables Low c.pruned-2.new.meter third lows
    (fewer_ends g place.variables Low context c.args.sides.now.lows.items lows c.requires.lows fewer_lows))

pub head_of-requires-clause-highs : goal.head_of-requires-clause-highs
head_of-requires-clause-highs c =
    let g = c.args.meter.now in
    let place = c.args.place.now in
    let columns = place.variables + 1 in
    let context = c.in_ok-context.context in
    let start : IsCharged g c.step_among.new.meter = IsCharged_refl g c.step_among.new.meter c.in_ok-step.ensures.1 in
    let second : IsCharged g c.pruned.new.meter = IsCharged_trans g c.step_among.new.meter c.pruned.new.meter start c.in_ok-lows.ensures.meter in
    let third : IsCharged g c.pruned-2.new.meter =
    IsCharged_trans g c.pruned.new.meter c.pruned-2.new.meter second c.in_ok-highs.ensures.meter in
    let highs = c.in_ok-highs.highs.items in
    let fewer_highs : AreFewer columns context c.args.sides.now.highs.items highs =
    subst (λ (gs : List (List Row)). AreFewer columns context gs highs) c.as_slice-2.ensures.value c.in_ok-highs.ensures.exact in
    subst (AreEndGroups c.pruned-2.new.meter place.variables High) (sym c.as_slice-4.ensures.value)
    (end_groups_later g place.variables High c.pruned-2.new.meter third highs
    (fewer_ends g place.variables High context c.args.sides.now.highs.items highs c.requires.highs fewer_highs))

pub needed-requires-clause-context : goal.needed-requires-clause-context
needed-requires-clause-context c =
    let g = c.args.meter.now in
    let place = c.args.place.now in
    let columns = place.variables + 1 in
    let context = c.in_ok-context.context in
    let wide : AreRowsOver g columns context =
    subst (AreRowsOver g columns) (sym c.in_ok-context.ensures)
    (widened_over g place.variables place.context c.limit-limit.ensures.bits_low c.requires.place.context) in
    let start : IsCharged g c.step_among.new.meter = IsCharged_refl g c.step_among.new.meter c.in_ok-step.ensures.1 in
    let second : IsCharged g c.pruned.new.meter = IsCharged_trans g c.step_among.new.meter c.pruned.new.meter start c.in_ok-lows.ensures.meter in
    let third : IsCharged g c.pruned-2.new.meter =
    IsCharged_trans g c.pruned.new.meter c.pruned-2.new.meter second c.in_ok-highs.ensures.meter in
    let lows = c.in_ok-lows.lows.items in
    let fewer_lows : AreFewer columns context c.args.sides.now.lows.items lows =
    subst (λ (gs : List (List Row)). AreFewer columns context gs lows) c.as_slice.ensures.value c.in_ok-lows.ensures.exact in
    let highs = c.in_ok-highs.highs.items in
    let fewer_highs : AreFewer columns context c.args.sides.now.highs.items highs =
    subst (λ (gs : List (List Row)). AreFewer columns context gs highs) c.as_slice-2.ensures.value c.in_ok-highs.ensures.exact in
    let step = c.in_ok-step.step in
    let inside_is : c.in_ok-inside.inside ≡ only_of lows ++ only_of highs ++ steps_of step =
    c.in_ok-inside.ensures
    ∙ ap (λ (gs : List (List Row)). only_of gs ++ only_of c.as_slice-6.result.now ++ steps_of step) c.as_slice-5.ensures.value
    ∙ ap (λ (gs : List (List Row)). only_of lows ++ only_of gs ++ steps_of step) c.as_slice-6.ensures.value in
    let over = inside_over g c.pruned-2.new.meter (charged_bits g c.pruned-2.new.meter third) place c.requires.place c.args.sides.now c.args.others
    c.requires.others c.requires.lows c.requires.highs step c.in_ok-step.ensures.0.0 c.in_ok-step.ensures.0.1 lows highs context c.in_ok-context.ensures fewer_lows fewer_highs in
    let both : AreRowsOver g columns c.in_ok-known.known = both_over g columns context c.in_ok-inside.inside c.in_ok-known.known
    c.in_ok-known.ensures wide (subst (AreRowsOver g columns) (sym inside_is) over) in
    subst (λ (h : Gauge). AreRowsOver h columns c.in_ok-known.known) (sym c.in_ok-head.ensures.1)
    (over_later g c.pruned-2.new.meter columns c.in_ok-known.known third both)

pub needed-requires-clause-rows : goal.needed-requires-clause-rows
needed-requires-clause-rows c =
    let g = c.args.meter.now in
    let columns = c.args.place.now.variables + 1 in
    let start : IsCharged g c.step_among.new.meter = IsCharged_refl g c.step_among.new.meter c.in_ok-step.ensures.1 in
    let second : IsCharged g c.pruned.new.meter = IsCharged_trans g c.step_among.new.meter c.pruned.new.meter start c.in_ok-lows.ensures.meter in
    let third : IsCharged g c.pruned-2.new.meter =
    IsCharged_trans g c.pruned.new.meter c.pruned-2.new.meter second c.in_ok-highs.ensures.meter in
    subst (λ (h : Gauge). AreRowsOver h columns c.args.others) (sym c.in_ok-head.ensures.1)
    (over_later g c.pruned-2.new.meter columns c.args.others third c.requires.others.over)

pub returns-clause-between : goal.returns-clause-between
returns-clause-between c =
    let g = c.args.meter.now in
    let place = c.args.place.now in
    let columns = place.variables + 1 in
    let context = c.in_ok-context.context in
    let start : IsCharged g c.step_among.new.meter = IsCharged_refl g c.step_among.new.meter c.in_ok-step.ensures.1 in
    let second : IsCharged g c.pruned.new.meter = IsCharged_trans g c.step_among.new.meter c.pruned.new.meter start c.in_ok-lows.ensures.meter in
    let third : IsCharged g c.pruned-2.new.meter =
    IsCharged_trans g c.pruned.new.meter c.pruned-2.new.meter second c.in_ok-highs.ensures.meter in
    let lows = c.in_ok-lows.lows.items in
    let fewer_lows : AreFewer columns context c.args.sides.now.lows.items lows =
    subst (λ (gs : List (List Row)). AreFewer columns context gs lows) c.as_slice.ensures.value c.in_ok-lows.ensures.exact in
    let highs = c.in_ok-highs.highs.items in
    let fewer_highs : AreFewer columns context c.args.sides.now.highs.items highs =
    subst (λ (gs : List (List Row)). AreFewer columns context gs highs) c.as_slice-2.ensures.value c.in_ok-highs.ensures.exact in
    let step = c.in_ok-step.step in
    let inside_is : c.in_ok-inside.inside ≡ only_of lows ++ only_of highs ++ steps_of step =
    c.in_ok-inside.ensures
    ∙ ap (λ (gs : List (List Row)). only_of gs ++ only_of c.as_slice-6.result.now ++ steps_of step) c.as_slice-5.ensures.value
    ∙ ap (λ (gs : List (List Row)). only_of lows ++ only_of gs ++ steps_of step) c.as_slice-6.ensures.value in
    let h = c.pruned-2.new.meter in
    let head : IsHeadOf h place.variables lows highs (steps_of step) c.in_ok-head.head =
    subst (λ (gs : List (List Row)). IsHeadOf h place.variables gs highs (steps_of step) c.in_ok-head.head) c.as_slice-3.ensures.value
    (subst (λ (gs : List (List Row)). IsHeadOf h place.variables c.as_slice-3.result.now gs (steps_of step) c.in_ok-head.head)
    c.as_slice-4.ensures.value c.in_ok-head.ensures.0) in
    between_is g h (charged_bits g h third) place c.requires.place c.args.sides.now c.args.others c.requires.others c.requires.lows
    c.requires.highs step c.in_ok-step.ensures.0.0 c.in_ok-step.ensures.0.1 lows highs context c.in_ok-context.ensures fewer_lows fewer_highs c.in_ok-head.head head
    c.in_ok-inside.inside c.in_ok-known.known c.in_ok-guards.guards inside_is c.in_ok-known.ensures c.in_ok-guards.ensures.exact
    (record { head = c.in_ok-head.head; inside = c.in_ok-inside.inside; guards = c.in_ok-guards.guards }) refl
