use Rattle.std.proofs.Common.{◌≡◌, ◌<◌, ◌≤◌, ◌++◌, ◌∷◌, [], refl, sym, subst, arith, List, length}
use Rattle.std.specs.List.{AllZip}
use Rattle.std.proofs.lemmas.Grind.{common_steps}
use Rattle.std.proofs.lemmas.List.{take_all}
use Rattle.isl_meter.proofs.CutLemmas.{IsCharged_trans}
use Rattle.isl_piece.specs.declared.row.Row.{Row}
use Rattle.isl_frame.specs.Needed.{AreRowsOver}
use Rattle.isl_frame.proofs.NeededLaws.{over_later}
use Rattle.isl_bounds.proofs.PrunedLaws.{IsFewer, fewer_bare, fewer_each, fewer_more}
use Rattle.isl_bounds.proofs.groups.pruned_each.Goals as goal

pub needed-requires-clause-context : goal.needed-requires-clause-context
needed-requires-clause-context c =
    over_later c.args.meter.now c.loop-rows.meter c.args.columns c.args.context.now c.loop-rows.invariant.1 c.requires.context

pub needed-requires-clause-rows : goal.needed-requires-clause-rows
needed-requires-clause-rows c =
    let g = c.args.meter.now in
    let rows = c.rows-item.result in
    let low : c.loop-rows.rows-index < length c.args.groups.now = omega arith in
    let own : AreRowsOver g c.args.columns rows =
    subst (AreRowsOver g c.args.columns) (sym c.rows-item.is) (c.requires.groups c.loop-rows.rows-index rows low) in
    over_later g c.loop-rows.meter c.args.columns c.in_ok-own.own c.loop-rows.invariant.1
    (subst (AreRowsOver g c.args.columns) (sym c.in_ok-own.ensures) own)

pub loop-rows-preserved : goal.loop-rows-preserved
loop-rows-preserved c =
    let groups = c.args.groups.now in
    let rows = c.rows-item.result in
    let few = c.in_ok-needed.field-0 in
    let low : c.loop-rows.rows-index < length groups = omega arith in
    let pushed : c.push.new.self.items ≡ c.loop-rows.kept.items ++ few ∷ [] = grind (arith, common_steps) in
    let one : IsFewer c.args.columns c.args.context.now groups rows few =
    subst (λ (r : List Row). IsFewer c.args.columns c.args.context.now groups r few) c.in_ok-own.ensures
    (c.in_ok-needed.ensures.exact, c.in_ok-needed.ensures.least, c.in_ok-needed.ensures.none_known) in (
      fewer_more c.args.columns c.args.context.now groups c.loop-rows.rows-index rows c.loop-rows.kept.items few c.push.new.self.items low
          c.rows-item.is c.loop-rows.invariant.0 one pushed,
      IsCharged_trans c.args.meter.now c.loop-rows.meter c.needed.new.meter c.loop-rows.invariant.1 c.in_ok-needed.ensures.meter,
    )

pub returns-clause-exact : goal.returns-clause-exact
returns-clause-exact c =
    let groups = c.args.groups.now in
    let end : length groups ≤ c.loop-rows.rows-index = omega arith in
    fewer_each c.args.columns c.args.context.now groups groups c.loop-rows.kept.items refl
    (subst (λ (gs : List (List Row)). AllZip (IsFewer c.args.columns c.args.context.now groups) gs c.loop-rows.kept.items)
    (take_all c.loop-rows.rows-index groups end) c.loop-rows.invariant.0)

pub returns-clause-bare : goal.returns-clause-bare
returns-clause-bare c =
    let groups = c.args.groups.now in
    let end : length groups ≤ c.loop-rows.rows-index = omega arith in
    fewer_bare c.args.columns c.args.context.now groups groups c.loop-rows.kept.items
    (subst (λ (gs : List (List Row)). AllZip (IsFewer c.args.columns c.args.context.now groups) gs c.loop-rows.kept.items)
    (take_all c.loop-rows.rows-index groups end) c.loop-rows.invariant.0)
