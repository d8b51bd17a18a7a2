use Rattle.std.proofs.Common.{◌≡◌, ◌<◌, ◌≤◌, ◌++◌, [], ◌∙◌, refl, sym, ap, subst, arith, List, length, get_or}
use Rattle.std.proofs.lemmas.Bool.{false≢true}
use Rattle.std.proofs.lemmas.List.{get_or_read}
use Rattle.isl_piece.specs.declared.row.Row.{Row}
use Rattle.isl_frame.specs.Needed.{AreKnown, AreRowsOver}
use Rattle.isl_frame.proofs.NeededLaws.{over_later}
use Rattle.isl_meter.proofs.CutLemmas.{IsCharged_refl, IsCharged_trans}
use Rattle.isl_bounds.proofs.PrunedLaws.{NoneBeats, both_over, none_beats, none_beats_first, none_beats_more}
use Rattle.isl_bounds.proofs.groups.is_beaten.Goals as goal

pub are_known-requires-clause-rows : goal.are_known-requires-clause-rows
are_known-requires-clause-rows c =
    let g = c.args.meter.now in
    let group = c.index-groups-at.result in
    let own : AreRowsOver g c.args.columns group =
    subst (AreRowsOver g c.args.columns) (sym c.index-groups-at.is) (c.requires.groups c.args.at group c.requires.inside) in
    over_later g c.loop-i.meter c.args.columns c.in_ok-here.here c.loop-i.invariant.0
    (both_over g c.args.columns c.args.context.now group c.in_ok-here.here c.in_ok-here.ensures c.requires.context own)

pub are_known-requires-clause-others : goal.are_known-requires-clause-others
are_known-requires-clause-others c =
    let g = c.args.meter.now in
    let group = c.index-groups-i.result in
    let low : c.loop-i.i < length c.args.groups.now = omega arith in
    over_later g c.loop-i.meter c.args.columns group c.loop-i.invariant.0
    (subst (AreRowsOver g c.args.columns) (sym c.index-groups-i.is) (c.requires.groups c.loop-i.i group low))

pub returns-then-branch-clause-beaten : goal.returns-then-branch-clause-beaten
returns-then-branch-clause-beaten c =
    let groups = c.args.groups.now in
    let i = c.loop-i.i in
    let low : i < length groups = omega arith in
    let other : ¬ (i ≡ c.args.at) = omega arith in
    let here = get_or_read groups c.args.at c.index-groups-at.result c.requires.inside c.index-groups-at.is [] in
    let there = get_or_read groups i c.index-groups-i.result low c.index-groups-i.is [] in
    let known : AreKnown c.args.columns c.in_ok-here.here c.index-groups-i.result = c.in_ok-are_known.ensures.exact.0 c.if-branch.true in
    let first : AreKnown c.args.columns (c.args.context.now ++ get_or groups c.args.at []) c.index-groups-i.result =
    subst (λ (rows : List Row). AreKnown c.args.columns rows c.index-groups-i.result)
    (c.in_ok-here.ensures ∙ ap (λ (rows : List Row). c.args.context.now ++ rows) here) known in
    let all = subst (λ (rows : List Row). AreKnown c.args.columns (c.args.context.now ++ get_or groups c.args.at []) rows) there first in
    ((λ told. (i, low, other, all)), (λ beaten. refl))

pub returns-clause-beaten : goal.returns-clause-beaten
returns-clause-beaten c =
    let end : length c.args.groups.now ≤ c.loop-i.i = omega arith in
    let same : c.loop-i.i ≡ length c.args.groups.now = omega (arith, end) in (
      (λ told. absurd (false≢true told)),
      (λ beaten. absurd (none_beats c.args.columns c.args.context.now c.args.groups.now c.args.at
          (subst (NoneBeats c.args.columns c.args.context.now c.args.groups.now c.args.at) same c.loop-i.invariant.1) beaten)),
    )

pub loop-i-init : goal.loop-i-init
loop-i-init c = (
  IsCharged_refl c.args.meter.now c.args.meter.now refl,
  none_beats_first c.args.columns c.args.context.now c.args.groups.now c.args.at,
)

pub loop-i-preserved : goal.loop-i-preserved
loop-i-preserved c =
    let groups = c.args.groups.now in
    let i = c.loop-i.i in
    let low : i < length groups = omega arith in
    let here = get_or_read groups c.args.at c.index-groups-at.result c.requires.inside c.index-groups-at.is [] in
    let there = get_or_read groups i c.index-groups-i.result low c.index-groups-i.is [] in
    let unknown : ¬ AreKnown c.args.columns c.in_ok-here.here c.index-groups-i.result =
    λ known. false≢true (sym c.if-branch.false ∙ c.in_ok-are_known.ensures.exact.1 known) in
    let joined : c.in_ok-here.here ≡ c.args.context.now ++ get_or groups c.args.at [] =
    c.in_ok-here.ensures ∙ ap (λ (rows : List Row). c.args.context.now ++ rows) here in
    let not : ¬ AreKnown c.args.columns (c.args.context.now ++ get_or groups c.args.at []) (get_or groups i []) =
    λ known. unknown (subst (AreKnown c.args.columns c.in_ok-here.here) (sym there)
    (subst (λ (rows : List Row). AreKnown c.args.columns rows (get_or groups i [])) (sym joined) known)) in (
      IsCharged_trans c.args.meter.now c.loop-i.meter c.are_known.new.meter c.loop-i.invariant.0 c.in_ok-are_known.ensures.meter,
      none_beats_more c.args.columns c.args.context.now groups c.args.at i (λ other. not) c.loop-i.invariant.1,
    )

pub loop-i-preserved-then-i-at : goal.loop-i-preserved-then-i-at
loop-i-preserved-then-i-at c = (
  c.loop-i.invariant.0,
  none_beats_more c.args.columns c.args.context.now c.args.groups.now c.args.at c.loop-i.i (λ other. absurd (other (omega arith)))
      c.loop-i.invariant.1,
)
