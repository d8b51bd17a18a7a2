use Rattle.std.proofs.Common.{sym, ap₂, ◌∙◌, subst, ◌≤◌, length, List, unsigned_abs}
use Rattle.std.specs.List.{All, Contains}
use Rattle.isl_meter.specs.Gauge.{limit_of}
use Rattle.isl_space.specs.Limits.{most_parameters}
use Rattle.isl_space.specs.Name.{Name}
use Rattle.isl_space.specs.Names.{IsParameterList, joined}
use Rattle.isl_union.specs.KeptValue.{IsKeptValue}
use Rattle.isl_union.specs.Moved.{aligned_pieces}
use Rattle.isl_union.proofs.PieceLaws.{IsKeptValue-from_pieces}
use Rattle.isl_union.proofs.ValueLaws.{first_in, second_in, aligned_small, pieces_within}
use Rattle.isl_gist.proofs.ValueLaws.{gist_has, gist_is, gist_plain, gist_small, own_plain}
use Rattle.isl_gist.proofs.values.gist.Goals as goal

pub aligned_pieces-requires-clause-among : goal.aligned_pieces-requires-clause-among
aligned_pieces-requires-clause-among c =
    let a = c.args.value.now.params in
    let b = c.args.context.now.params in
    let names = c.in_ok-params.ensures.joined ∙ ap₂ joined c.params.ensures.content c.params-2.ensures.content in
    subst (λ (l : List Name). All (Contains l) a) (sym names) (first_in a b)

pub aligned_pieces-requires-2-clause-among : goal.aligned_pieces-requires-2-clause-among
aligned_pieces-requires-2-clause-among c =
    let a = c.args.value.now.params in
    let b = c.args.context.now.params in
    let names = c.in_ok-params.ensures.joined ∙ ap₂ joined c.params.ensures.content c.params-2.ensures.content in
    let first = subst IsParameterList c.params.ensures.content c.params.ensures.well_formed in
    let second = subst IsParameterList c.params-2.ensures.content c.params-2.ensures.well_formed in
    subst (λ (l : List Name). All (Contains l) b) (sym names) (second_in a b first second)

pub left_over-requires-clause-pieces_within : goal.left_over-requires-clause-pieces_within
left_over-requires-clause-pieces_within c =
    let a = c.args.value.now in
    let g = c.args.meter.now in
    let names = c.in_ok-params.ensures.joined ∙ ap₂ joined c.params.ensures.content c.params-2.ensures.content in
    let there = subst (λ (l : List Name). All (Contains l) a.params) (sym names) (first_in a.params c.args.context.now.params) in
    rw c.as_slice.ensures.value
    (pieces_within g c.in_ok-params.params c.in_ok-own.own.items (aligned_pieces c.in_ok-params.params a) c.in_ok-own.ensures.sound
    c.in_ok-own.ensures.exact
    (aligned_small g c.in_ok-params.params a c.in_ok-own.ensures.kept c.requires.own there (unsigned_abs (limit_of g)) c.requires.own))

pub left_over-requires-clause-others_within : goal.left_over-requires-clause-others_within
left_over-requires-clause-others_within c =
    let a = c.args.value.now in
    let b = c.args.context.now in
    let g = c.args.meter.now in
    let names = c.in_ok-params.ensures.joined ∙ ap₂ joined c.params.ensures.content c.params-2.ensures.content in
    let there = subst (λ (l : List Name). All (Contains l) b.params) (sym names) (second_in a.params b.params
    c.in_ok-own.ensures.kept.params c.in_ok-others.ensures.kept.params) in
    rw c.as_slice-2.ensures.value
    (pieces_within g c.in_ok-params.params c.in_ok-others.others.items (aligned_pieces c.in_ok-params.params b) c.in_ok-others.ensures.sound
    c.in_ok-others.ensures.exact
    (aligned_small g c.in_ok-params.params b c.in_ok-others.ensures.kept c.requires.other there (unsigned_abs (limit_of g))
    c.requires.other))

pub left_over-requires-clause-plain : goal.left_over-requires-clause-plain
left_over-requires-clause-plain c =
    let a = c.args.value.now in
    let g = c.args.meter.now in
    let names = c.in_ok-params.ensures.joined ∙ ap₂ joined c.params.ensures.content c.params-2.ensures.content in
    let there = subst (λ (l : List Name). All (Contains l) a.params) (sym names) (first_in a.params c.args.context.now.params) in
    rw c.as_slice.ensures.value
    (own_plain g c.in_ok-params.params a c.in_ok-own.own.items c.in_ok-own.ensures.kept c.requires.own there c.in_ok-own.ensures.exact
    c.requires.plain)

pub left_over-requires-clause-others_plain : goal.left_over-requires-clause-others_plain
left_over-requires-clause-others_plain c =
    let a = c.args.value.now in
    let b = c.args.context.now in
    let g = c.args.meter.now in
    let names = c.in_ok-params.ensures.joined ∙ ap₂ joined c.params.ensures.content c.params-2.ensures.content in
    let there = subst (λ (l : List Name). All (Contains l) b.params) (sym names) (second_in a.params b.params
    c.in_ok-own.ensures.kept.params c.in_ok-others.ensures.kept.params) in
    rw c.as_slice-2.ensures.value
    (own_plain g c.in_ok-params.params b c.in_ok-others.others.items c.in_ok-others.ensures.kept c.requires.other there
    c.in_ok-others.ensures.exact c.requires.context_plain)

pub returns-clause-kept : goal.returns-clause-kept
returns-clause-kept c =
    subst IsKeptValue (sym c.from_normal.ensures)
    (IsKeptValue-from_pieces c.in_ok-params.params c.in_ok-left.left.items c.in_ok-params.ensures.well_formed
    c.in_ok-left.ensures.exact.sound)

pub returns-clause-exact : goal.returns-clause-exact
returns-clause-exact c =
    let a = c.args.value.now in
    let b = c.args.context.now in
    let names = c.in_ok-params.ensures.joined ∙ ap₂ joined c.params.ensures.content c.params-2.ensures.content in
    let over = rw (c.as_slice.ensures.value, c.as_slice-2.ensures.value) at c.in_ok-left.ensures.exact in
    gist_is a b c.in_ok-params.params c.in_ok-own.own.items c.in_ok-others.others.items c.in_ok-left.left.items c.from_normal.result names
    c.in_ok-own.ensures.exact c.in_ok-others.ensures.exact over c.from_normal.ensures

pub returns-clause-elements : goal.returns-clause-elements
returns-clause-elements c v e has =
    let a = c.args.value.now in
    let b = c.args.context.now in
    let g = c.args.meter.now in
    let names = c.in_ok-params.ensures.joined ∙ ap₂ joined c.params.ensures.content c.params-2.ensures.content in
    let there = subst (λ (l : List Name). All (Contains l) a.params) (sym names) (first_in a.params b.params) in
    let also = subst (λ (l : List Name). All (Contains l) b.params) (sym names) (second_in a.params b.params
    c.in_ok-own.ensures.kept.params c.in_ok-others.ensures.kept.params) in
    let over = rw (c.as_slice.ensures.value, c.as_slice-2.ensures.value) at c.in_ok-left.ensures.exact in
    gist_has a b c.in_ok-params.params c.in_ok-own.own.items c.in_ok-others.others.items c.in_ok-left.left.items c.from_normal.result names
    c.in_ok-own.ensures.exact c.in_ok-others.ensures.exact over c.from_normal.ensures g c.in_ok-own.ensures.kept c.requires.own there
    c.in_ok-others.ensures.kept c.requires.other also v e has

pub returns-clause-numbers : goal.returns-clause-numbers
returns-clause-numbers c most h =
    let a = c.args.value.now in
    let b = c.args.context.now in
    let names = c.in_ok-params.ensures.joined ∙ ap₂ joined c.params.ensures.content c.params-2.ensures.content in
    let there = subst (λ (l : List Name). All (Contains l) a.params) (sym names) (first_in a.params b.params) in
    let over = rw (c.as_slice.ensures.value, c.as_slice-2.ensures.value) at c.in_ok-left.ensures.exact in
    gist_small a b c.in_ok-params.params c.in_ok-own.own.items c.in_ok-others.others.items c.in_ok-left.left.items c.from_normal.result
    names
    c.in_ok-own.ensures.exact c.in_ok-others.ensures.exact over c.from_normal.ensures c.args.meter.now c.in_ok-own.ensures.kept
    c.requires.own there most h

pub returns-clause-definitions : goal.returns-clause-definitions
returns-clause-definitions c =
    let a = c.args.value.now in
    let b = c.args.context.now in
    let names = c.in_ok-params.ensures.joined ∙ ap₂ joined c.params.ensures.content c.params-2.ensures.content in
    let over = rw (c.as_slice.ensures.value, c.as_slice-2.ensures.value) at c.in_ok-left.ensures.exact in
    gist_plain a b c.in_ok-params.params c.in_ok-own.own.items c.in_ok-others.others.items c.in_ok-left.left.items c.from_normal.result
    names
    c.in_ok-own.ensures.exact c.in_ok-others.ensures.exact over c.from_normal.ensures

pub returns-clause-units : goal.returns-clause-units
returns-clause-units c =
    let names = c.in_ok-params.ensures.joined ∙ ap₂ joined c.params.ensures.content c.params-2.ensures.content in (
      subst (λ (l : List Name). length l ≤ most_parameters) names c.in_ok-params.ensures.well_formed.few,
      c.in_ok-left.ensures.meter,
    )
