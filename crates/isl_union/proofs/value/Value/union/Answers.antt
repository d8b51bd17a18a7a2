use Rattle.std.proofs.Common.{sym, ap₂, ◌∙◌, subst, List}
use Rattle.std.specs.List.{All, Contains}
use Rattle.isl_space.specs.Name.{Name}
use Rattle.isl_space.specs.Names.{IsParameterList, joined}
use Rattle.isl_union.specs.KeptValue.{IsKeptValue}
use Rattle.isl_union.proofs.PieceLaws.{IsKeptValue-from_pieces}
use Rattle.isl_union.proofs.ValueLaws.{first_in, second_in, union_is, union_has, union_plain, union_small, union_same}
use Rattle.isl_union.proofs.TameLaws.{union_sized}
use Rattle.isl_union.proofs.value.Value.union.Goals as goal

pub aligned_pieces-requires-clause-among : goal.aligned_pieces-requires-clause-among
aligned_pieces-requires-clause-among c =
    let a = c.args.self.now.params in
    let b = c.args.other.now.params in
    let names = c.in_ok-params.ensures.joined ∙ ap₂ joined c.params.ensures.content c.params-2.ensures.content in
    subst (λ (l : List Name). All (Contains l) a) (sym names) (first_in a b)

pub aligned_pieces-requires-2-clause-among : goal.aligned_pieces-requires-2-clause-among
aligned_pieces-requires-2-clause-among c =
    let a = c.args.self.now.params in
    let b = c.args.other.now.params in
    let names = c.in_ok-params.ensures.joined ∙ ap₂ joined c.params.ensures.content c.params-2.ensures.content in
    let first = subst IsParameterList c.params.ensures.content c.params.ensures.well_formed in
    let second = subst IsParameterList c.params-2.ensures.content c.params-2.ensures.well_formed in
    subst (λ (l : List Name). All (Contains l) b) (sym names) (second_in a b first second)

pub from_normal-requires-clause-pieces : goal.from_normal-requires-clause-pieces
from_normal-requires-clause-pieces c =
    c.in_ok-pieces.ensures.sound c.in_ok-params.params c.in_ok-own.ensures.sound c.in_ok-others.ensures.sound

pub returns-clause-written : goal.returns-clause-written
returns-clause-written c =
    let names = c.in_ok-params.ensures.joined ∙ ap₂ joined c.params.ensures.content c.params-2.ensures.content in
    union_is c.args.self.now c.args.other.now c.in_ok-own.ensures.kept c.in_ok-others.ensures.kept c.in_ok-params.params
    c.in_ok-own.own.items c.in_ok-others.others.items
    c.in_ok-pieces.pieces.items c.from_normal.result names c.in_ok-own.ensures.exact c.in_ok-others.ensures.exact
    c.in_ok-pieces.ensures.both c.from_normal.ensures

pub returns-clause-kept : goal.returns-clause-kept
returns-clause-kept c =
    subst IsKeptValue (sym c.from_normal.ensures)
    (IsKeptValue-from_pieces c.in_ok-params.params c.in_ok-pieces.pieces.items c.in_ok-params.ensures.well_formed
    (c.in_ok-pieces.ensures.sound c.in_ok-params.params c.in_ok-own.ensures.sound c.in_ok-others.ensures.sound))

pub returns-clause-same_params : goal.returns-clause-same_params
returns-clause-same_params c same =
    union_same c.args.self.now c.args.other.now c.in_ok-own.ensures.kept c.in_ok-others.ensures.kept c.from_normal.result
    (returns-clause-written c) same

pub returns-clause-elements : goal.returns-clause-elements
returns-clause-elements c v e =
    union_has c.args.self.now c.args.other.now c.in_ok-own.ensures.kept
    c.in_ok-others.ensures.kept c.args.meter.now c.requires.own c.requires.other c.from_normal.result (returns-clause-written c) v e

pub returns-clause-numbers : goal.returns-clause-numbers
returns-clause-numbers c b h k =
    union_small c.args.self.now c.args.other.now c.in_ok-own.ensures.kept
    c.in_ok-others.ensures.kept c.args.meter.now c.requires.own c.requires.other c.from_normal.result (returns-clause-written c) b h k

pub returns-clause-definitions : goal.returns-clause-definitions
returns-clause-definitions c h k =
    union_plain c.args.self.now c.args.other.now c.in_ok-own.ensures.kept
    c.in_ok-others.ensures.kept c.args.meter.now c.requires.own c.requires.other c.from_normal.result (returns-clause-written c) h k

pub returns-clause-sizes : goal.returns-clause-sizes
returns-clause-sizes c own others columns bits sizes =
    union_sized c.args.meter.now c.args.self.now c.args.other.now c.from_normal.result c.in_ok-own.ensures.kept c.in_ok-others.ensures.kept
    c.requires.own c.requires.other (returns-clause-written c) own others columns bits sizes
