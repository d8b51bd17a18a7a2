use Rattle.std.proofs.Common.{sym, ap₂, ◌∙◌, subst, ◌≤◌, length, List}
use Rattle.std.specs.List.{All, Contains}
use Rattle.isl_space.specs.Limits.{most_parameters}
use Rattle.isl_space.specs.Name.{Name}
use Rattle.isl_space.specs.Names.{IsParameterList, joined}
use Rattle.std.proofs.lemmas.List.{length-map}
use Rattle.isl_union.specs.Piece.{kept_piece}
use Rattle.isl_union.proofs.CountLaws.{length_mapped}
use Rattle.isl_union.proofs.PairLaws.{pair_made}
use Rattle.isl_union.proofs.ValueLaws.{first_in, second_in}
use Rattle.isl_union.proofs.pair.aligned_pair.Goals as goal

pub aligned_pieces-requires-clause-among : goal.aligned_pieces-requires-clause-among
aligned_pieces-requires-clause-among c =
    let a = c.args.value.now.params in
    let b = c.args.other.now.params in
    let names = c.in_ok-params.ensures.joined ∙ ap₂ joined c.params.ensures.content c.params-2.ensures.content in
    subst (λ (l : List Name). All (Contains l) a) (sym names) (first_in a b)

pub aligned_pieces-requires-2-clause-among : goal.aligned_pieces-requires-2-clause-among
aligned_pieces-requires-2-clause-among c =
    let a = c.args.value.now.params in
    let b = c.args.other.now.params in
    let names = c.in_ok-params.ensures.joined ∙ ap₂ joined c.params.ensures.content c.params-2.ensures.content in
    let first = subst IsParameterList c.params.ensures.content c.params.ensures.well_formed in
    let second = subst IsParameterList c.params-2.ensures.content c.params-2.ensures.well_formed in
    subst (λ (l : List Name). All (Contains l) b) (sym names) (second_in a b first second)

pub returns-clause-exact : goal.returns-clause-exact
returns-clause-exact c =
    let names = c.in_ok-params.ensures.joined ∙ ap₂ joined c.params.ensures.content c.params-2.ensures.content in
    pair_made c.args.meter.now c.args.value.now c.args.other.now c.in_ok-params.params c.in_ok-own.own.items c.in_ok-others.others.items
    names c.in_ok-params.ensures.well_formed c.in_ok-own.ensures.kept c.in_ok-others.ensures.kept c.requires.own c.requires.other
    c.in_ok-own.ensures.exact c.in_ok-own.ensures.sound c.in_ok-others.ensures.exact c.in_ok-others.ensures.sound

pub returns-clause-count : goal.returns-clause-count
returns-clause-count c =
    sym (length-map c.in_ok-own.own.items kept_piece) ∙ length_mapped _ c.args.value.now.pieces _ c.in_ok-own.ensures.exact

pub returns-clause-faults : goal.returns-clause-faults
returns-clause-faults c =
    let names = c.in_ok-params.ensures.joined ∙ ap₂ joined c.params.ensures.content c.params-2.ensures.content in
    subst (λ (l : List Name). length l ≤ most_parameters) names c.in_ok-params.ensures.well_formed.few
