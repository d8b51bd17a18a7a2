use Rattle.std.proofs.Common.{◌∙◌, sym, ap₂, subst, List}
use Rattle.std.specs.List.{All, Contains}
use Rattle.isl_space.specs.Name.{Name}
use Rattle.isl_space.specs.Names.{IsParameterList, joined}
use Rattle.isl_union.proofs.ValueLaws.{second_in}
use Rattle.isl_precedence.proofs.OperandLaws.{first_of_three, second_of_three}
use Rattle.isl_precedence.proofs.operands.aligned.Goals as goal

pub aligned_over-requires-clause-among : goal.aligned_over-requires-clause-among
aligned_over-requires-clause-among c =
    let a = c.args.sources.now.params in
    let b = c.args.sinks.now.params in
    let t = c.args.times.now.params in
    let both = c.in_ok-both.ensures.joined ∙ ap₂ joined c.params.ensures.content c.params-2.ensures.content in
    let all = c.in_ok-params.ensures.joined ∙ ap₂ joined both c.params-3.ensures.content in
    subst (λ (l : List Name). All (Contains l) a) (sym all) (first_of_three a b t)

pub aligned_over-requires-2-clause-among : goal.aligned_over-requires-2-clause-among
aligned_over-requires-2-clause-among c =
    let a = c.args.sources.now.params in
    let b = c.args.sinks.now.params in
    let t = c.args.times.now.params in
    let both = c.in_ok-both.ensures.joined ∙ ap₂ joined c.params.ensures.content c.params-2.ensures.content in
    let all = c.in_ok-params.ensures.joined ∙ ap₂ joined both c.params-3.ensures.content in
    let first = subst IsParameterList c.params.ensures.content c.params.ensures.well_formed in
    let second = subst IsParameterList c.params-2.ensures.content c.params-2.ensures.well_formed in
    subst (λ (l : List Name). All (Contains l) b) (sym all) (second_of_three a b t first second)

pub told_over-requires-clause-among : goal.told_over-requires-clause-among
told_over-requires-clause-among c =
    let a = c.args.sources.now.params in
    let b = c.args.sinks.now.params in
    let t = c.args.times.now.params in
    let both = c.in_ok-both.ensures.joined ∙ ap₂ joined c.params.ensures.content c.params-2.ensures.content in
    let all = c.in_ok-params.ensures.joined ∙ ap₂ joined both c.params-3.ensures.content in
    let first = subst IsParameterList both c.in_ok-both.ensures.well_formed in
    let second = subst IsParameterList c.params-3.ensures.content c.params-3.ensures.well_formed in
    subst (λ (l : List Name). All (Contains l) t) (sym all) (second_in (joined a b) t first second)
