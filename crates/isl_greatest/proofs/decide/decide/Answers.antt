use Rattle.std.proofs.Common.{◌≡◌, ◌∙◌, refl, sym, ap, subst, arith}
use Rattle.std.proofs.lemmas.Bool.{false≢true}
use Rattle.std.proofs.lemmas.Grind.{common_steps}
use Rattle.isl_meter.specs.Gauge.{Gauge}
use Rattle.isl_piece.specs.System.{free_columns}
use Rattle.isl_piece.proofs.FormedLaws.{system_within_kept}
use Rattle.isl_greatest.proofs.DecideLaws.{decided_both, decided_no, decided_yes}
use Rattle.isl_greatest.proofs.decide.decide.Goals as goal

pub is_empty-requires : goal.is_empty-requires
is_empty-requires c =
    let g = c.args.meter.now in
    let opposite = c.in_ok-negated.ensures.negation in
    record {
      well_formed = system_within_kept c.negation.new.meter g c.in_ok-outside.outside (grind (arith, common_steps))
          (c.in_ok-outside.ensures.within g c.requires.context.within opposite.within);
    }

pub is_empty-requires-2 : goal.is_empty-requires-2
is_empty-requires-2 c =
    let g = c.args.meter.now in
    record {
      well_formed = system_within_kept c.is_empty.new.meter g c.in_ok-inside.inside (grind (arith, common_steps))
          (c.in_ok-inside.ensures.within g c.requires.context.within c.requires.question.within);
    }

pub returns-then-branch-clause-decision : goal.returns-then-branch-clause-decision
returns-then-branch-clause-decision c =
    let g = c.args.meter.now in
    let n = free_columns c.args.context.now in
    let opposite = c.in_ok-negated.ensures.negation in
    decided_yes g n c.args.context.now c.args.question.now c.in_ok-negated.negated c.requires.context c.requires.question opposite c.in_ok-outside.outside
    (λ v long. c.in_ok-outside.ensures.points g v c.requires.context.within opposite.within long)
    (c.in_ok-outside.ensures.free g c.requires.context.within opposite.within) (c.in_ok-is_empty.ensures.exact.0 c.if-branch.true)

pub returns-then-branch-2-clause-decision : goal.returns-then-branch-2-clause-decision
returns-then-branch-2-clause-decision c =
    let g = c.args.meter.now in
    let n = free_columns c.args.context.now in
    let opposite = c.in_ok-negated.ensures.negation in
    decided_no g n c.args.context.now c.args.question.now c.in_ok-negated.negated c.requires.context c.requires.question opposite c.in_ok-inside.inside
    (λ v long. c.in_ok-inside.ensures.points g v c.requires.context.within c.requires.question.within long)
    (c.in_ok-inside.ensures.free g c.requires.context.within c.requires.question.within) (c.in_ok-is_empty-2.ensures.exact.0 c.if-branch-2.true)

pub returns-clause-decision : goal.returns-clause-decision
returns-clause-decision c =
    let g = c.args.meter.now in
    let n = free_columns c.args.context.now in
    let opposite = c.in_ok-negated.ensures.negation in
    decided_both g n c.args.context.now c.args.question.now c.in_ok-negated.negated c.requires.context c.requires.question opposite c.in_ok-inside.inside
    c.in_ok-outside.outside (λ v long. c.in_ok-inside.ensures.points g v c.requires.context.within c.requires.question.within long)
    (λ v long. c.in_ok-outside.ensures.points g v c.requires.context.within opposite.within long)
    (c.in_ok-inside.ensures.within g c.requires.context.within c.requires.question.within)
    (c.in_ok-outside.ensures.within g c.requires.context.within opposite.within)
    (c.in_ok-inside.ensures.free g c.requires.context.within c.requires.question.within)
    (c.in_ok-outside.ensures.free g c.requires.context.within opposite.within)
    (λ nowhere. false≢true (sym c.if-branch-2.false ∙ c.in_ok-is_empty-2.ensures.exact.1 nowhere))
    (λ nowhere. false≢true (sym c.if-branch.false ∙ c.in_ok-is_empty.ensures.exact.1 nowhere))
