use Rattle.std.proofs.Common.{◌∙◌, sym}
use Rattle.isl_meter.specs.Gauge.{limit_of}
use Rattle.isl_values.specs.Ends.{Ends}
use Rattle.isl_eval.specs.Evaluation.{EndsWork}
use Rattle.isl_eval.proofs.ShownLaws.{once_alike, once_coalesce, once_sample, once_sound, once_works, outcome_in}
use Rattle.isl_eval.proofs.ShownLaws.{sample_kept, together_kept, word_selects}
use Rattle.isl_eval.proofs.AskedLaws.{coalesce_word, sample_word}
use Rattle.isl_eval.proofs.kept.word_kept.Goals as goal

pub sampled-requires-clause-sound : goal.sampled-requires-clause-sound
sampled-requires-clause-sound c =
    once_sound c.args.state.now c.args.expr.now c.args.operand.now c.args.word c.requires.is
    (once_sample c.args.word (sym c.is_sample.ensures ∙ c.if-is_sample.true)) c.requires.makeable

pub returns-then-is_sample : goal.returns-then-is_sample
returns-then-is_sample c =
    let expr = c.args.expr.now in
    let operand = c.args.operand.now in
    let is = sym c.is_sample.ensures ∙ c.if-is_sample.true in
    let once = once_sample c.args.word is in
    outcome_in c.sampled.result _ _ (EndsWork c.args.state.now operand) (Ends c.args.state.now expr) _ _ c.args.meter.now
    c.sampled.new.meter (λ none. once_works c.args.state.now expr operand c.args.word c.requires.is once ∙ none)
    (once_alike c.args.state.now expr operand c.args.word c.requires.is once)
    (λ value h. sample_kept c.args.state.now expr operand c.args.word c.requires.is once (sample_word c.args.word is)
    (limit_of c.args.meter.now) value.value h) c.sampled.ensures

pub together-requires-clause-sound : goal.together-requires-clause-sound
together-requires-clause-sound c =
    once_sound c.args.state.now c.args.expr.now c.args.operand.now c.args.word c.requires.is
    (once_coalesce c.args.word (sym c.is_coalesce.ensures ∙ c.if-is_coalesce.true)) c.requires.makeable

pub returns-then-is_coalesce : goal.returns-then-is_coalesce
returns-then-is_coalesce c =
    let expr = c.args.expr.now in
    let operand = c.args.operand.now in
    let is = sym c.is_coalesce.ensures ∙ c.if-is_coalesce.true in
    let once = once_coalesce c.args.word is in
    outcome_in c.together.result _ _ (EndsWork c.args.state.now operand) (Ends c.args.state.now expr) _ _ c.args.meter.now
    c.together.new.meter (λ none. once_works c.args.state.now expr operand c.args.word c.requires.is once ∙ none)
    (once_alike c.args.state.now expr operand c.args.word c.requires.is once)
    (λ value h. together_kept c.args.state.now expr operand c.args.word c.requires.is once (coalesce_word c.args.word is)
    (limit_of c.args.meter.now) value.value h) c.together.ensures

pub selected-requires-clause-selects : goal.selected-requires-clause-selects
selected-requires-clause-selects c =
    word_selects c.args.expr.now c.args.word c.args.operand.now c.requires.is (sym c.is_sample.ensures ∙ c.if-is_sample.false)
    (sym c.is_coalesce.ensures ∙ c.if-is_coalesce.false)
