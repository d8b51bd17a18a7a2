use Rattle.std.proofs.Common.{refl}
use Rattle.std.proofs.lemmas.Bool.{not-false}
use Rattle.isl_operators.specs.Operations.{is_operation_word, WordMisses}
use Rattle.isl_union.specs.KeptValue.{Has}
use Rattle.isl_operators.specs.Formed.{FormsWide, WordForms}
use Rattle.isl_values.specs.Ends.{WordEnds}
use Rattle.isl_values.specs.Made.{refusal_of_word_fault}
use Rattle.isl_values.proofs.OutcomeLaws.{answered_made, answered_ok, outcome_value, word_fault_ends, word_goes}
use Rattle.isl_values.proofs.words.changed.Goals as goal

pub transformed-requires-clause-operation : goal.transformed-requires-clause-operation
transformed-requires-clause-operation c = not-false (is_operation_word c.args.word) c.requires.supported

pub returns-clause-made : goal.returns-clause-made
returns-clause-made c =
    let e = c.transformed.ensures in
    let operand = c.args.operand.now in
    answered_made refusal_of_word_fault _ _ (WordEnds c.args.word (Has operand)) _ _
    (word_fault_ends _ (FormsWide (WordForms c.args.word) (Has operand)) _ _ (WordMisses c.args.word (Has operand))) _
    c.transformed.result c.word_answered.result _ c.word_answered.ensures
    (outcome_value c.transformed.result _ _ _ _ _ _ refl e.written e.kept e.params e.elements (λ plain. e.definitions plain.1 plain.0) e.numbers)
    e.units

pub returns-clause-goes_on : goal.returns-clause-goes_on
returns-clause-goes_on c =
    let e = c.transformed.ensures in
    answered_ok refusal_of_word_fault _ c.transformed.result c.word_answered.result _ c.word_answered.ensures
    (word_goes c.transformed.result _ _ e.narrow e.there)
