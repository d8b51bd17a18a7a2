use Rattle.std.proofs.Common.{◌∙◌, ap, sym, Some, take, subst, rules}
use Rattle.std.specs.Str.{IsUtf8}
use Rattle.isl_token.specs.Lex.{cut}
use Rattle.isl_token.proofs.MarkLaws.{word_there, word_utf8, no_word_there}
use Rattle.isl_token.proofs.marks.any_word_at.Goals as goal

pub returns-in-Ok : goal.returns-in-Ok
returns-in-Ok c = λ after.
    let is = c.cut.ensures.value ∙ ap cut c.split_at.ensures.back in
    let text = c.in-Ok.ensures.cases.0 ∙ c.split_at-in-Word-default.ensures.front ∙ ap (take c.cut.result.1) c.split_at.ensures.back in
    word_there c.args.text.now c.args.mark.now.place c.args.mark.now.kind c.requires c.cut.result.0 c.cut.result.1 is
    c.in-Word-default.is-0 after ∙ ap (λ w. Some (w, after)) (sym text)

pub returns-in-Err : goal.returns-in-Err
returns-in-Err c = λ after.
    let is = c.cut.ensures.value ∙ ap cut c.split_at.ensures.back in
    let text = c.split_at-in-Word-default.ensures.front ∙ ap (take c.cut.result.1) c.split_at.ensures.back in
    absurd (c.in-Err.ensures.cases.0
    (subst IsUtf8 (sym text) (word_utf8 c.args.text.now c.args.mark.now.place c.args.mark.now.kind c.requires c.cut.result.0
    c.cut.result.1 is c.in-Word-default.is-0)))

pub returns-in_default : goal.returns-in_default
returns-in_default c = λ after.
    let is = c.cut.ensures.value ∙ ap cut c.split_at.ensures.back in
    no_word_there c.args.text.now c.args.mark.now.place c.args.mark.now.kind c.requires c.cut.result.0 c.cut.result.1 is
    (search rules) after
