use Rattle.std.proofs.Common.{◌∙◌, ap, sym, Some, rules, take}
use Rattle.isl_token.specs.Lex.{cut}
use Rattle.isl_token.proofs.MarkLaws.{not_number, digits_there, no_digits_there}
use Rattle.isl_token.proofs.marks.digits_at.Goals as goal

pub returns-in-Number-default : goal.returns-in-Number-default
returns-in-Number-default c = λ after.
    let is = c.cut.ensures.value ∙ ap cut c.split_at.ensures.back in
    let text = c.split_at-in-Number-default.ensures.front ∙ ap (take c.cut.result.1) c.split_at.ensures.back in
    digits_there c.args.text.now c.args.mark.now.place c.args.mark.now.kind c.requires c.cut.result.0 c.cut.result.1 is
    c.in-Number-default.is-0 after ∙ ap (λ d. Some (d, after)) (sym text)

pub returns-in_default-cut : goal.returns-in_default-cut
returns-in_default-cut c = λ after.
    let is = c.cut.ensures.value ∙ ap cut c.split_at.ensures.back in
    no_digits_there c.args.text.now c.args.mark.now.place c.args.mark.now.kind c.requires c.cut.result.0 c.cut.result.1 is
    (search rules) after

pub returns-in_default : goal.returns-in_default
returns-in_default c = not_number c.args.text.now c.args.mark.now.place c.args.mark.now.kind c.requires c.in_default.not-Number
