use Rattle.std.proofs.Common.{sym, ap, ◌∙◌, take, map}
use Rattle.std.proofs.lemmas.List.{take-map}
use Rattle.isl_token.specs.TokenView.{Token}
use Rattle.isl_token.specs.declared.marks.Mark.{Mark}
use Rattle.isl_token.specs.Lex.{token_at}
use Rattle.isl_token.proofs.marks.Rest.first.Goals as goal

pub returns : goal.returns
returns c =
    let there : Mark → Token = λ m. token_at c.self.inside.text.now m.place in
    ap (map there) c.split_at.ensures.front ∙ sym (take-map there c.args.count c.self.inside.marks.now) ∙ ap
    (take c.args.count) c.self.view_is
