use Rattle.std.proofs.Common.{sym, ap, ◌∙◌, drop, map}
use Rattle.std.proofs.lemmas.List.{drop-map}
use Rattle.isl_token.specs.TokenView.{Token}
use Rattle.isl_token.specs.declared.marks.Mark.{Mark}
use Rattle.isl_token.specs.Lex.{token_at}
use Rattle.isl_token.proofs.marks.Rest.from.Goals as goal

pub returns : goal.returns
returns c =
    let there : Mark → Token = λ m. token_at c.self.inside.text.now m.place in
    ap (map there) c.split_at.ensures.back ∙ sym (drop-map there c.args.at c.self.inside.marks.now) ∙ ap (drop c.args.at) c.self.view_is
