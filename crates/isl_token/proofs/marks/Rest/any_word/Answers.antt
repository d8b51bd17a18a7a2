use Rattle.std.proofs.Common.{sym, ap, ◌∙◌}
use Rattle.isl_token.specs.AnyWord.{any_word}
use Rattle.isl_token.proofs.MarkLaws.{any_word_empty}
use Rattle.isl_token.proofs.Pieces.{no_marks}
use Rattle.isl_token.proofs.marks.Rest.any_word.Goals as goal

pub returns-in-empty : goal.returns-in-empty
returns-in-empty c = ap any_word (sym c.self.view_is ∙ no_marks c.self.inside.text.now c.self.inside.marks.now c.in-empty.len_below)
    ∙ any_word_empty
