use Rattle.std.proofs.Common.{sym, ap, ◌∙◌}
use Rattle.isl_token.specs.Reading.{name}
use Rattle.isl_token.proofs.MarkLaws.{name_empty}
use Rattle.isl_token.proofs.Pieces.{no_marks}
use Rattle.isl_token.proofs.marks.Rest.word.Goals as goal

pub returns-in-empty : goal.returns-in-empty
returns-in-empty c = ap name (sym c.self.view_is ∙ no_marks c.self.inside.text.now c.self.inside.marks.now c.in-empty.len_below)
    ∙ name_empty
