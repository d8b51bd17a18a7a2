use Rattle.std.proofs.Common.{sym, ap, ◌∙◌}
use Rattle.isl_token.specs.Reading.{digits}
use Rattle.isl_token.proofs.MarkLaws.{digits_empty}
use Rattle.isl_token.proofs.Pieces.{no_marks}
use Rattle.isl_token.proofs.marks.Rest.digits.Goals as goal

pub returns-in-empty : goal.returns-in-empty
returns-in-empty c = ap digits (sym c.self.view_is ∙ no_marks c.self.inside.text.now c.self.inside.marks.now c.in-empty.len_below)
    ∙ digits_empty
