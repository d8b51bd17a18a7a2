use Rattle.std.proofs.Common.{◌∙◌, ap, sym, List, ℤ, length}
use Rattle.isl_points.proofs.FlatLaws.{length-points_in}
use Rattle.isl_points.proofs.list.Points.len.Goals as goal

pub returns : goal.returns
returns c =
    sym (length-points_in c.self.inside.width c.self.inside.count c.self.inside.numbers.items)
    ∙ ap (λ (ps : List (List ℤ)). length ps) c.self.view_is
