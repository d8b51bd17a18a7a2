use Rattle.std.proofs.Common.{◌≡◌, ◌∙◌, ◌*◌, ap, arith, sym, List, ℤ, ℕ, length}
use Rattle.std.proofs.lemmas.Grind.{common_steps}
use Rattle.isl_points.specs.Flat.{laid_out, points_in}
use Rattle.isl_points.proofs.FlatLaws.{all-points_in, length-laid_out, length-points_in}
use Rattle.isl_points.proofs.list.Points.size.Goals as goal

pub returns : goal.returns
returns c =
    let width = c.self.inside.width in
    let count = c.self.inside.count in
    let numbers = c.self.inside.numbers.items in
    let points = points_in width count numbers in
    let laid = length-laid_out width points (all-points_in width count numbers c.self.invariant) in
    let size : length numbers ≡ length (laid_out points)
    = c.self.invariant ∙ ap (λ (n : ℕ). n * width) (sym (length-points_in width count numbers)) ∙ sym laid in
    let own : c.len.result ≡ length numbers = grind (arith, common_steps) in
    own ∙ size ∙ ap (λ (ps : List (List ℤ)). length (laid_out ps)) c.self.view_is
