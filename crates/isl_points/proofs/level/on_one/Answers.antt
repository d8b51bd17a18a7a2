use Rattle.std.proofs.Common.{◌≡◌, ◌+◌, ◌∷◌, [], arith}
use Rattle.std.proofs.lemmas.Grind.{common_steps}
use Rattle.isl_piece.specs.System.{HoldRows}
use Rattle.isl_points.proofs.PrefixLaws.{one_listing}
use Rattle.isl_points.proofs.level.on_one.Goals as goal

pub returns : goal.returns
returns c =
    let g = c.args.meter.now in
    let h = c.unit.new.self in
    let one : c.push.new.self.items ≡ c.args.x ∷ [] = grind (arith, common_steps) in
    let used : h ≡ record g { units = g.units + 1 } = grind arith in
    one_listing g h (λ z. HoldRows c.args.rows.items (z ∷ [])) c.args.x c.push.new.self.items one used c.requires.within c.requires.only
