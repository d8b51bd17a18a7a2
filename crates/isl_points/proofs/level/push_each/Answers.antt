use Rattle.std.proofs.Common.{◌≡◌, ◌++◌, ◌∷◌, ◌<◌, [], ℤ, length, get_or, arith}
use Rattle.std.proofs.lemmas.Grind.{common_steps}
use Rattle.std.proofs.lemmas.List.{get_or_default}
use Rattle.isl_points.proofs.RowLaws.{pushed_more}
use Rattle.isl_points.proofs.level.push_each.Goals as goal

pub loop-x-preserved : goal.loop-x-preserved
loop-x-preserved c =
    let numbers = c.args.numbers.now in
    let prefix = c.args.prefix.now in
    let i = c.loop-x.x-index in
    let old = c.loop-x.longer.items in
    let new = c.push.new.self.items in
    let x : ℤ = get_or numbers i c.get.result in
    let low : i < length numbers = grind (arith, common_steps) in
    let same : new ≡ (old ++ prefix) ++ x ∷ [] = grind (arith, common_steps) in
    pushed_more c.args.longer.now.items old new prefix numbers i x low (get_or_default numbers i c.get.result x low) c.loop-x.invariant same
