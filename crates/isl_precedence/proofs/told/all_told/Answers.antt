use Rattle.std.proofs.Common.{◌≡◌, ◌<◌, ◌≤◌, ◌∷◌, ◌++◌, [], arith, length}
use Rattle.std.proofs.lemmas.Grind.{common_steps}
use Rattle.isl_precedence.proofs.ToldLaws.{told_all, told_more}
use Rattle.isl_precedence.proofs.told.all_told.Goals as goal

pub loop-piece-preserved : goal.loop-piece-preserved
loop-piece-preserved c =
    let low : c.loop-piece.piece-index < length c.args.pieces.now = grind (arith, common_steps) in
    told_more c.args.meter.now c.args.pieces.now c.loop-piece.piece-index c.piece-item.result c.in_ok-told.field-0 c.loop-piece.made.items
    c.push.new.self.items low c.piece-item.is (grind (arith, common_steps)) c.in_ok-told.ensures c.loop-piece.invariant

pub returns : goal.returns
returns c =
    let end : length c.args.pieces.now ≤ c.loop-piece.piece-index = grind (arith, common_steps) in
    told_all c.args.meter.now c.args.pieces.now c.loop-piece.piece-index c.loop-piece.made.items end c.loop-piece.invariant
