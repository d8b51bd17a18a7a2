use Rattle.std.proofs.Common.{arith, ◌<◌, length}
use Rattle.std.proofs.lemmas.Grind.{common_steps}
use Rattle.isl_union.proofs.PieceLaws.{copied_more, copied_all}
use Rattle.isl_union.proofs.value.Value.copy.Goals as goal

pub loop-piece-preserved : goal.loop-piece-preserved
loop-piece-preserved c =
    let pieces = c.self.inside.pieces.items in
    let i = c.loop-piece.piece-index in
    let low : i < length pieces = grind (arith, common_steps) in
    copied_more c.self.inside.params pieces _ _ i c.piece-item.result c.in_ok-copy.field-0 low (grind (
      arith,
      common_steps,
    )) c.in_ok-copy.ensures c.in_ok-push.ensures.items c.self.invariant.1
    c.loop-piece.invariant

pub returns : goal.returns
returns c = copied_all c.self.inside.pieces.items c.loop-piece.pieces.items c.loop-piece.piece-index c.self.inside.params
    c.in_ok-copy-2.field-0 c.args.self.now c.in_ok-copy-2.ensures c.self.view_is (grind (arith, common_steps)) c.loop-piece.invariant.0
