use Rattle.std.proofs.Common.{◌≡◌, ◌++◌, ◌∷◌, [], ◌<◌, ◌≤◌, arith, length}
use Rattle.std.proofs.lemmas.Grind.{common_steps}
use Rattle.isl_calls.specs.Laid.{IsOwnLaid}
use Rattle.isl_calls.proofs.ZipLaws.{zip_all, zip_more}
use Rattle.isl_calls.proofs.laid.all_own_calls.Goals as goal

pub loop-piece-preserved : goal.loop-piece-preserved
loop-piece-preserved c =
    let xs = c.args.pieces.now in
    let i = c.loop-piece.piece-index in
    let low : i < length xs = grind (arith, common_steps) in
    let pushed : c.push.new.self.items ≡ c.loop-piece.calls.items ++ c.in_ok-own_calls.field-0 ∷ [] = grind arith in
    zip_more IsOwnLaid xs i c.piece-item.result c.loop-piece.calls.items c.push.new.self.items c.in_ok-own_calls.field-0 low c.piece-item.is
    c.loop-piece.invariant c.in_ok-own_calls.ensures pushed

pub returns : goal.returns
returns c =
    let end : length c.args.pieces.now ≤ c.loop-piece.piece-index = grind (arith, common_steps) in
    zip_all IsOwnLaid c.args.pieces.now c.loop-piece.piece-index c.loop-piece.calls.items end c.loop-piece.invariant
