use Rattle.std.proofs.Common.{◌≡◌, ◌<◌, ◌≤◌, true, false, arith, length}
use Rattle.std.proofs.lemmas.Grind.{common_steps}
use Rattle.isl_piece.specs.Piece.{PieceView}
use Rattle.isl_difference.proofs.BoundLaws.{all_found, not_so, one_all, one_missed}
use Rattle.isl_calls.specs.Calls.{IsSetForm}
use Rattle.isl_calls.proofs.laid.are_sets.Goals as goal

pub loop-piece-preserved : goal.loop-piece-preserved
loop-piece-preserved c =
    let P : PieceView → Type 0 = λ (piece : PieceView). IsSetForm piece.space in
    let i = c.loop-piece.piece-index in
    let low : i < length c.args.pieces.now = grind (arith, common_steps) in
    let same : c.is_set.result ≡ true = grind (arith, common_steps) in
    let told = rw c.space.ensures at c.is_set.ensures in
    one_all P c.args.pieces.now i c.piece-item.result low c.piece-item.is (told.0 same) c.loop-piece.invariant

pub returns : goal.returns
returns c =
    let end : length c.args.pieces.now ≤ c.loop-piece.piece-index = grind (arith, common_steps) in
    all_found (λ (piece : PieceView). IsSetForm piece.space) c.args.pieces.now c.loop-piece.piece-index end c.loop-piece.invariant

pub returns-then-not-is_set : goal.returns-then-not-is_set
returns-then-not-is_set c =
    let P : PieceView → Type 0 = λ (piece : PieceView). IsSetForm piece.space in
    let i = c.loop-piece.piece-index in
    let x = c.piece-item.result in
    let low : i < length c.args.pieces.now = grind (arith, common_steps) in
    let differs : c.is_set.result ≡ false = grind (arith, common_steps) in
    one_missed P c.args.pieces.now i x low c.piece-item.is (not_so (P x) c.is_set.result differs (rw c.space.ensures at c.is_set.ensures))
