use Rattle.std.proofs.Common.{◌≡◌, ◌<◌, ◌≤◌, true, false, arith, length}
use Rattle.std.proofs.lemmas.Grind.{common_steps}
use Rattle.isl_piece.specs.Piece.{PieceView}
use Rattle.isl_difference.proofs.BoundLaws.{all_found, not_so, one_all, one_missed}
use Rattle.isl_space.specs.Shape.{form_of}
use Rattle.isl_schedule.specs.Schedule.{time_form}
use Rattle.isl_schedule.proofs.shapes.have_time.Goals as goal

pub loop-piece-preserved : goal.loop-piece-preserved
loop-piece-preserved c =
    let P : PieceView → Type 0 = λ (piece : PieceView). time_form piece.space ≡ form_of c.args.time.now in
    let i = c.loop-piece.piece-index in
    let x = c.piece-item.result in
    let low : i < length c.args.pieces.now = grind (arith, common_steps) in
    let same : c.has_time.result ≡ true = grind (arith, common_steps) in
    let told = rw c.space.ensures at c.has_time.ensures in
    one_all P c.args.pieces.now i x low c.piece-item.is (told.0 same) c.loop-piece.invariant

pub returns : goal.returns
returns c =
    let end : length c.args.pieces.now ≤ c.loop-piece.piece-index = grind (arith, common_steps) in
    all_found (λ (piece : PieceView). time_form piece.space ≡ form_of c.args.time.now) c.args.pieces.now c.loop-piece.piece-index end
    c.loop-piece.invariant

pub returns-then-not-has_time : goal.returns-then-not-has_time
returns-then-not-has_time c =
    let P : PieceView → Type 0 = λ (piece : PieceView). time_form piece.space ≡ form_of c.args.time.now in
    let i = c.loop-piece.piece-index in
    let x = c.piece-item.result in
    let low : i < length c.args.pieces.now = grind (arith, common_steps) in
    let differs : c.has_time.result ≡ false = grind (arith, common_steps) in
    one_missed P c.args.pieces.now i x low c.piece-item.is
    (not_so (P x) c.has_time.result differs (rw c.space.ensures at c.has_time.ensures))
