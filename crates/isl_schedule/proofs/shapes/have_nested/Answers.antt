use Rattle.std.proofs.Common.{◌≡◌, ◌<◌, ◌≤◌, true, false, arith, length}
use Rattle.std.proofs.lemmas.Grind.{common_steps}
use Rattle.isl_piece.specs.Piece.{PieceView}
use Rattle.isl_difference.proofs.BoundLaws.{none_at_first, none_found, not_so, one_found, one_none}
use Rattle.isl_schedule.specs.Schedule.{domain_form, IsPair}
use Rattle.isl_schedule.proofs.shapes.have_nested.Goals as goal

abbrev P : PieceView → Type 0
P piece = IsPair (domain_form piece.space)

pub loop-piece-init : goal.loop-piece-init
loop-piece-init c = none_at_first P c.args.pieces.now

pub loop-piece-preserved : goal.loop-piece-preserved
loop-piece-preserved c =
    let i = c.loop-piece.piece-index in
    let x = c.piece-item.result in
    let low : i < length c.args.pieces.now = grind (arith, common_steps) in
    let no_pair : c.is_nested.result ≡ false = grind (arith, common_steps) in
    one_none P c.args.pieces.now i x low c.piece-item.is
    (not_so (P x) c.is_nested.result no_pair (rw c.space.ensures at c.is_nested.ensures)) c.loop-piece.invariant

pub returns : goal.returns
returns c =
    let end : length c.args.pieces.now ≤ c.loop-piece.piece-index = grind (arith, common_steps) in
    none_found P c.args.pieces.now c.loop-piece.piece-index end c.loop-piece.invariant

pub returns-then-is_nested : goal.returns-then-is_nested
returns-then-is_nested c =
    let i = c.loop-piece.piece-index in
    let x = c.piece-item.result in
    let low : i < length c.args.pieces.now = grind (arith, common_steps) in
    let pair : c.is_nested.result ≡ true = grind (arith, common_steps) in
    let told = rw c.space.ensures at c.is_nested.ensures in
    one_found P c.args.pieces.now i x low c.piece-item.is (told.0 pair)
