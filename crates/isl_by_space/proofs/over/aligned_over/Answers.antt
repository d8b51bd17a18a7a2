use Rattle.std.proofs.Common.{◌≡◌, All, map}
use Rattle.isl_union.specs.Minus.{ArePiecesOver}
use Rattle.isl_union.specs.Moved.{aligned_pieces}
use Rattle.isl_union.specs.Piece.{kept_piece, IsPieceOf}
use Rattle.isl_union.proofs.PairLaws.{over_made}
use Rattle.isl_by_space.proofs.ResultLaws.{ok_case, ok_has}
use Rattle.isl_by_space.proofs.over.aligned_over.Goals as goal

pub returns : goal.returns
returns c =
    let g = c.args.meter.now in
    let all = c.args.all.now in
    let value = c.args.value.now in
    let r = c.aligned_pieces.result in
    let told = c.aligned_pieces.ensures in
    ok_case r (λ pieces. ArePiecesOver g all value pieces.items) (λ pieces is.
    over_made g all value pieces.items told.kept c.requires.within c.requires.among
    (ok_has r pieces (λ p. map kept_piece p.items ≡ aligned_pieces all value) is told.exact)
    (ok_has r pieces (λ p. All (IsPieceOf all) p.items) is told.sound))
