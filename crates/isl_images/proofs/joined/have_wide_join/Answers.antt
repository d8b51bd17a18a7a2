use Rattle.std.proofs.Common.{arith, sym, ◌∙◌, ◌<◌, ◌≤◌, length}
use Rattle.std.specs.List.{Any}
use Rattle.std.proofs.lemmas.Bool.{false≢true}
use Rattle.isl_piece.specs.Piece.{PieceView}
use Rattle.isl_images.specs.Pairing.{IsWideJoin}
use Rattle.isl_relation.proofs.SeekLaws.{none_all, none_more}
use Rattle.isl_images.proofs.joined.have_wide_join.Goals as goal

pub loop-piece-preserved : goal.loop-piece-preserved
loop-piece-preserved c =
    let pieces = c.args.pieces.now in
    let others = c.args.others.now in
    let i = c.loop-piece.piece-index in
    let piece = c.piece-item.result in
    let low : i < length pieces = omega arith in
    none_more (λ (p : PieceView). Any (λ (q : PieceView). IsWideJoin p.space q.space) others) pieces i piece low c.piece-item.is
    c.loop-piece.invariant (λ wide. false≢true (sym c.if-branch.false ∙ c.in_ok-has_wide_join.ensures.1 wide))

pub returns : goal.returns
returns c =
    let pieces = c.args.pieces.now in
    let others = c.args.others.now in
    let end : length pieces ≤ c.loop-piece.piece-index = omega arith in
    none_all (λ (p : PieceView). Any (λ (q : PieceView). IsWideJoin p.space q.space) others) pieces c.loop-piece.piece-index end
    c.loop-piece.invariant
