use Rattle.std.proofs.Common.{sym, ◌∙◌}
use Rattle.std.specs.List.{Any}
use Rattle.std.proofs.lemmas.Bool.{false≢true}
use Rattle.isl_piece.specs.Piece.{PieceView}
use Rattle.isl_relation.proofs.SeekLaws.{none_all, none_more}
use Rattle.isl_orders.specs.Comparison.{IsWide}
use Rattle.isl_orders.proofs.wide.have_wide.Goals as goal

pub loop-piece-preserved : goal.loop-piece-preserved
loop-piece-preserved c =
    none_more (λ (p : PieceView). Any (λ (q : PieceView). IsWide c.args.operands p.space q.space) c.args.others.now) c.args.pieces.now
    c.loop-piece.piece-index c.piece-item.result c.loop-piece-test.true c.piece-item.is c.loop-piece.invariant
    (λ wide. false≢true (sym c.if-branch.false ∙ c.in_ok-has_wide.ensures.1 wide))

pub returns : goal.returns
returns c =
    none_all (λ (p : PieceView). Any (λ (q : PieceView). IsWide c.args.operands p.space q.space) c.args.others.now) c.args.pieces.now
    c.loop-piece.piece-index c.loop-piece-test.false c.loop-piece.invariant
