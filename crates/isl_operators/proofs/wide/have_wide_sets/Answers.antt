use Rattle.std.proofs.Common.{sym, ◌∙◌}
use Rattle.std.specs.List.{Any}
use Rattle.std.proofs.lemmas.Bool.{false≢true}
use Rattle.isl_piece.specs.Piece.{PieceView}
use Rattle.isl_relation.proofs.SeekLaws.{none_all, none_more}
use Rattle.isl_operators.specs.Pairing.{IsWideOfSets}
use Rattle.isl_operators.proofs.wide.have_wide_sets.Goals as goal

pub loop-piece-preserved : goal.loop-piece-preserved
loop-piece-preserved c =
    none_more (λ (p : PieceView). Any (λ (q : PieceView). IsWideOfSets c.args.pairing p.space q.space) c.args.others.now) c.args.pieces.now
    c.loop-piece.piece-index c.piece-item.result c.loop-piece-test.true c.piece-item.is c.loop-piece.invariant
    (λ wide. false≢true (sym c.if-branch.false ∙ c.in_ok-has_wide.ensures.1 wide))

pub returns : goal.returns
returns c =
    none_all (λ (p : PieceView). Any (λ (q : PieceView). IsWideOfSets c.args.pairing p.space q.space) c.args.others.now) c.args.pieces.now
    c.loop-piece.piece-index c.loop-piece-test.false c.loop-piece.invariant
