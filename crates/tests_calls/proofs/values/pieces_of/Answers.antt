use Rattle.std.proofs.Common.{All, IfSome, List, Option, subst, sym}
use Rattle.std.proofs.lemmas.List.Elements.{All-push}
use Rattle.isl_piece.specs.Piece.{PieceView}
use Rattle.isl_union.specs.Piece.{IsPieceOver}
use Rattle.tests_calls.proofs.values.pieces_of.Goals as goal

pub loop-written-preserved : goal.loop-written-preserved
loop-written-preserved c =
    let params = c.args.params.now in
    let over = IsPieceOver c.args.meter.now params in
    let one : over c.in-Some-2.piece =
    subst (λ (o : Option PieceView). IfSome o over) c.in-Some-2.is c.in_ok-piece.ensures in
    let more = All-push over c.loop-written.pieces.items c.in-Some-2.piece c.loop-written.invariant one in
    subst (λ (ps : List PieceView). All over ps) (sym {A = List PieceView} c.in_ok-push.ensures.items) more
