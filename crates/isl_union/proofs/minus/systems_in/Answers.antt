use Rattle.std.proofs.Common.{◌≤◌, ◌∙◌, ap, map, arith, length}
use Rattle.std.proofs.lemmas.List.{take_all}
use Rattle.isl_space.specs.Space.{space_form_of}
use Rattle.isl_piece.specs.Piece.{PieceView}
use Rattle.isl_union.proofs.IndexLaws.{systems_found, systems_step}
use Rattle.isl_union.proofs.minus.systems_in.Goals as goal

pub loop-piece-preserved : goal.loop-piece-preserved
loop-piece-preserved c =
    systems_step (λ s. s.now) c.in_ok-found.found.now c.piece-item.result c.loop-piece.piece-index c.loop-piece.systems.items
    c.push.new.self.items c.system.result c.loop-piece-test.true c.piece-item.is c.system.ensures c.in_ok-push.ensures.items
    c.loop-piece.invariant

pub returns : goal.returns
returns c =
    let found = c.in_ok-found.found.now in
    let end : length found ≤ c.loop-piece.piece-index = omega arith in
    c.loop-piece.invariant ∙ ap (map (λ (p : PieceView). p.system)) (take_all c.loop-piece.piece-index found end)
    ∙ ap (map (λ (p : PieceView). p.system)) c.in_ok-found.ensures
    ∙ systems_found (space_form_of c.args.space.now) c.args.pieces.now
