use Rattle.std.proofs.Common.{◌≡◌, ◌∙◌, ap, ap₂, arith, sym, subst, ◌<◌, length}
use Rattle.std.proofs.lemmas.List.Elements.{All-push}
use Rattle.isl_space.specs.Space.{space_form_of}
use Rattle.isl_space.specs.SpaceForm.{IsWellFormedSpace}
use Rattle.isl_piece.specs.declared.system.System.{System}
use Rattle.isl_piece.specs.System.{HoldsSystem, IsSystemWithin, free_columns}
use Rattle.isl_elim.specs.Sample.{IsNowhere}
use Rattle.isl_union.specs.KeptValue.{columns_of}
use Rattle.isl_union.specs.Live.{settled}
use Rattle.isl_union.specs.Piece.{piece_of, IsPieceOf, IsPieceOver}
use Rattle.isl_union.proofs.MeetSteps.{item_has}
use Rattle.isl_union.proofs.ValueLaws.{moved_more}
use Rattle.isl_union.proofs.live.settled_pieces.Goals as goal

pub settled_piece-requires-clause-within : goal.settled_piece-requires-clause-within
settled_piece-requires-clause-within c =
    let piece = c.piece-item.result in
    let low : c.loop-piece.piece-index < length c.args.pieces.now = omega arith in
    let over = item_has (IsPieceOver c.args.meter.now c.args.params.now) c.args.pieces.now c.loop-piece.piece-index piece low
    c.piece-item.is
    c.requires.pieces in
    subst (IsSystemWithin c.args.meter.now) (sym (c.in_ok-system.ensures ∙ c.system.ensures)) over.within

pub settled_piece-requires-clause-live : goal.settled_piece-requires-clause-live
settled_piece-requires-clause-live c =
    let piece = c.piece-item.result in
    let low : c.loop-piece.piece-index < length c.args.pieces.now = omega arith in
    subst (λ (s : System). ¬ IsNowhere (free_columns s) (HoldsSystem s)) (sym (c.in_ok-system.ensures ∙ c.system.ensures))
    (item_has (λ p. ¬ IsNowhere (free_columns p.system) (HoldsSystem p.system)) c.args.pieces.now c.loop-piece.piece-index piece low
    c.piece-item.is c.requires.live)

pub loop-piece-preserved : goal.loop-piece-preserved
loop-piece-preserved c =
    let params = c.args.params.now in
    let pieces = c.args.pieces.now in
    let i = c.loop-piece.piece-index in
    let piece = c.piece-item.result in
    let low : i < length pieces = omega arith in
    let kept = c.loop-piece.kept.items in
    let x = c.in_ok-settled_piece.field-0 in
    let over = item_has (IsPieceOver c.args.meter.now params) pieces i piece low c.piece-item.is c.requires.pieces in
    let is : c.in_ok-system.system ≡ piece.system = c.in_ok-system.ensures ∙ c.system.ensures in
    let formed = subst IsWellFormedSpace (sym c.space.ensures) over.space in
    let free : free_columns c.in_ok-system.system ≡ columns_of params (space_form_of c.space.result.now) =
    ap free_columns is ∙ over.columns ∙ ap (columns_of params) (sym c.space.ensures) in
    record {
      kept = moved_more settled pieces kept c.push.new.self.items i piece x low c.piece-item.is
          (c.in_ok-settled_piece.ensures.exact ∙ ap settled (ap₂ piece_of c.space.ensures is))
          c.in_ok-push.ensures.items c.loop-piece.invariant.kept;
      sound = rw c.in_ok-push.ensures.items (All-push (IsPieceOf params) kept x c.loop-piece.invariant.sound
          (c.in_ok-settled_piece.ensures.sound params formed free));
    }
