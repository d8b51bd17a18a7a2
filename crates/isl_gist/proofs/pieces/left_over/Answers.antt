use Rattle.std.proofs.Common.{◌≡◌, ◌<◌, ◌≤◌, ◌∷◌, ◌++◌, [], sym, arith, subst, length, map, take, option_to_list, List}
use Rattle.std.proofs.lemmas.Grind.{common_steps}
use Rattle.std.proofs.lemmas.List.{take_all}
use Rattle.isl_meter.proofs.CutLemmas.{IsCharged_trans}
use Rattle.isl_piece.specs.Piece.{PieceView}
use Rattle.isl_piece.specs.System.{IsSystemWithin}
use Rattle.isl_piece.proofs.FormedLaws.{system_within_kept}
use Rattle.isl_union.specs.KeptValue.{KeptPiece}
use Rattle.isl_union.specs.Piece.{kept_piece, IsPieceOf}
use Rattle.isl_union.proofs.MeetSteps.{charged_bits, item_has, pieces_later}
use Rattle.isl_union.proofs.MinusLaws.{kept_more}
use Rattle.isl_gist.specs.Pieces.{AreLeftOver}
use Rattle.isl_gist.proofs.PieceLaws.{over_append, over_none}
use Rattle.isl_gist.proofs.pieces.left_over.Goals as goal

pub loop-piece-init : goal.loop-piece-init
loop-piece-init c = record {
  left =
      let none : c.new-left.result.items ≡ [] = grind (arith, common_steps) in
      subst (AreLeftOver c.args.params.now (map kept_piece c.args.others.now) []) (sym none)
      (over_none c.args.params.now (map kept_piece c.args.others.now));
  charged = grind (arith, common_steps);
}

pub left_of-requires-clause-piece : goal.left_of-requires-clause-piece
left_of-requires-clause-piece c =
    let low : c.loop-piece.piece-index < length c.args.pieces.now = omega arith in
    item_has (IsPieceOf c.args.params.now) c.args.pieces.now c.loop-piece.piece-index c.piece-item.result low c.piece-item.is
    c.requires.pieces

pub left_of-requires-clause-piece_within : goal.left_of-requires-clause-piece_within
left_of-requires-clause-piece_within c =
    let low : c.loop-piece.piece-index < length c.args.pieces.now = omega arith in
    system_within_kept c.loop-piece.meter c.args.meter.now c.piece-item.result.system
    (charged_bits c.args.meter.now c.loop-piece.meter c.loop-piece.invariant.charged)
    (item_has (λ p. IsSystemWithin c.args.meter.now p.system) c.args.pieces.now c.loop-piece.piece-index c.piece-item.result low
    c.piece-item.is c.requires.pieces_within)

pub left_of-requires-clause-others_within : goal.left_of-requires-clause-others_within
left_of-requires-clause-others_within c =
    pieces_later c.args.meter.now c.loop-piece.meter c.args.others.now c.loop-piece.invariant.charged c.requires.others_within

pub left_of-requires-clause-plain : goal.left_of-requires-clause-plain
left_of-requires-clause-plain c =
    let low : c.loop-piece.piece-index < length c.args.pieces.now = omega arith in
    item_has (λ p. p.system.definitions ≡ []) c.args.pieces.now c.loop-piece.piece-index c.piece-item.result low c.piece-item.is
    c.requires.plain

pub loop-piece-preserved : goal.loop-piece-preserved
loop-piece-preserved c =
    let params = c.args.params.now in
    let pieces = c.args.pieces.now in
    let others = map kept_piece c.args.others.now in
    let i = c.loop-piece.piece-index in
    let piece = c.piece-item.result in
    let low : i < length pieces = omega arith in
    let before = map kept_piece (take i pieces) in
    let left = c.loop-piece.left.items in
    let found = option_to_list c.in_ok-found.found in
    let more = over_append params others before (kept_piece piece ∷ []) left found c.loop-piece.invariant.left
    c.in_ok-found.ensures.exact in
    record {
      left = subst (λ (l : List KeptPiece). AreLeftOver params others l c.push_found.new.kept.items)
          (sym (kept_more pieces piece i low c.piece-item.is))
          (subst (λ (l : List PieceView). AreLeftOver params others (before ++ kept_piece piece ∷ []) l)
          (sym c.in_ok-push_found.ensures) more);
      charged = IsCharged_trans c.args.meter.now c.loop-piece.meter c.left_of.new.meter c.loop-piece.invariant.charged
          c.in_ok-found.ensures.meter;
    }

pub returns-clause-exact : goal.returns-clause-exact
returns-clause-exact c =
    let end : length c.args.pieces.now ≤ c.loop-piece.piece-index = omega arith in
    subst
    (λ (l : List PieceView). AreLeftOver c.args.params.now (map kept_piece c.args.others.now) (map kept_piece l) c.loop-piece.left.items)
    (take_all c.loop-piece.piece-index c.args.pieces.now end) c.loop-piece.invariant.left
