use Rattle.std.proofs.Common.{◌<◌, ◌≤◌, ◌++◌, ◌∷◌, [], arith, length, subst, sym}
use Rattle.isl_meter.proofs.CutLemmas.{IsCharged_trans}
use Rattle.isl_assumed.specs.Assumed.{Assumes}
use Rattle.isl_coalesce.specs.Found.{AreJoined, IsPlainPiece}
use Rattle.isl_coalesce.proofs.KnownLaws.{names_later}
use Rattle.isl_coalesce.proofs.PieceLaws.{plain_later}
use Rattle.isl_coalesce.proofs.ValueLaws.{joined_all, joined_more}
use Rattle.isl_coalesce.proofs.together.all_together.Goals as goal

pub put-requires-clause-known : goal.put-requires-clause-known
put-requires-clause-known c =
    names_later c.args.meter.now c.loop-piece.meter c.args.params.now c.args.known.now c.loop-piece.invariant.1 c.requires.known

pub of-requires : goal.of-requires
of-requires c =
    let g = c.args.meter.now in
    let h = c.loop-piece.meter in
    let params = c.args.params.now in
    let piece = c.piece-item.result in
    let here : IsPlainPiece g params piece =
    subst (IsPlainPiece g params) (sym c.piece-item.is) (c.requires.pieces c.loop-piece.piece-index piece (omega arith)) in
    (plain_later g h params piece c.loop-piece.invariant.1 here).plain

pub put-requires-clause-piece : goal.put-requires-clause-piece
put-requires-clause-piece c =
    let g = c.args.meter.now in
    let h = c.loop-piece.meter in
    let params = c.args.params.now in
    let piece = c.piece-item.result in
    let here : IsPlainPiece g params piece =
    subst (IsPlainPiece g params) (sym c.piece-item.is) (c.requires.pieces c.loop-piece.piece-index piece (omega arith)) in
    subst (IsPlainPiece h params) (sym c.in_ok-candidate.ensures) (plain_later g h params piece c.loop-piece.invariant.1 here)

pub loop-piece-preserved : goal.loop-piece-preserved
loop-piece-preserved c =
    let g = c.args.meter.now in
    let h = c.loop-piece.meter in
    let P = Assumes c.args.known.now in
    let params = c.args.params.now in
    let pieces = c.args.pieces.now in
    let i = c.loop-piece.piece-index in
    let piece = c.piece-item.result in
    let kept = c.loop-piece.kept in
    let new = c.in_ok-kept.kept in
    let low : i < length pieces = omega arith in
    let charged = c.loop-piece.invariant.1 in
    let more = subst (λ x. AreJoined h P params (kept ++ x ∷ []) new) c.in_ok-candidate.ensures c.in_ok-kept.ensures.joined in (
      joined_more g h P params pieces i piece kept new charged low c.piece-item.is c.loop-piece.invariant.0 more,
      IsCharged_trans g h c.put.new.meter charged c.in_ok-kept.ensures.meter,
    )

pub returns-clause-joined : goal.returns-clause-joined
returns-clause-joined c =
    let g = c.args.meter.now in
    let P = Assumes c.args.known.now in
    let params = c.args.params.now in
    let pieces = c.args.pieces.now in
    let end : length pieces ≤ c.loop-piece.piece-index = omega arith in
    subst (AreJoined g P params pieces) (sym c.in_ok-together.ensures)
    (joined_all g P params pieces c.loop-piece.kept c.loop-piece.piece-index end c.loop-piece.invariant.0)
