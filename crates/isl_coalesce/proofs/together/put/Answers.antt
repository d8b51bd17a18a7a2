use Rattle.std.proofs.Common.{◌∙◌, List, ◌++◌, ◌∷◌, [], ap, arith, get_or, length}
use Rattle.std.proofs.lemmas.List.Edits.{length-remove}
use Rattle.isl_meter.proofs.CutLemmas.{IsCharged_trans}
use Rattle.isl_piece.specs.Piece.{PieceView}
use Rattle.isl_assumed.specs.Assumed.{Assumes}
use Rattle.isl_coalesce.proofs.KnownLaws.{names_later}
use Rattle.isl_coalesce.proofs.PieceLaws.{joint_earlier}
use Rattle.isl_coalesce.proofs.ValueLaws.{put_last, put_step}
use Rattle.isl_coalesce.proofs.together.put.Goals as goal

pub take_joint-requires-clause-known : goal.take_joint-requires-clause-known
take_joint-requires-clause-known c =
    names_later c.args.meter.now c.loop-last.meter c.args.params.now c.args.known.now c.loop-last.invariant.1 c.requires.known

pub loop-last-preserved : goal.loop-last-preserved
loop-last-preserved c =
    let g = c.args.meter.now in
    let h = c.loop-last.meter in
    let P = Assumes c.args.known.now in
    let params = c.args.params.now in
    let first = c.args.kept ++ c.args.piece ∷ [] in
    let pieces = c.loop-last.kept in
    let last = c.loop-last.last in
    let joint = c.in-Some.joint in
    let charged = c.loop-last.invariant.1 in
    let found = rw c.in-Some.is at c.in_ok-joint.ensures.exact in
    let step = put_step g P params first pieces found.0 last joint found.1
    (joint_earlier g h P params (get_or pieces found.0 last) last joint charged found.3) c.loop-last.invariant.0 in (
      rw (found.2, c.replace.ensures) step,
      IsCharged_trans g h c.take_joint.new.meter charged c.in_ok-joint.ensures.meter,
    )

pub returns-clause-joined : goal.returns-clause-joined
returns-clause-joined c =
    let first = c.args.kept ++ c.args.piece ∷ [] in
    let last = c.loop-last.last in
    let none = rw c.in_default.is at c.in_ok-joint.ensures.exact in
    let is = c.in_ok-joined.ensures ∙ ap (λ (l : List PieceView). l ++ last ∷ []) none.0 in
    put_last c.args.meter.now (Assumes c.args.known.now) c.args.params.now first c.loop-last.kept c.in_ok-joined.joined last is none.1
    c.loop-last.invariant.0

pub loop-last-smaller : goal.loop-last-smaller
loop-last-smaller c =
    let found = rw c.in-Some.is at c.in_ok-joint.ensures.exact in
    let left = ap (λ (l : List PieceView). length l) found.2 in
    let one = length-remove c.loop-last.kept found.0 found.1 in
    omega (arith, left, one)
