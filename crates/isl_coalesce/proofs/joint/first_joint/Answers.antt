use Rattle.std.proofs.Common.{◌<◌, All, arith, get_or, length, refl, subst, sym}
use Rattle.std.proofs.lemmas.List.{take_all}
use Rattle.std.proofs.lemmas.List.Elements.{All-more, All-nil}
use Rattle.isl_meter.proofs.CutLemmas.{IsCharged_trans}
use Rattle.isl_piece.specs.Piece.{PieceView}
use Rattle.isl_union.specs.Piece.{kept_piece}
use Rattle.isl_assumed.specs.Assumed.{Assumes}
use Rattle.isl_coalesce.specs.Found.{IsPlainPiece}
use Rattle.isl_coalesce.specs.Joint.{AreUnjoined, IsJointAt}
use Rattle.isl_coalesce.specs.Slots.{AreApartAt}
use Rattle.isl_coalesce.proofs.KnownLaws.{names_later}
use Rattle.isl_coalesce.proofs.PieceLaws.{joint_earlier, plain_later}
use Rattle.isl_coalesce.proofs.SlotLaws.{at_place, so_at}
use Rattle.isl_coalesce.proofs.joint.first_joint.Goals.{in-Some+in_ok-joint+in_default-2, in_default}
use Rattle.isl_coalesce.proofs.joint.first_joint.Goals as goal

pub joint_piece-requires-clause-known : goal.joint_piece-requires-clause-known
joint_piece-requires-clause-known c =
    names_later c.args.meter.now c.loop-index.meter c.args.params.now c.args.known.now c.loop-index.invariant.1 c.requires.known

pub joint_piece-requires-clause-first : goal.joint_piece-requires-clause-first
joint_piece-requires-clause-first c =
    let g = c.args.meter.now in
    let h = c.loop-index.meter in
    let params = c.args.params.now in
    let place = get_or c.args.peers.places.now c.loop-index.index 0 in
    let there = rw c.in-Some.is at c.piece_at.ensures in
    plain_later g h params c.in-Some.other.now c.loop-index.invariant.1
    (at_place (IsPlainPiece g params) c.args.peers.slots.now place c.in-Some.other.now there.1 c.requires.peers)

pub loop-index-preserved : goal.loop-index-preserved
loop-index-preserved c =
    let g = c.args.meter.now in
    let h = c.loop-index.meter in
    let slots = c.args.peers.slots.now in
    let places = c.args.peers.places.now in
    let piece = c.args.piece.now in
    let J = IsJointAt (Assumes c.args.known.now) c.args.params.now in
    let Q : PieceView → Type 0 = λ other. AreUnjoined J (kept_piece other) (kept_piece piece) in
    let i = c.loop-index.index in
    let place = get_or places i 0 in
    let low : i < length places = omega arith in
    let so_far = c.loop-index.invariant in
    elim c.match-piece_at.branch [
      | in-Some+in_ok-joint+in_default-2 w ↦
          let there = rw w.in-Some.is at c.piece_at.ensures in
          let apart = rw w.in_default-2.is at w.in_ok-joint.ensures.exact in
          rw w.meter-is (
            All-more (AreApartAt J slots piece) places i 0 low so_far.0 (so_at Q slots place w.in-Some.other.now there.1 apart),
            IsCharged_trans g h w.joint_piece.new.meter so_far.1 w.in_ok-joint.ensures.meter,
          )
      | in_default w ↦
          let none = rw w.in_default.is at c.piece_at.ensures in
          rw w.meter-is (
            All-more (AreApartAt J slots piece) places i 0 low so_far.0 (subst (All Q) (sym none) (All-nil Q)),
            so_far.1,
          )
    ]

pub returns-in-Some-2-clause-exact : goal.returns-in-Some-2-clause-exact
returns-in-Some-2-clause-exact c =
    let low : c.loop-index.index < length c.args.peers.places.now = omega arith in
    let there = rw c.in-Some.is at c.piece_at.ensures in
    let found = rw c.in-Some-2.is at c.in_ok-joint.ensures.exact in (
      low,
      refl,
      there.0,
      c.in-Some.other.now,
      there.1,
      joint_earlier c.args.meter.now c.loop-index.meter (Assumes c.args.known.now) c.args.params.now c.in-Some.other.now c.args.piece.now
          c.in-Some-2.joint c.loop-index.invariant.1 found,
    )

pub returns-clause-exact : goal.returns-clause-exact
returns-clause-exact c =
    let A = AreApartAt (IsJointAt (Assumes c.args.known.now) c.args.params.now) c.args.peers.slots.now c.args.piece.now in
    subst (All A) (take_all c.loop-index.index c.args.peers.places.now (omega arith)) c.loop-index.invariant.0
