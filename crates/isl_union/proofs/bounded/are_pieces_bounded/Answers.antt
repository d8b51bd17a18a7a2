use Rattle.std.proofs.Common.{false, ◌∙◌, ◌≡◌, ◌<◌, ◌≤◌, length, take, arith, subst, sym}
use Rattle.std.specs.List.{All}
use Rattle.std.proofs.lemmas.Bool.{false≢true}
use Rattle.std.proofs.lemmas.Grind.{common_steps}
use Rattle.isl_meter.specs.Gauge.{IsCharged}
use Rattle.isl_meter.proofs.CutLemmas.{IsCharged_trans}
use Rattle.isl_piece.specs.Piece.{PieceView}
use Rattle.isl_piece.specs.declared.system.System.{System}
use Rattle.isl_piece.specs.System.{IsSystemWithin, free_columns}
use Rattle.isl_union.specs.Front.{front_width, IsBoundedBehind}
use Rattle.isl_union.proofs.BoundedLaws.{all_have, one_has, one_lacks, one_more}
use Rattle.isl_union.proofs.MeetSteps.{pieces_later}
use Rattle.isl_union.proofs.bounded.are_pieces_bounded.Goals as goal

pub loop-piece-preserved : goal.loop-piece-preserved
loop-piece-preserved c =
    let g = c.args.meter.now in
    let h = c.loop-piece.meter in
    let k = c.is_system_bounded.new.meter in
    let pieces = c.args.pieces.now in
    let i = c.loop-piece.piece-index in
    let piece = c.piece-item.result in
    let low : i < length pieces = grind (arith, common_steps) in
    let told : IsBoundedBehind c.args.front.now c.system.result.now = grind arith in
    let holds = subst (IsBoundedBehind c.args.front.now) c.system.ensures told in
    let charged : IsCharged h k = grind arith in (
      one_more (λ (p : PieceView). IsBoundedBehind c.args.front.now p.system) pieces i piece low c.piece-item.is holds
          c.loop-piece.invariant.0,
      IsCharged_trans g h k c.loop-piece.invariant.1 charged,
    )

pub is_system_bounded-requires : goal.is_system_bounded-requires
is_system_bounded-requires c =
    let g = c.args.meter.now in
    let h = c.loop-piece.meter in
    let pieces = c.args.pieces.now in
    let i = c.loop-piece.piece-index in
    let piece = c.piece-item.result in
    let low : i < length pieces = grind (arith, common_steps) in
    let at = c.piece-item.is in
    record {
      within = subst (IsSystemWithin h) (sym c.system.ensures)
          (one_has (λ (p : PieceView). IsSystemWithin h p.system) pieces i piece low at
          (pieces_later g h pieces c.loop-piece.invariant.1 c.requires.within));
      columns = subst (λ (s : System). front_width c.args.front.now ≤ free_columns s) (sym c.system.ensures)
          (one_has (λ (p : PieceView). front_width c.args.front.now ≤ free_columns p.system) pieces i piece low at c.requires.columns);
    }

pub returns-clause-exact : goal.returns-clause-exact
returns-clause-exact c =
    let pieces = c.args.pieces.now in
    let P : PieceView → Type 0 = λ p. IsBoundedBehind c.args.front.now p.system in
    let whole : take c.loop-piece.piece-index pieces ≡ pieces = grind (arith, common_steps) in
    all_have P pieces (subst (All P) whole c.loop-piece.invariant.0)

pub returns-then-not-branch-clause-exact : goal.returns-then-not-branch-clause-exact
returns-then-not-branch-clause-exact c =
    let pieces = c.args.pieces.now in
    let i = c.loop-piece.piece-index in
    let piece = c.piece-item.result in
    let low : i < length pieces = grind (arith, common_steps) in
    let not_so : c.in_ok-is_system_bounded.field-0 ≡ false = grind (arith, common_steps) in
    one_lacks (λ (p : PieceView). IsBoundedBehind c.args.front.now p.system) pieces i piece low c.piece-item.is
    (λ h. false≢true (sym not_so ∙ c.in_ok-is_system_bounded.ensures.exact.1
    (subst (IsBoundedBehind c.args.front.now) (sym c.system.ensures) h)))
