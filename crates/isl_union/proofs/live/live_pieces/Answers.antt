use Rattle.std.proofs.Common.{◌≡◌, ◌∙◌, refl, ap, ap₂, arith, sym, subst, ◌*◌, ◌<◌, ℕ, length, map, option_map}
use Rattle.std.proofs.lemmas.Grind.{common_steps}
use Rattle.std.proofs.lemmas.List.Elements.{All-nil}
use Rattle.std.proofs.lemmas.Result.{err_from_is_err_and}
use Rattle.isl_meter.proofs.CutLemmas.{IsCharged_refl, IsCharged_trans}
use Rattle.isl_space.specs.Space.{space_form_of}
use Rattle.isl_space.specs.SpaceForm.{IsWellFormedSpace}
use Rattle.isl_piece.specs.System.{IsSystemWithin, free_columns}
use Rattle.isl_difference.specs.Tame.{HasNormalDifferences}
use Rattle.isl_ledger.specs.Work.{AreOfSize}
use Rattle.isl_ledger.proofs.TurnLaws.{turns_all, turns_cut, turns_memory, turns_more, turns_none}
use Rattle.isl_difference.proofs.TameLaws.{tame_memory}
use Rattle.isl_union.specs.KeptValue.{KeptPiece, columns_of}
use Rattle.isl_union.specs.Live.{normal_of, IsLiveOf}
use Rattle.isl_union.specs.Piece.{kept_piece, piece_of, IsPieceOf, IsPieceOver}
use Rattle.isl_union.specs.Tame.{size_of, systems_of}
use Rattle.isl_union.proofs.MeetSteps.{charged_bits, found_sound, item_has, live_step, over_later}
use Rattle.isl_union.proofs.TameLaws.{found_more, none_of_size}
use Rattle.isl_union.proofs.live.live_pieces.Goals as goal

pub live_piece-requires : goal.live_piece-requires
live_piece-requires c =
    let g = c.args.meter.now in
    let h = c.loop-piece.meter in
    let params = c.args.params.now in
    let piece = c.piece-item.result in
    let low : c.loop-piece.piece-index < length c.args.pieces.now = omega arith in
    let over = over_later g h params piece c.loop-piece.invariant.charged
    (item_has (IsPieceOver g params) c.args.pieces.now c.loop-piece.piece-index piece low c.piece-item.is c.requires) in
    subst (IsSystemWithin h) (sym (c.in_ok-system.ensures ∙ c.system.ensures)) over.within

pub loop-piece-init : goal.loop-piece-init
loop-piece-init c =
    let none = c.in_ok-kept.ensures.items in
    record {
      kept = ap (map kept_piece) none;
      sound = rw none (All-nil (IsPieceOf c.args.params.now));
      tame = λ columns bits limit room all. turns_none (columns * (columns * columns)) c.args.meter.now _
          (none_of_size (size_of 0 columns bits) _ (ap systems_of none));
      charged = IsCharged_refl c.args.meter.now c.args.meter.now refl;
    }

pub loop-piece-preserved : goal.loop-piece-preserved
loop-piece-preserved c =
    let g = c.args.meter.now in
    let params = c.args.params.now in
    let pieces = c.args.pieces.now in
    let i = c.loop-piece.piece-index in
    let piece = c.piece-item.result in
    let low : i < length pieces = omega arith in
    let kept = c.loop-piece.kept.items in
    let found = c.in_ok-live_piece.field-0 in
    let system = c.in_ok-system.system in
    let so_far = c.loop-piece.invariant in
    let over = item_has (IsPieceOver g params) pieces i piece low c.piece-item.is c.requires in
    let is : system ≡ piece.system = c.in_ok-system.ensures ∙ c.system.ensures in
    let formed = subst IsWellFormedSpace (sym c.space.ensures) over.space in
    let free : free_columns system ≡ columns_of params (space_form_of c.space.result.now) =
    ap free_columns is ∙ over.columns ∙ ap (columns_of params) (sym c.space.ensures) in
    let both = c.in_ok-live_piece.ensures.found params formed free in
    let exact : IsLiveOf params (normal_of (kept_piece piece)) (option_map kept_piece found) =
    subst (λ (p : KeptPiece). IsLiveOf params (normal_of p) (option_map kept_piece found)) (ap₂ piece_of c.space.ensures is) both.0 in
    record {
      kept = live_step pieces piece i low c.piece-item.is params kept c.push_found.new.kept.items found exact
          c.in_ok-push_found.ensures so_far.kept;
      sound = found_sound (IsPieceOf params) kept c.push_found.new.kept.items found so_far.sound both.1 c.in_ok-push_found.ensures;
      tame = λ columns bits limit room all.
          let here = subst (HasNormalDifferences columns bits) (sym is)
          (item_has (λ p. HasNormalDifferences columns bits p.system) pieces i piece low c.piece-item.is all) in
          let asked = c.in_ok-live_piece.ensures.tame columns bits (sym (charged_bits g c.loop-piece.meter so_far.charged) ∙ limit) room here in
          turns_more i (columns * (columns * columns)) g c.loop-piece.meter c.live_piece.new.meter _ _ _ found
          (so_far.tame columns bits limit room all) c.in_ok-live_piece.ensures.meter asked
          (λ sized one. found_more i columns bits kept c.push_found.new.kept.items found c.in_ok-push_found.ensures one sized);
      charged = IsCharged_trans g c.loop-piece.meter c.live_piece.new.meter so_far.charged c.in_ok-live_piece.ensures.meter;
    }

-- ---- of difference constraints
pub returns-in_err-kept-clause-tame : goal.returns-in_err-kept-clause-tame
returns-in_err-kept-clause-tame c = λ columns bits limit room all.
    let p = err_from_is_err_and c.from_residual.result c.from_residual.ensures.1 in
    rw (p.1, p.2) (tame_memory 0 _ c.args.meter.now c.args.meter.now _ (omega arith) (omega arith))

pub returns-in_err-system-clause-tame : goal.returns-in_err-system-clause-tame
returns-in_err-system-clause-tame c = λ columns bits limit room all.
    let h = c.loop-piece.meter in
    let p = err_from_is_err_and c.from_residual-in_err-system.result c.from_residual-in_err-system.ensures.1 in
    rw (p.1, p.2) (turns_memory c.loop-piece.piece-index (length c.args.pieces.now) (columns * (columns * columns)) c.args.meter.now h h _ _
    (omega arith) (c.loop-piece.invariant.tame columns bits limit room all) (omega arith))

pub returns-in_err-live_piece-clause-tame : goal.returns-in_err-live_piece-clause-tame
returns-in_err-live_piece-clause-tame c = λ columns bits limit room all.
    let h = c.loop-piece.meter in
    let pieces = c.args.pieces.now in
    let i = c.loop-piece.piece-index in
    let piece = c.piece-item.result in
    let low : i < length pieces = omega arith in
    let so_far = c.loop-piece.invariant in
    let is : c.in_ok-system.system ≡ piece.system = c.in_ok-system.ensures ∙ c.system.ensures in
    let here = subst (HasNormalDifferences columns bits) (sym is)
    (item_has (λ p. HasNormalDifferences columns bits p.system) pieces i piece low c.piece-item.is all) in
    let later = sym (charged_bits c.args.meter.now h so_far.charged) ∙ limit in
    let p = err_from_is_err_and c.from_residual-in_err-live_piece.result c.from_residual-in_err-live_piece.ensures.1 in
    rw (p.1, p.2) (turns_cut i (length pieces) (columns * (columns * columns)) c.args.meter.now h c.live_piece.new.meter _ _ _
    c.in_err-live_piece.field-0.0 low (so_far.tame columns bits limit room all) (c.in_err-live_piece.ensures.tame columns bits later room here))

pub returns-in_err-push_found-clause-tame : goal.returns-in_err-push_found-clause-tame
returns-in_err-push_found-clause-tame c = λ columns bits limit room all.
    let h = c.loop-piece.meter in
    let pieces = c.args.pieces.now in
    let i = c.loop-piece.piece-index in
    let piece = c.piece-item.result in
    let low : i < length pieces = omega arith in
    let so_far = c.loop-piece.invariant in
    let is : c.in_ok-system.system ≡ piece.system = c.in_ok-system.ensures ∙ c.system.ensures in
    let here = subst (HasNormalDifferences columns bits) (sym is)
    (item_has (λ p. HasNormalDifferences columns bits p.system) pieces i piece low c.piece-item.is all) in
    let later = sym (charged_bits c.args.meter.now h so_far.charged) ∙ limit in
    let asked = c.in_ok-live_piece.ensures.tame columns bits later room here in
    let p = err_from_is_err_and c.from_residual-in_err-push_found.result c.from_residual-in_err-push_found.ensures.1 in
    rw (p.1, p.2) (turns_memory i (length pieces) (columns * (columns * columns)) c.args.meter.now h c.live_piece.new.meter _ _ low
    (so_far.tame columns bits limit room all) asked.within.units)

pub returns-clause-tame : goal.returns-clause-tame
returns-clause-tame c = λ columns bits limit room all.
    let n = length c.args.pieces.now in
    let i = c.loop-piece.piece-index in
    let end : i ≡ n = grind (arith, common_steps) in
    let kept = c.loop-piece.kept.items in
    turns_all i n (columns * (columns * columns)) c.args.meter.now c.loop-piece.meter _ _ _ end
    (c.loop-piece.invariant.tame columns bits limit room all)
    (λ sized. subst (λ (m : ℕ). AreOfSize (size_of m columns bits) (systems_of kept)) end sized)
