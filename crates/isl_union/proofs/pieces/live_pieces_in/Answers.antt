use Rattle.std.proofs.Common.{◌≡◌, ◌∷◌, ◌∙◌, refl, sym, ap, arith, ◌-◌, ◌*◌, length}
use Rattle.std.proofs.lemmas.List.{length-map}
use Rattle.std.proofs.lemmas.List.Elements.{All-map, All-nil}
use Rattle.std.proofs.lemmas.Result.{err_from_is_err_and}
use Rattle.isl_meter.proofs.CutLemmas.{IsCharged_refl, IsCharged_trans}
use Rattle.isl_space.specs.Space.{space_form_of}
use Rattle.isl_piece.specs.System.{IsSystemWithin, free_columns}
use Rattle.isl_piece.proofs.FormedLaws.{system_within_kept}
use Rattle.isl_piece.specs.Piece.{PieceView}
use Rattle.isl_ledger.specs.Difference.{IsDifferenceSystem}
use Rattle.isl_difference.specs.Tame.{HasNormalDifferences}
use Rattle.isl_difference.proofs.TameLaws.{tame_cut, tame_memory, tame_ok}
use Rattle.isl_union.specs.KeptValue.{columns_of}
use Rattle.isl_union.specs.Piece.{IsPieceOf}
use Rattle.isl_union.proofs.CountLaws.{few_more}
use Rattle.isl_union.proofs.MeetSteps.{charged_bits, found_sound}
use Rattle.isl_union.proofs.PiecesLaws.{pieces_have, pieces_plain, pieces_small, so_far_all, so_far_more, so_far_next, so_far_none}
use Rattle.isl_union.proofs.TameLaws.{count_fits, count_next}
use Rattle.isl_union.proofs.pieces.live_pieces_in.Goals as goal

pub live_piece-requires : goal.live_piece-requires
live_piece-requires c =
    let g = c.args.meter.now in
    let before = c.loop-system.system-iterator.rest.items in
    let next : before ≡ c.in-Some.system ∷ c.next.new.self.rest.items = grind arith in
    system_within_kept c.loop-system.meter g c.in-Some.system (charged_bits g c.loop-system.meter c.loop-system.invariant.charged)
    (so_far_next (IsSystemWithin g) c.args.params.now (space_form_of c.args.space.now) c.args.systems.items before
    c.next.new.self.rest.items
    c.in-Some.system c.loop-system.kept.items next c.loop-system.invariant.live c.requires.within)

pub loop-system-init : goal.loop-system-init
loop-system-init c =
    let none = c.in_ok-kept.ensures.items in
    let all : c.into_iter-system-iterator.result.rest.items ≡ c.args.systems.items = c.into_iter-system-iterator.ensures.into_iter_gives.0 in
    record {
      live = rw all (so_far_none c.args.params.now (space_form_of c.args.space.now) c.args.systems.items c.in_ok-kept.kept.items none);
      sound = rw none (All-nil (IsPieceOf c.args.params.now));
      charged = IsCharged_refl c.args.meter.now c.args.meter.now refl;
      tame = λ columns bits limit room own. (
        rw all (omega arith),
        rw none (All-nil (λ (p : PieceView). IsDifferenceSystem columns bits p.system)),
      );
      few = rw (all, none) (omega arith);
    }

pub loop-system-preserved : goal.loop-system-preserved
loop-system-preserved c =
    let g = c.args.meter.now in
    let params = c.args.params.now in
    let space = space_form_of c.args.space.now in
    let systems = c.args.systems.items in
    let before = c.loop-system.system-iterator.rest.items in
    let rest = c.next.new.self.rest.items in
    let s = c.in-Some.system in
    let kept = c.loop-system.kept.items in
    let pushed = c.push_found.new.kept.items in
    let found = c.in_ok-live_piece.field-0 in
    let so_far = c.loop-system.invariant in
    let next : before ≡ s ∷ rest = grind arith in
    let free = so_far_next (λ t. free_columns t ≡ columns_of params space) params space systems before rest s kept next so_far.live
    c.requires.columns in
    let both = c.in_ok-live_piece.ensures.found params c.requires.space free in
    record {
      live = so_far_more params space systems before rest s kept pushed found next both.0 c.in_ok-push_found.ensures so_far.live;
      sound = found_sound (IsPieceOf params) kept pushed found so_far.sound both.1 c.in_ok-push_found.ensures;
      charged = IsCharged_trans g c.loop-system.meter c.live_piece.new.meter so_far.charged c.in_ok-live_piece.ensures.meter;
      tame = λ columns bits limit room all.
          let here = so_far_next (HasNormalDifferences columns bits) params space systems before rest s kept next so_far.live all in
          let asked = c.in_ok-live_piece.ensures.tame columns bits (sym (charged_bits g c.loop-system.meter so_far.charged) ∙ limit) room here in
          let first = so_far.tame columns bits limit room all in (
            count_next g.units c.loop-system.meter.units c.live_piece.new.meter.units (length before) (length rest) (length systems)
                (columns * (columns * columns)) (ap length next) first.0 asked.within.units,
            found_sound (λ p. IsDifferenceSystem columns bits p.system) kept pushed found first.1 asked.answer c.in_ok-push_found.ensures,
          );
      few = few_more before rest s kept pushed found (length systems) next c.in_ok-push_found.ensures so_far.few;
    }

pub returns-clause-elements : goal.returns-clause-elements
returns-clause-elements c v e =
    let space = space_form_of c.args.space.now in
    let rest = c.loop-system.system-iterator.rest.items in
    let none = sym c.loop-system.system-iterator.rest.ok.0 ∙ c.in-None.ensures.steps.0 in
    pieces_have c.args.meter.now c.args.params.now space c.args.systems.items c.requires.space c.requires.columns c.requires.within _
    (so_far_all c.args.params.now space c.args.systems.items rest c.loop-system.kept.items none c.loop-system.invariant.live) v e

pub returns-clause-definitions : goal.returns-clause-definitions
returns-clause-definitions c =
    let space = space_form_of c.args.space.now in
    let rest = c.loop-system.system-iterator.rest.items in
    let none = sym c.loop-system.system-iterator.rest.ok.0 ∙ c.in-None.ensures.steps.0 in
    pieces_plain c.args.meter.now c.args.params.now space c.args.systems.items c.requires.space c.requires.columns c.requires.within _
    (so_far_all c.args.params.now space c.args.systems.items rest c.loop-system.kept.items none c.loop-system.invariant.live)

pub returns-clause-numbers : goal.returns-clause-numbers
returns-clause-numbers c =
    let space = space_form_of c.args.space.now in
    let rest = c.loop-system.system-iterator.rest.items in
    let none = sym c.loop-system.system-iterator.rest.ok.0 ∙ c.in-None.ensures.steps.0 in
    pieces_small c.args.meter.now c.args.params.now space c.args.systems.items c.requires.space c.requires.columns c.requires.within _
    (so_far_all c.args.params.now space c.args.systems.items rest c.loop-system.kept.items none c.loop-system.invariant.live)

pub returns-clause-few : goal.returns-clause-few
returns-clause-few c = let few = c.loop-system.invariant.few in omega (arith, few)

-- ---- of difference constraints
pub returns-in_err-kept-clause-tame : goal.returns-in_err-kept-clause-tame
returns-in_err-kept-clause-tame c = λ columns bits limit room all.
    let p = err_from_is_err_and c.from_residual.result c.from_residual.ensures.1 in
    rw (p.1, p.2) (tame_memory 0 _ c.args.meter.now c.args.meter.now _ (omega arith) (omega arith))

pub returns-in_err-live_piece-clause-tame : goal.returns-in_err-live_piece-clause-tame
returns-in_err-live_piece-clause-tame c = λ columns bits limit room all.
    let w = columns * (columns * columns) in
    let g = c.args.meter.now in
    let h = c.loop-system.meter in
    let systems = c.args.systems.items in
    let before = c.loop-system.system-iterator.rest.items in
    let rest = c.next.new.self.rest.items in
    let s = c.in-Some.system in
    let so_far = c.loop-system.invariant in
    let next : before ≡ s ∷ rest = grind arith in
    let here = so_far_next (HasNormalDifferences columns bits) c.args.params.now (space_form_of c.args.space.now) systems before rest s
    c.loop-system.kept.items next so_far.live all in
    let later = sym (charged_bits g h so_far.charged) ∙ limit in
    let first = (so_far.tame columns bits limit room all).0 in
    let p = err_from_is_err_and c.from_residual-in_err-live_piece.result c.from_residual-in_err-live_piece.ensures.1 in
    let charged = so_far.charged.units in
    rw (p.1, p.2) (tame_cut (h.units - g.units) w (length systems * w) g h c.live_piece.new.meter _ _ c.in_err-live_piece.field-0.0 so_far.charged
    (omega arith) (count_fits g.units h.units (length before) (length rest) (length systems) w (ap length next) charged first)
    (c.in_err-live_piece.ensures.tame columns bits later room here))

pub returns-in_err-push_found-clause-tame : goal.returns-in_err-push_found-clause-tame
returns-in_err-push_found-clause-tame c = λ columns bits limit room all.
    let w = columns * (columns * columns) in
    let g = c.args.meter.now in
    let h = c.loop-system.meter in
    let systems = c.args.systems.items in
    let before = c.loop-system.system-iterator.rest.items in
    let rest = c.next.new.self.rest.items in
    let s = c.in-Some.system in
    let so_far = c.loop-system.invariant in
    let next : before ≡ s ∷ rest = grind arith in
    let here = so_far_next (HasNormalDifferences columns bits) c.args.params.now (space_form_of c.args.space.now) systems before rest s
    c.loop-system.kept.items next so_far.live all in
    let later = sym (charged_bits g h so_far.charged) ∙ limit in
    let first = (so_far.tame columns bits limit room all).0 in
    let p = err_from_is_err_and c.from_residual-in_err-push_found.result c.from_residual-in_err-push_found.ensures.1 in
    let asked = c.in_ok-live_piece.ensures.tame columns bits later room here in
    let used = count_next g.units h.units c.live_piece.new.meter.units (length before) (length rest) (length systems) w (ap length next)
    first asked.within.units in
    rw (p.1, p.2) (tame_memory (length systems * w) (length systems * w) g c.live_piece.new.meter _ (omega (arith, used)) (omega arith))

pub returns-clause-tame : goal.returns-clause-tame
returns-clause-tame c = λ columns bits limit room all.
    let w = columns * (columns * columns) in
    let whole = c.loop-system.invariant.tame columns bits limit room all in
    let used = whole.0 in
    let few = c.loop-system.invariant.few in
    let kept = c.loop-system.kept.items in
    let long = length-map kept (λ (p : PieceView). p.system) in
    tame_ok (length c.args.systems.items * w) c.args.meter.now c.loop-system.meter _ _ (omega (arith, used)) (record {
      few = omega (arith, few, long);
      each = All-map (IsDifferenceSystem columns bits) (λ (p : PieceView). p.system) kept whole.1;
    })
