use Rattle.std.proofs.Common.{◌∙◌, ap₂, sym, subst, arith, ◌+◌, ◌*◌, ℤ, List}
use Rattle.std.proofs.lemmas.Result.{err_from_is_err_and}
use Rattle.isl_space.specs.SpaceForm.{SpaceForm}
use Rattle.isl_piece.specs.declared.system.System.{System}
use Rattle.isl_piece.specs.Piece.{PieceView}
use Rattle.isl_piece.specs.System.{HoldsSystem, free_columns}
use Rattle.isl_elim.specs.Sample.{IsNowhere, IsSample}
use Rattle.isl_ledger.specs.Difference.{IsDifferenceSystem}
use Rattle.isl_ledger.specs.Work.{allowance}
use Rattle.isl_ledger.proofs.SizeLaws.{has_size}
use Rattle.isl_difference.proofs.TameLaws.{one_of_size, tame_memory, tame_ok}
use Rattle.isl_union.specs.Sample.{point_system}
use Rattle.isl_union.specs.Tame.{size_of}
use Rattle.isl_union.proofs.TameLaws.{cut_more}
use Rattle.isl_union.proofs.WorkLaws.{point_work_allowed}
use Rattle.isl_union.proofs.sample.point_piece.Goals as goal

pub unreachable-requires : goal.unreachable-requires
unreachable-requires c =
    let exact = rw c.in-None.is at c.in_ok-sample_point.ensures.exact in
    c.requires.live (subst (λ (s : System). IsNowhere (free_columns s) (HoldsSystem s)) c.system.ensures exact)

pub returns-clause-exact : goal.returns-clause-exact
returns-clause-exact c =
    let exact = rw c.in-Some.is at c.in_ok-sample_point.ensures.exact in
    let point = c.in-Some.point.items in
    let piece : SpaceForm → List ℤ → PieceView = λ u xs. record { space = u; system = point_system xs } in (
      point,
      subst (λ (s : System). IsSample c.args.meter.now (free_columns s) (HoldsSystem s) point) c.system.ensures exact,
      c.in_ok-only_piece-in-Some.ensures ∙ ap₂ piece c.space.ensures c.as_slice.ensures.value,
    )

-- ---- of difference constraints
pub returns-in_err-sample_point-clause-tame : goal.returns-in_err-sample_point-clause-tame
returns-in_err-sample_point-clause-tame c = λ columns bits limit room d.
    let most = 8 * ((columns + 1) * allowance 1 columns) in
    let p = err_from_is_err_and c.from_residual.result c.from_residual.ensures.1 in
    rw (p.1, p.2) (cut_more (columns * (columns * columns)) most c.args.meter.now c.sample_point.new.meter _ _ c.in_err-sample_point.field-0.0
    (point_work_allowed columns)
    (c.in_err-sample_point.ensures.tame (size_of 1 columns bits) limit room
    (has_size (size_of 1 columns bits) c.system.result.now
    (one_of_size columns bits c.system.result.now (subst (IsDifferenceSystem columns bits) (sym c.system.ensures) d)))))

pub returns-in_err-only_piece-in-Some-clause-tame : goal.returns-in_err-only_piece-in-Some-clause-tame
returns-in_err-only_piece-in-Some-clause-tame c = λ columns bits limit room d.
    let most = 8 * ((columns + 1) * allowance 1 columns) in
    let asked = c.in_ok-sample_point.ensures.tame (size_of 1 columns bits) limit room
    (has_size (size_of 1 columns bits) c.system.result.now
    (one_of_size columns bits c.system.result.now (subst (IsDifferenceSystem columns bits) (sym c.system.ensures) d))) in
    let p = err_from_is_err_and c.from_residual-in_err-only_piece-in-Some.result c.from_residual-in_err-only_piece-in-Some.ensures.1 in
    rw (p.1, p.2) (tame_memory (columns * (columns * columns)) most c.args.meter.now c.sample_point.new.meter _ asked.within.units
    (point_work_allowed columns))

pub returns-clause-tame : goal.returns-clause-tame
returns-clause-tame c = λ columns bits limit room d.
    let most = 8 * ((columns + 1) * allowance 1 columns) in
    let asked = c.in_ok-sample_point.ensures.tame (size_of 1 columns bits) limit room
    (has_size (size_of 1 columns bits) c.system.result.now
    (one_of_size columns bits c.system.result.now (subst (IsDifferenceSystem columns bits) (sym c.system.ensures) d))) in
    let used = asked.within.units in
    let room = point_work_allowed columns in
    tame_ok most c.args.meter.now c.sample_point.new.meter _ _ (omega (arith, used, room)) tt
