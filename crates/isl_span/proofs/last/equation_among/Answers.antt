use Rattle.std.proofs.Common.{◌≡◌, ◌≢◌, ◌⊎◌, ◌∙◌, ◌+◌, ◌*◌, ◌<◌, ◌≤◌, ◌∷◌, [], ap, arith, get_or, length, refl, subst, sym, take, List, ℤ}
use Rattle.std.specs.List.{All}
use Rattle.std.proofs.lemmas.Grind.{common_steps}
use Rattle.std.proofs.lemmas.Result.{err_from_is_err_and}
use Rattle.std.proofs.lemmas.List.{take_all}
use Rattle.std.proofs.lemmas.List.Elements.{All-more, All-nil}
use Rattle.isl_meter.specs.Gauge.{Gauge}
use Rattle.isl_meter.proofs.CutLemmas.{IsCharged_refl, IsCharged_trans}
use Rattle.isl_piece.specs.declared.row.Row.{Row}
use Rattle.isl_piece.specs.declared.row.RowKind.{RowKind}
use Rattle.isl_piece.specs.declared.row.RowKind.TheVariants.{Zero, AtLeast}
use Rattle.isl_piece.specs.Row.{HoldsRow, IsRowWithin, IsWellFormed}
use Rattle.isl_piece.proofs.RowMagnitudes.{row_within_kept}
use Rattle.isl_ledger.specs.Difference.{IsDifferenceRow}
use Rattle.isl_difference.proofs.TameLaws.{taken_next, taken_turn, tame_cut, tame_ok}
use Rattle.isl_span.specs.Chain.{IsNoEquation}
use Rattle.isl_span.specs.Points.{IsPoint}
use Rattle.isl_span.specs.Work.{test_units}
use Rattle.isl_span.proofs.CallLaws.{rows_formed}
use Rattle.isl_span.proofs.ChainLaws.{equation_later}
use Rattle.isl_span.proofs.PointLaws.{over_later}
use Rattle.isl_span.proofs.SeenLaws.{plain_holds}
use Rattle.isl_span.proofs.last.equation_among.Goals as goal

pub equation_by-requires-clause-over : goal.equation_by-requires-clause-over
equation_by-requires-clause-over c =
    over_later c.args.meter.now c.loop-row.meter (c.args.last + 1) c.args.system.now
    (ap (λ (x : Gauge). x.bits) c.loop-row.invariant.charged.same) c.requires.over

pub equation_by-requires-clause-kind : goal.equation_by-requires-clause-kind
equation_by-requires-clause-kind c =
    let row : Row = c.row-item.result in
    let same : row.kind ≡ c.args.kind = grind (arith, common_steps) in
    subst (λ (k : RowKind). (k ≡ Zero) ⊎ (k ≡ AtLeast)) (sym same) c.requires.kind

pub equation_by-requires-clause-formed : goal.equation_by-requires-clause-formed
equation_by-requires-clause-formed c =
    let rows = c.args.system.now.rows in
    let row : Row = c.row-item.result in
    let i = c.loop-row.row-index in
    let low : i < length rows = grind (arith, common_steps) in
    let at : row ≡ get_or rows i row = subst (λ (rs : List Row). row ≡ get_or rs i row) c.as_slice-row-items.ensures c.row-item.is in
    subst (IsWellFormed (c.args.last + 1)) (sym at)
    (rows_formed c.args.meter.now (c.args.last + 1) c.args.system.now c.requires.over c.requires.plain i row low)

pub equation_by-requires-clause-within : goal.equation_by-requires-clause-within
equation_by-requires-clause-within c =
    let rows = c.args.system.now.rows in
    let row : Row = c.row-item.result in
    let i = c.loop-row.row-index in
    let low : i < length rows = grind (arith, common_steps) in
    let at : row ≡ get_or rows i row = subst (λ (rs : List Row). row ≡ get_or rs i row) c.as_slice-row-items.ensures c.row-item.is in
    row_within_kept c.loop-row.meter c.args.meter.now row (sym (ap (λ (x : Gauge). x.bits) c.loop-row.invariant.charged.same))
    (subst (IsRowWithin c.args.meter.now) (sym at) (c.requires.over.within.within i row low))

pub equation_by-requires-clause-holds : goal.equation_by-requires-clause-holds
equation_by-requires-clause-holds c point holds =
    let rows = c.args.system.now.rows in
    let row : Row = c.row-item.result in
    let i = c.loop-row.row-index in
    let low : i < length rows = grind (arith, common_steps) in
    let at : row ≡ get_or rows i row = subst (λ (rs : List Row). row ≡ get_or rs i row) c.as_slice-row-items.ensures c.row-item.is in
    subst (λ (r : Row). HoldsRow r point) (sym at) (plain_holds c.args.system.now point c.requires.plain holds i row low)

pub loop-row-init : goal.loop-row-init
loop-row-init c =
    let g = c.args.meter.now in
    let P : List ℤ → Type 0 = IsPoint (c.args.last + 1) (c.args.system.now ∷ []) in
    record {
      none = All-nil (λ r. r.kind ≡ c.args.kind → IsNoEquation c.args.last P r);
      charged = IsCharged_refl g g refl;
      tame = λ bits limit room d. omega arith;
    }

pub loop-row-preserved-then-ne : goal.loop-row-preserved-then-ne
loop-row-preserved-then-ne c =
    let rows = c.args.system.now.rows in
    let row : Row = c.row-item.result in
    let i = c.loop-row.row-index in
    let P : List ℤ → Type 0 = IsPoint (c.args.last + 1) (c.args.system.now ∷ []) in
    let Q : Row → Type 0 = λ r. r.kind ≡ c.args.kind → IsNoEquation c.args.last P r in
    let low : i < length rows = grind (arith, common_steps) in
    let at : row ≡ get_or rows i row = subst (λ (rs : List Row). row ≡ get_or rs i row) c.as_slice-row-items.ensures c.row-item.is in
    let other : row.kind ≢ c.args.kind = grind (arith, common_steps) in
    record {
      none = All-more Q rows i row low c.loop-row.invariant.none (subst Q at (λ same. absurd (other same)));
      charged = c.loop-row.invariant.charged;
      tame = λ bits limit room d.
          taken_next i rows (test_units (c.args.last + 1)) c.args.meter.now c.loop-row.meter c.loop-row.meter low
          (c.loop-row.invariant.tame bits limit room d) (omega arith);
    }

pub loop-row-preserved : goal.loop-row-preserved
loop-row-preserved c =
    let rows = c.args.system.now.rows in
    let row : Row = c.row-item.result in
    let i = c.loop-row.row-index in
    let P : List ℤ → Type 0 = IsPoint (c.args.last + 1) (c.args.system.now ∷ []) in
    let Q : Row → Type 0 = λ r. r.kind ≡ c.args.kind → IsNoEquation c.args.last P r in
    let low : i < length rows = grind (arith, common_steps) in
    let at : row ≡ get_or rows i row = subst (λ (rs : List Row). row ≡ get_or rs i row) c.as_slice-row-items.ensures c.row-item.is in
    let told : IsNoEquation c.args.last P row = rw c.in_default.is at c.in_ok-form.ensures.exact in
    record {
      none = All-more Q rows i row low c.loop-row.invariant.none (subst Q at (λ same. told));
      charged = IsCharged_trans c.args.meter.now c.loop-row.meter c.equation_by.new.meter c.loop-row.invariant.charged
          c.in_ok-form.ensures.meter;
      tame = λ bits limit room d.
          let limit_then = ap (λ (x : Gauge). x.bits) c.loop-row.invariant.charged.same ∙ limit in
          let own = subst (IsDifferenceRow bits) (sym at) (d.rows i row low) in
          let made = c.in_ok-form.ensures.tame bits limit_then room d own in
          taken_next i rows (test_units (c.args.last + 1)) c.args.meter.now c.loop-row.meter c.equation_by.new.meter low
          (c.loop-row.invariant.tame bits limit room d) made.within.units;
    }

pub returns-in-Some-clause-exact : goal.returns-in-Some-clause-exact
returns-in-Some-clause-exact c =
    let P : List ℤ → Type 0 = IsPoint (c.args.last + 1) (c.args.system.now ∷ []) in
    equation_later c.loop-row.meter c.args.meter.now c.args.last P c.in-Some.form
    (sym (ap (λ (x : Gauge). x.bits) c.loop-row.invariant.charged.same)) (rw c.in-Some.is at c.in_ok-form.ensures.exact)

pub returns-clause-exact : goal.returns-clause-exact
returns-clause-exact c =
    let rows = c.args.system.now.rows in
    let P : List ℤ → Type 0 = IsPoint (c.args.last + 1) (c.args.system.now ∷ []) in
    let end : length rows ≤ c.loop-row.row-index = grind (arith, common_steps) in
    subst (All (λ r. r.kind ≡ c.args.kind → IsNoEquation c.args.last P r)) (take_all c.loop-row.row-index rows end)
    c.loop-row.invariant.none

-- ---- of difference constraints
pub returns-in_err-form-clause-tame : goal.returns-in_err-form-clause-tame
returns-in_err-form-clause-tame c = λ bits limit room d.
    let g = c.args.meter.now in
    let h = c.loop-row.meter in
    let t = test_units (c.args.last + 1) in
    let rows = c.args.system.now.rows in
    let row : Row = c.row-item.result in
    let i = c.loop-row.row-index in
    let low : i < length rows = grind (arith, common_steps) in
    let at : row ≡ get_or rows i row = subst (λ (rs : List Row). row ≡ get_or rs i row) c.as_slice-row-items.ensures c.row-item.is in
    let before = c.loop-row.invariant.tame bits limit room d in
    let limit_then = ap (λ (x : Gauge). x.bits) c.loop-row.invariant.charged.same ∙ limit in
    let own = subst (IsDifferenceRow bits) (sym at) (d.rows i row low) in
    let p = err_from_is_err_and c.from_residual.result c.from_residual.ensures.1 in
    rw (p.1, p.2) (tame_cut (length (take i rows) * t) t (length rows * t) g h c.equation_by.new.meter _ _ c.in_err-form.field-0.0
    c.loop-row.invariant.charged before (taken_turn i rows t low) (c.in_err-form.ensures.tame bits limit_then room d own))

pub returns-in-Some-clause-tame : goal.returns-in-Some-clause-tame
returns-in-Some-clause-tame c = λ bits limit room d.
    let g = c.args.meter.now in
    let h = c.loop-row.meter in
    let t = test_units (c.args.last + 1) in
    let rows = c.args.system.now.rows in
    let row : Row = c.row-item.result in
    let i = c.loop-row.row-index in
    let low : i < length rows = grind (arith, common_steps) in
    let at : row ≡ get_or rows i row = subst (λ (rs : List Row). row ≡ get_or rs i row) c.as_slice-row-items.ensures c.row-item.is in
    let before = c.loop-row.invariant.tame bits limit room d in
    let limit_then = ap (λ (x : Gauge). x.bits) c.loop-row.invariant.charged.same ∙ limit in
    let own = subst (IsDifferenceRow bits) (sym at) (d.rows i row low) in
    let made = c.in_ok-form.ensures.tame bits limit_then room d own in
    let used = made.within.units in
    let most = taken_turn i rows t low in
    tame_ok (length rows * t) g c.equation_by.new.meter _ _ (omega (arith, before, used, most)) tt

pub returns-clause-tame : goal.returns-clause-tame
returns-clause-tame c = λ bits limit room d.
    let rows = c.args.system.now.rows in
    let i = c.loop-row.row-index in
    let end : length rows ≤ i = grind (arith, common_steps) in
    tame_ok (length rows * test_units (c.args.last + 1)) c.args.meter.now c.loop-row.meter _ _
    (rw (take_all i rows end) at (c.loop-row.invariant.tame bits limit room d)) tt
