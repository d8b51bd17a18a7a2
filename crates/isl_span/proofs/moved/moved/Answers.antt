use Rattle.std.proofs.Common.{◌≡◌, ◌∙◌, ◌+◌, ◌<◌, ◌≤◌, ◌++◌, ◌∷◌, [], ap, arith, get_or, length, map, refl, subst, sym, take, List, ℕ}
use Rattle.std.specs.List.{All}
use Rattle.std.proofs.lemmas.Grind.{common_steps}
use Rattle.std.proofs.lemmas.List.{map_more, take_all}
use Rattle.std.proofs.lemmas.List.Elements.{All-nil, All-push}
use Rattle.std.proofs.lemmas.Result.{err_from_is_err_and}
use Rattle.isl_meter.specs.Gauge.{Gauge}
use Rattle.isl_meter.proofs.CutLemmas.{IsCharged_refl, IsCharged_trans}
use Rattle.isl_piece.specs.declared.row.Row.{Row}
use Rattle.isl_piece.specs.declared.system.System.{System}
use Rattle.isl_piece.specs.Row.{IsRowWithin, IsWellFormed}
use Rattle.isl_piece.specs.System.{IsSystemWithin}
use Rattle.isl_piece.proofs.RowMagnitudes.{row_within_kept}
use Rattle.isl_ledger.specs.Difference.{IsDifferenceRow}
use Rattle.isl_difference.proofs.TameLaws.{tame_cut, tame_memory, tame_ok}
use Rattle.isl_span.specs.Moved.{moved_row}
use Rattle.isl_span.proofs.LinkLaws.{moved_formed}
use Rattle.isl_span.proofs.moved.moved.Goals as goal

pub moved_row-requires-clause-formed : goal.moved_row-requires-clause-formed
moved_row-requires-clause-formed c =
    let rows = c.args.system.now.rows in
    let row : Row = c.row-item.result in
    let i = c.loop-row.row-index in
    let low : i < length rows = grind (arith, common_steps) in
    let at : row ≡ get_or rows i row = subst (λ (rs : List Row). row ≡ get_or rs i row) c.as_slice-row-items.ensures c.row-item.is in
    subst (IsWellFormed (c.args.last + 1)) (sym at)
    (subst (λ (m : ℕ). IsWellFormed m (get_or rows i row)) c.requires.columns (c.requires.within.rows i row low))

pub moved_row-requires-clause-within : goal.moved_row-requires-clause-within
moved_row-requires-clause-within c =
    let g = c.args.meter.now in
    let rows = c.args.system.now.rows in
    let row : Row = c.row-item.result in
    let i = c.loop-row.row-index in
    let low : i < length rows = grind (arith, common_steps) in
    let at : row ≡ get_or rows i row = subst (λ (rs : List Row). row ≡ get_or rs i row) c.as_slice-row-items.ensures c.row-item.is in
    row_within_kept c.loop-row.meter g row (sym (ap (λ (x : Gauge). x.bits) c.loop-row.invariant.charged.same))
    (subst (IsRowWithin g) (sym at) (c.requires.within.within i row low))

pub loop-row-preserved : goal.loop-row-preserved
loop-row-preserved c =
    let g = c.args.meter.now in
    let h = c.loop-row.meter in
    let rows = c.args.system.now.rows in
    let row : Row = c.row-item.result in
    let i = c.loop-row.row-index in
    let new : Row = c.in_ok-moved_row.field-0 in
    let low : i < length rows = grind (arith, common_steps) in
    let at : row ≡ get_or rows i row = subst (λ (rs : List Row). row ≡ get_or rs i row) c.as_slice-row-items.ensures c.row-item.is in
    let pushed : c.push.new.self ≡ c.loop-row.rows ++ new ∷ [] = grind arith in
    let is : new ≡ moved_row c.args.last (get_or rows i row) =
    c.in_ok-moved_row.ensures.exact ∙ ap (λ (r : Row). moved_row c.args.last r) at in
    let same = ap (λ (x : Gauge). x.bits) c.loop-row.invariant.charged.same in
    let within = row_within_kept g h new same c.in_ok-moved_row.ensures.within in
    record {
      rows = pushed ∙ ap (λ (l : List Row). l ++ new ∷ []) c.loop-row.invariant.rows
          ∙ ap (λ (r : Row). map (moved_row c.args.last) (take i rows) ++ r ∷ []) is
          ∙ sym (map_more (moved_row c.args.last) rows i row low);
      within = subst (All (IsRowWithin g)) (sym pushed) (All-push (IsRowWithin g) c.loop-row.rows new c.loop-row.invariant.within within);
      charged = IsCharged_trans g h c.moved_row.new.meter c.loop-row.invariant.charged c.in_ok-moved_row.ensures.meter;
      tame = λ bits limit room d.
          let before = c.loop-row.invariant.tame bits limit room d in
          let made = c.in_ok-moved_row.ensures.tame bits (same ∙ limit) room (subst (IsDifferenceRow bits) (sym at) (d i row low)) in
          let used = made.within.units in
          omega (arith, before, used);
    }

pub returns-clause-exact : goal.returns-clause-exact
returns-clause-exact c =
    let s = c.args.system.now in
    let i = c.loop-row.row-index in
    let end : length s.rows ≤ i = grind (arith, common_steps) in
    c.from_rows.ensures
    ∙ ap (λ (l : List Row). let t : System = record { columns = s.columns; definitions = []; rows = l } in t)
    (c.loop-row.invariant.rows ∙ ap (λ (l : List Row). map (moved_row c.args.last) l) (take_all i s.rows end))

pub returns-clause-within : goal.returns-clause-within
returns-clause-within c =
    let g = c.args.meter.now in
    let s = c.args.system.now in
    let i = c.loop-row.row-index in
    let end : length s.rows ≤ i = grind (arith, common_steps) in
    let all = c.loop-row.invariant.rows ∙ ap (λ (l : List Row). map (moved_row c.args.last) l) (take_all i s.rows end) in
    subst (IsSystemWithin g) (sym c.from_rows.ensures) (record {
      rows = subst (All (IsWellFormed s.columns)) (sym all) (moved_formed s.columns s.rows c.requires.within.rows c.args.last);
      within = c.loop-row.invariant.within;
      count = omega arith;
      definitions = tt;
    })

pub loop-row-init : goal.loop-row-init
loop-row-init c =
    let g = c.args.meter.now in
    record {
      rows = c.in_ok-rows.ensures;
      within = subst (All (IsRowWithin g)) (sym c.in_ok-rows.ensures) (All-nil (IsRowWithin g));
      charged = IsCharged_refl g g refl;
      tame = λ bits limit room d. omega arith;
    }

-- ---- of difference constraints
pub returns-in_err-rows-clause-tame : goal.returns-in_err-rows-clause-tame
returns-in_err-rows-clause-tame c = λ bits limit room d.
    let p = err_from_is_err_and c.from_residual.result c.from_residual.ensures.1 in
    rw (p.1, p.2) (tame_memory 0 0 c.args.meter.now c.args.meter.now _ (omega arith) (omega arith))

pub returns-in_err-moved_row-clause-tame : goal.returns-in_err-moved_row-clause-tame
returns-in_err-moved_row-clause-tame c = λ bits limit room d.
    let g = c.args.meter.now in
    let h = c.loop-row.meter in
    let rows = c.args.system.now.rows in
    let row : Row = c.row-item.result in
    let i = c.loop-row.row-index in
    let low : i < length rows = grind (arith, common_steps) in
    let at : row ≡ get_or rows i row = subst (λ (rs : List Row). row ≡ get_or rs i row) c.as_slice-row-items.ensures c.row-item.is in
    let same = ap (λ (x : Gauge). x.bits) c.loop-row.invariant.charged.same in
    let before = c.loop-row.invariant.tame bits limit room d in
    let cut = c.in_err-moved_row.ensures.tame bits (same ∙ limit) room (subst (IsDifferenceRow bits) (sym at) (d i row low)) in
    let p = err_from_is_err_and c.from_residual-in_err-moved_row.result c.from_residual-in_err-moved_row.ensures.1 in
    rw (p.1, p.2) (tame_cut 0 0 0 g h c.moved_row.new.meter _ _ c.in_err-moved_row.field-0.0 c.loop-row.invariant.charged
    (omega (arith, before)) (omega arith) cut)

pub returns-in_err-push-clause-tame : goal.returns-in_err-push-clause-tame
returns-in_err-push-clause-tame c = λ bits limit room d.
    let g = c.args.meter.now in
    let rows = c.args.system.now.rows in
    let row : Row = c.row-item.result in
    let i = c.loop-row.row-index in
    let low : i < length rows = grind (arith, common_steps) in
    let at : row ≡ get_or rows i row = subst (λ (rs : List Row). row ≡ get_or rs i row) c.as_slice-row-items.ensures c.row-item.is in
    let same = ap (λ (x : Gauge). x.bits) c.loop-row.invariant.charged.same in
    let before = c.loop-row.invariant.tame bits limit room d in
    let made = c.in_ok-moved_row.ensures.tame bits (same ∙ limit) room (subst (IsDifferenceRow bits) (sym at) (d i row low)) in
    let used = made.within.units in
    let p = err_from_is_err_and c.from_residual-in_err-push.result c.from_residual-in_err-push.ensures.1 in
    rw (p.1, p.2) (tame_memory 0 0 g c.moved_row.new.meter _ (omega (arith, before, used)) (omega arith))

pub returns-clause-tame : goal.returns-clause-tame
returns-clause-tame c = λ bits limit room d.
    let before = c.loop-row.invariant.tame bits limit room d in
    tame_ok 0 c.args.meter.now c.loop-row.meter _ _ (omega (arith, before)) tt
