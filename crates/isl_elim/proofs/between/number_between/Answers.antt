use Rattle.std.proofs.Common.{◌≡◌, ◌≢◌, ◌<◌, ◌≤◌, ◌∙◌, sym, subst, get_or, length, pos, arith}
use Rattle.std.proofs.lemmas.List.{get_or_default}
use Rattle.isl_piece.specs.declared.row.Row.{Row}
use Rattle.isl_piece.specs.Row.{IsWellFormed, coef_at}
use Rattle.isl_ledger.specs.Difference.{IsDifferenceRow}
use Rattle.isl_elim.specs.Between.{IsMetBy}
use Rattle.isl_elim.proofs.BetweenLaws.{seen_all, seen_next, seen_small, seen_without, sum_fits}
use Rattle.isl_elim.proofs.between.number_between.Goals as goal

pub loop-i-preserved-then-is_zero : goal.loop-i-preserved-then-is_zero
loop-i-preserved-then-is_zero c =
    let row = c.index-rows-i.result in
    let low : c.loop-i.i < length c.args.rows.now = grind arith in
    let none : coef_at row c.args.col ≡ pos 0 = grind arith in
    seen_without c.args.meter.now c.loop-i.meter c.args.rows.now c.args.point.now c.args.col c.loop-i.i c.loop-i.bounds row c.loop-i.invariant low
    c.index-rows-i.is c.requires.inside c.requires.zero none

pub returns-in_err-value-clause-small : goal.returns-in_err-value-clause-small
returns-in_err-value-clause-small c = λ bits w a.
    let row = c.index-rows-i-in-loop-i.result in
    let i = c.loop-i.i in
    let low : i < length c.args.rows.now = grind arith in
    let is = c.index-rows-i-in-loop-i.is in
    let formed = subst (IsWellFormed (length c.args.point.now)) (sym is) (c.requires.rows i row low) in
    absurd (sum_fits c.args.meter.now bits w row c.args.point.now (subst (IsDifferenceRow bits) (sym is) (a.rows i row low)) a.point a.room
    formed.width (rw c.loop-i.invariant.same at c.in_err-value.ensures.0))

pub loop-i-preserved : goal.loop-i-preserved
loop-i-preserved c =
    let g = c.args.meter.now in
    let rows = c.args.rows.now in
    let col = c.args.col in
    let i = c.loop-i.i in
    let row = c.index-rows-i.result in
    let second = c.index-rows-i-in-loop-i.result in
    let third = c.index-rows-i-in-loop-i-2.result in
    let value = c.in_ok-value.value in
    let low : i < length rows = grind arith in
    let is = c.index-rows-i.is in
    let formed = subst (IsWellFormed (length c.args.point.now)) (sym is) (c.requires.rows i row low) in
    let number : c.get-number.result ≡ coef_at row col = grind arith in
    let has : coef_at row col ≢ pos 0 = grind arith in
    let two : second ≡ row = c.index-rows-i-in-loop-i.is ∙ get_or_default rows i second row low ∙ sym is in
    let three : get_or rows i third ≡ row = get_or_default rows i third row low ∙ sym is in
    let met = subst (λ (q : Row). IsMetBy q.kind (coef_at row col) value c.loop-i.bounds c.in-Some.next) three (rw number at c.in-Some.ensures) in
    let found = rw two at c.in_ok-value.ensures in
    rw found.2 (seen_next g c.loop-i.meter rows c.args.point.now col i c.loop-i.bounds c.in-Some.next row value c.loop-i.invariant low is
    c.requires.inside formed.width c.requires.zero has found.0 (rw c.loop-i.invariant.same at found.1) met)

pub returns-clause-exact : goal.returns-clause-exact
returns-clause-exact c =
    let all : length c.args.rows.now ≤ c.loop-i.i = grind arith in (
      seen_all c.args.meter.now c.loop-i.meter c.args.rows.now c.args.point.now c.args.col c.loop-i.i c.loop-i.bounds c.number.result c.loop-i.invariant
          all c.number.ensures,
      c.loop-i.invariant.same,
    )

pub returns-clause-small : goal.returns-clause-small
returns-clause-small c = λ bits w a.
    seen_small c.args.meter.now c.loop-i.meter c.args.rows.now c.args.point.now c.args.col c.loop-i.i c.loop-i.bounds c.number.result bits w
    c.loop-i.invariant a c.number.ensures
