use Rattle.std.proofs.Common.{◌≡◌, ◌≤◌, ◌+◌, ◌-◌, ◌^◌, ◌∙◌, ap, set, length, pos, arith, unsigned_abs, None, to_z, of_z, to_z-of_z}
use Rattle.std.specs.Int.{w128}
use Rattle.std.specs.List.{Any, insert}
use Rattle.std.proofs.lemmas.List.{length-set}
use Rattle.isl_meter.specs.Gauge.{Gauge}
use Rattle.isl_piece.specs.Row.{FormPassesLimit}
use Rattle.isl_piece.specs.System.{HoldRows}
use Rattle.isl_elim.specs.Between.{AreSmallAt, IsBest}
use Rattle.isl_elim.proofs.SampleLaws.{put_fits, put_holds, put_left, put_small, put_width}
use Rattle.isl_elim.proofs.TameLaws.{tame_ok}
use Rattle.isl_elim.proofs.sample.completed.Goals as goal

pub returns-in_err-number-clause-tame : goal.returns-in_err-number-clause-tame
returns-in_err-number-clause-tame c = λ bits most full some room given left y holds.
    let put : c.insert.new.self.items ≡ insert c.args.point.items c.args.col (pos 0) = grind arith in
    let given_rows : c.as_slice.result.now ≡ c.args.rows.now = grind arith in
    let given_point : c.as_slice-2.result.now ≡ insert c.args.point.items c.args.col (pos 0) = grind arith in
    let small : AreSmallAt c.args.meter.now bits (2 ^ most - 2 ^ (bits + 1)) c.as_slice.result.now c.as_slice-2.result.now =
    rw (given_rows, given_point) (put_small c.args.meter.now bits most c.args.col c.args.rows.now c.args.point.items full some room given left) in
    absurd (c.in_err-number.ensures.small bits (2 ^ most - 2 ^ (bits + 1)) small)

pub returns-in_default-clause-tame : goal.returns-in_default-clause-tame
returns-in_default-clause-tame c = λ bits most full some room given left y holds.
    let put : c.insert.new.self.items ≡ insert c.args.point.items c.args.col (pos 0) = grind arith in
    let none : c.in_ok-number.field-0 ≡ None = grind arith in
    let given_rows : c.as_slice.result.now ≡ c.args.rows.now = grind arith in
    let given_point : c.as_slice-2.result.now ≡ insert c.args.point.items c.args.col (pos 0) = grind arith in
    let small : AreSmallAt c.args.meter.now bits (2 ^ most - 2 ^ (bits + 1)) c.as_slice.result.now c.as_slice-2.result.now =
    rw (given_rows, given_point) (put_small c.args.meter.now bits most c.args.col c.args.rows.now c.args.point.items full some room given left) in
    absurd (rw none at (c.in_ok-number.ensures.small bits (2 ^ most - 2 ^ (bits + 1)) small))

pub returns-in_err-hold_at-clause-tame : goal.returns-in_err-hold_at-clause-tame
returns-in_err-hold_at-clause-tame c = λ bits most full some room given left y holds.
    let g = c.args.meter.now in
    let rows = c.args.rows.now in
    let point = c.args.point.items in
    let col = c.args.col in
    let x = c.in-Some.number in
    let put : c.insert.new.self.items ≡ insert point col (pos 0) = grind arith in
    let given_rows : c.as_slice.result.now ≡ rows = grind arith in
    let given_point : c.as_slice-2.result.now ≡ insert point col (pos 0) = grind arith in
    let small : AreSmallAt g bits (2 ^ most - 2 ^ (bits + 1)) c.as_slice.result.now c.as_slice-2.result.now =
    rw (given_rows, given_point) (put_small g bits most col rows point full some room given left) in
    let number : unsigned_abs x ≤ 2 ^ bits + (2 ^ most - 2 ^ (bits + 1)) = rw c.in-Some.is at (c.in_ok-number.ensures.small bits (2 ^ most - 2 ^ (bits + 1)) small) in
    let got : c.get.result ≡ x = grind arith in
    let back : to_z w128 (of_z w128 c.get.result) ≡ x = grind (arith, to_z-of_z) in
    let same : c.number_between.new.meter ≡ g = grind arith in
    let whole : c.as_slice-3.result.now ≡ set c.insert.new.self.items col (to_z w128 (of_z w128 c.get.result)) = grind arith in
    let passes : Any (λ r. FormPassesLimit g r.coefs r.constant (set (insert point col (pos 0)) col x)) rows =
    rw (same, whole, back, put) at c.in_err-hold_at.ensures.0 in
    absurd (put_fits g bits most col rows point full some room given left x number (length point + 1) c.requires.rows
    (length-set (insert point col (pos 0)) col x ∙ put_width point col (pos 0) c.requires.col_in) passes)

pub returns-then-branch-clause-tame : goal.returns-then-branch-clause-tame
returns-then-branch-clause-tame c = λ bits most full some room given left y holds.
    let g = c.args.meter.now in
    let rows = c.args.rows.now in
    let point = c.args.point.items in
    let col = c.args.col in
    let x = c.in-Some.number in
    let put : c.insert.new.self.items ≡ insert point col (pos 0) = grind arith in
    let given_rows : c.as_slice.result.now ≡ rows = grind arith in
    let given_point : c.as_slice-2.result.now ≡ insert point col (pos 0) = grind arith in
    let small : AreSmallAt g bits (2 ^ most - 2 ^ (bits + 1)) c.as_slice.result.now c.as_slice-2.result.now =
    rw (given_rows, given_point) (put_small g bits most col rows point full some room given left) in
    let number : unsigned_abs x ≤ 2 ^ bits + (2 ^ most - 2 ^ (bits + 1)) = rw c.in-Some.is at (c.in_ok-number.ensures.small bits (2 ^ most - 2 ^ (bits + 1)) small) in
    let back : to_z w128 (of_z w128 c.get.result) ≡ x = grind (arith, to_z-of_z) in
    let same : c.hold_at.new.meter ≡ g = grind arith in
    tame_ok 0 g c.hold_at.new.meter _ _ (let u = ap (λ (h : Gauge). h.units) same in omega arith)
    (rw (back, put) (put_left g bits most col rows point full some room given left x number))

pub returns-clause-tame : goal.returns-clause-tame
returns-clause-tame c = λ bits most full some room given left y holds.
    let rows = c.args.rows.now in
    let point = c.args.point.items in
    let col = c.args.col in
    let x = c.in-Some.number in
    let g = c.args.meter.now in
    let put : c.insert.new.self.items ≡ insert point col (pos 0) = grind arith in
    let back : to_z w128 (of_z w128 c.get.result) ≡ x = grind (arith, to_z-of_z) in
    let given_rows : c.as_slice.result.now ≡ rows = grind arith in
    let given_point : c.as_slice-2.result.now ≡ insert point col (pos 0) = grind arith in
    let best : IsBest rows (insert point col (pos 0)) col x = rw (given_rows, given_point) at (rw c.in-Some.is at c.in_ok-number.ensures.exact.0).0 in
    let hold : HoldRows rows (set c.insert.new.self.items col (to_z w128 (of_z w128 c.get.result))) =
    rw (back, put) (put_holds g bits most col rows point full some room given left x y c.requires.col_in best holds) in
    absurd (grind arith)
