use Rattle.std.proofs.Common.{◌≡◌, ap, arith}
use Rattle.std.proofs.lemmas.Result.{err_from_is_err_and}
use Rattle.isl_meter.specs.Gauge.{Gauge, spent_out}
use Rattle.isl_omega.specs.Units.{paid}
use Rattle.isl_omega.proofs.ExactUnits.{answered_ok}
use Rattle.isl_shadows.proofs.TameLemmas.{answered_behind, answered_memory, answered_refused}
use Rattle.isl_column.proofs.exact.push_pair.Goals as goal

pub returns-in_err-unit-clause-answered : goal.returns-in_err-unit-clause-answered
returns-in_err-unit-clause-answered c =
    let g = c.args.meter.now in
    let k = c.unit.new.self in
    let full : g.units ≡ g.budget = grind arith in
    let out : k ≡ spent_out g = grind arith in
    let p = err_from_is_err_and c.from_residual.result c.from_residual.ensures.1 in
    rw (p.1, p.2) (λ few. answered_refused 1 g k (omega arith) full out)

pub returns-in_err-real-clause-no_overflow : goal.returns-in_err-real-clause-no_overflow
returns-in_err-real-clause-no_overflow c = λ u w low up room.
    let one : c.unit.new.self ≡ paid 1 c.args.meter.now = grind arith in
    let p = err_from_is_err_and c.from_residual-in_err-real.result c.from_residual-in_err-real.ensures.1 in
    rw (p.1, p.2) (c.in_err-real.ensures.no_overflow u w low up (rw (ap (λ (x : Gauge). x.bits) one) room))

pub returns-in_err-real-clause-answered : goal.returns-in_err-real-clause-answered
returns-in_err-real-clause-answered c =
    let g = c.args.meter.now in
    let h = c.unit.new.self in
    let k = c.real_row_without.new.meter in
    let one : h ≡ paid 1 g = grind arith in
    let p = err_from_is_err_and c.from_residual-in_err-real.result c.from_residual-in_err-real.ensures.1 in
    rw (p.1, p.2) (λ few. answered_behind 1 0 1 g h k c.in_err-real.field-0.0 (omega arith) one (c.in_err-real.ensures.answered few))

pub returns-in_err-push-clause-answered : goal.returns-in_err-push-clause-answered
returns-in_err-push-clause-answered c =
    let g = c.args.meter.now in
    let k = c.real_row_without.new.meter in
    let one : k ≡ paid 1 g = grind arith in
    let p = err_from_is_err_and c.from_residual-in_err-push.result c.from_residual-in_err-push.ensures.1 in
    rw (p.1, p.2) (λ few. answered_memory 1 1 g k (omega arith) one)

pub returns-clause-answered : goal.returns-clause-answered
returns-clause-answered c = λ few.
    let k = c.real_row_without.new.meter in
    let one : k ≡ paid 1 c.args.meter.now = grind arith in
    answered_ok 1 c.args.meter.now k _ one
