use Rattle.std.proofs.Common.{◌≡◌, ◌+◌, ◌*◌, arith}
use Rattle.std.specs.List.{All}
use Rattle.std.proofs.lemmas.Grind.{common_steps}
use Rattle.std.proofs.lemmas.Result.{err_from_is_err_and}
use Rattle.isl_meter.proofs.CutLemmas.{charges}
use Rattle.isl_piece.specs.Negation.{negation_of}
use Rattle.isl_piece.specs.System.{free_columns}
use Rattle.isl_ledger.specs.Difference.{IsDifferenceRow}
use Rattle.isl_ledger.proofs.DifferenceLaws.{differences_negated}
use Rattle.isl_difference.specs.Difference.{IsPartition}
use Rattle.isl_difference.specs.Split.{HoldsWithAny, IsLive}
use Rattle.isl_difference.specs.Tame.{test_work}
use Rattle.isl_difference.proofs.SplitLaws.{denied_exclusive, denied_tame, failing_all, negated_cut, paid_all}
use Rattle.isl_difference.proofs.split.failing.Goals as goal

pub holding-requires-clause-exclusive : goal.holding-requires-clause-exclusive
holding-requires-clause-exclusive c =
    let are : c.in_ok-denied.denied ≡ negation_of c.args.row.now = grind (arith, common_steps) in
    denied_exclusive c.args.row.now c.in_ok-denied.denied are

pub returns-clause-exact : goal.returns-clause-exact
returns-clause-exact c =
    let g = c.args.meter.now in
    let s = c.args.system.now in
    let denied = c.in_ok-denied.denied in
    let parts = c.in_ok-parts.parts.items in
    let some : IsPartition (IsLive g (free_columns s)) (free_columns s) (HoldsWithAny s denied) parts = grind (arith, common_steps) in
    (failing_all g s c.args.row.now denied parts c.in_ok-denied.ensures.points some, grind (arith, charges))

pub returns-clause-paid : goal.returns-clause-paid
returns-clause-paid c =
    let g = c.args.meter.now in
    let h = c.negate.new.meter in
    let k = c.holding.new.meter in
    let row = c.args.row.now in
    let denied = c.in_ok-denied.denied in
    let exact = c.in_ok-denied.ensures.exact in
    paid_all g h k (negation_of row) denied c.in_ok-parts.parts.items exact.1 exact.0 c.in_ok-parts.ensures.paid

pub returns-in_err-denied-clause-tame : goal.returns-in_err-denied-clause-tame
returns-in_err-denied-clause-tame c = λ columns bits limit room d row.
    let error = err_from_is_err_and c.from_residual.result c.from_residual.ensures.1 in
    rw (error.1, error.2) (negated_cut columns bits (2 * test_work columns) c.args.meter.now c.negate.new.meter _ c.args.row.now
    c.in_err-denied.field-0.0 limit room row c.in_err-denied.ensures.exact)

pub returns-in_err-parts-clause-tame : goal.returns-in_err-parts-clause-tame
returns-in_err-parts-clause-tame c = λ columns bits limit room d row.
    let g = c.args.meter.now in
    let denied = c.in_ok-denied.denied in
    let exact = c.in_ok-denied.ensures.exact in
    let rows : All (IsDifferenceRow (bits + 1)) denied = rw exact.0 (differences_negated bits c.args.row.now row) in
    let cut = (rw exact.1 at c.in_err-parts.ensures.tame) columns (bits + 1) limit room d rows in
    let error = err_from_is_err_and c.from_residual-in_err-parts.result c.from_residual-in_err-parts.ensures.1 in
    rw (error.1, error.2) (denied_tame columns g c.holding.new.meter _ c.args.row.now denied _ exact.0 cut)

pub returns-clause-tame : goal.returns-clause-tame
returns-clause-tame c = λ columns bits limit room d row.
    let g = c.args.meter.now in
    let denied = c.in_ok-denied.denied in
    let exact = c.in_ok-denied.ensures.exact in
    let rows : All (IsDifferenceRow (bits + 1)) denied = rw exact.0 (differences_negated bits c.args.row.now row) in
    let some = (rw exact.1 at c.in_ok-parts.ensures.tame) columns (bits + 1) limit room d rows in
    denied_tame columns g c.holding.new.meter _ c.args.row.now denied _ exact.0 some
