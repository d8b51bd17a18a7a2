use Rattle.std.proofs.Common.{◌≡◌, ◌∙◌, ◌-◌, ap, get_or, pos, arith}
use Rattle.std.proofs.lemmas.Result.{err_from_is_err_and}
use Rattle.isl_meter.specs.Gauge.{Gauge, IsCutUpTo}
use Rattle.isl_meter.proofs.CutLemmas.{IsAnsweredWithin-ok}
use Rattle.isl_piece.specs.declared.row.RowKind.TheVariants.{Zero}
use Rattle.isl_omega.specs.Column.{IsAnswerFor}
use Rattle.isl_omega.specs.Equality.{IsSolvedBy, solved_for}
use Rattle.isl_omega.specs.Magnitude.{IsRowUpToAt}
use Rattle.isl_omega.proofs.ExactUnits.{answered_cut}
use Rattle.isl_omega.proofs.ImageLemmas.{answer_same}
use Rattle.isl_shadows.specs.Column.{HoldAtSome}
use Rattle.isl_shadows.proofs.EliminateLemmas.{solved_projects}
use Rattle.isl_shadows.proofs.LeastEquality.{solved_is}
use Rattle.isl_column.proofs.equality.solved_left.Goals as goal

pub returns-clause-exact : goal.returns-clause-exact
returns-clause-exact c =
    let g = c.args.meter.now in
    let columns = c.args.column.columns in
    let rows = c.args.rows.now in
    let fixed = c.index-rows-at.result in
    let left = c.in_ok-left.left in
    let at : fixed ≡ get_or rows c.args.at fixed = c.index-rows-at.is in
    let zero : fixed.kind ≡ Zero = rw (← at) at (c.requires.equality.equality fixed).0 in
    let solved : IsAnswerFor g (columns - 1) (IsSolvedBy rows fixed c.args.column.at) left = grind arith in
    (answer_same g (columns - 1) (IsSolvedBy rows fixed c.args.column.at) (HoldAtSome rows c.args.column.at) (λ point n. solved_projects rows c.args.column.at c.args.at fixed point zero c.requires.equality.place at) left solved, grind arith)

pub returns-clause-left : goal.returns-clause-left
returns-clause-left c =
    let rows = c.args.rows.now in
    let fixed = c.index-rows-at.result in
    let at : fixed ≡ get_or rows c.args.at fixed = c.index-rows-at.is in
    let left : c.in_ok-left.left ≡ solved_for fixed c.args.column.at rows = grind arith in
    left ∙ solved_is c.args.column.at rows c.args.at fixed c.requires.equality at

pub returns-in_err-left-clause-no_overflow : goal.returns-in_err-left-clause-no_overflow
returns-in_err-left-clause-no_overflow c = λ u w all room.
    let rows = c.args.rows.now in
    let fixed = c.index-rows-at.result in
    let at : fixed ≡ get_or rows c.args.at fixed = c.index-rows-at.is in
    let one : IsRowUpToAt c.args.column.at u w fixed = rw (← at) at (all c.args.at fixed c.requires.equality.place) in
    let p = err_from_is_err_and c.from_residual.result c.from_residual.ensures.1 in
    rw (p.1, p.2) (c.in_err-left.ensures.no_overflow u u w w all one room)

pub returns-in_err-left-clause-answered : goal.returns-in_err-left-clause-answered
returns-in_err-left-clause-answered c =
    let g = c.args.meter.now in
    let k = c.equality_step.new.meter in
    let e = c.in_err-left.field-0.0 in
    let own : IsCutUpTo (pos 0) g k e = grind arith in
    let p = err_from_is_err_and c.from_residual.result c.from_residual.ensures.1 in
    rw (p.1, p.2) (λ few. answered_cut 0 g k e own few)

pub returns-clause-answered : goal.returns-clause-answered
returns-clause-answered c = λ few.
    let k = c.equality_step.new.meter in
    let same : k ≡ c.args.meter.now = grind arith in
    IsAnsweredWithin-ok c.args.meter.now k 1 _ (let u = ap (λ (x : Gauge). x.units) same in omega arith)
