use Rattle.std.proofs.Common.{◌≡◌, ◌++◌, ◌∷◌, [], Some, None, Err, sym, refl, ◌∙◌, arith}
use Rattle.std.proofs.lemmas.Result.{err_from_is_err_and}
use Rattle.isl_math.proofs.Ring.{linear}
use Rattle.isl_meter.specs.declared.Cut.TheVariants.{NoMemory}
use Rattle.isl_shadows.specs.Exact.{exact_rows}
use Rattle.isl_shadows.specs.Solved.{solved_rows}
use Rattle.isl_column.proofs.PartsLemmas.{same_limit, answered_first, answered_next, answered_all, answered_units, left_all}
use Rattle.isl_shadows.proofs.TameLemmas.{tame_cut, tame_never, tame_ok, tame_used}
use Rattle.isl_column.proofs.eliminate.eliminate_rows.Goals as goal

pub loop-answers-init : goal.loop-answers-init
loop-answers-init c =
    let e = c.in_ok-parts.ensures in
    let none : c.new-answers.result.items ≡ [] = grind arith in
    rw none (answered_first c.args.meter.now c.of.new.meter c.args.column.columns c.args.column.at c.args.rows.now c.in_ok-parts.parts e.exact.0 e.exact.1 e.units e.equality e.magnitude e.exact_column e.solved_column e.pairs
    (λ exact none. ((e.tame.exact exact none).answered tt).units))

pub returns-in_err-left-clause-units : goal.returns-in_err-left-clause-units
returns-in_err-left-clause-units c =
    let g = c.args.meter.now in
    let h = c.loop-answers.meter in
    let k = c.next.new.meter in
    let a = c.loop-answers.invariant in
    let own = c.in_err-left.ensures.units in
    let before = a.units in
    omega (arith, linear)

pub returns-in_err-left-clause-equality : goal.returns-in_err-left-clause-equality
returns-in_err-left-clause-equality c = λ q.
    let g = c.args.meter.now in
    let h = c.loop-answers.meter in
    let k = c.next.new.meter in
    let a = c.loop-answers.invariant in
    let own = c.in_err-left.ensures.units in
    let least = c.in_err-left.ensures.exact.kept.units in
    let before = a.equality q in
    let same = before.0 in
    let none = before.1 in
    omega (arith, linear)

pub loop-answers-preserved : goal.loop-answers-preserved
loop-answers-preserved c =
    let g = c.args.meter.now in
    let h = c.loop-answers.meter in
    let k = c.next.new.meter in
    let a = c.loop-answers.invariant in
    let left = c.in-Some.left in
    let found : c.in_ok-left.field-0 ≡ Some left = grind arith in
    let e = rw found at c.in_ok-left.ensures.exact in
    let rest = rw found at c.in_ok-left.ensures.rest in
    let counted = rw found at c.in_ok-left.ensures.counted in
    let alone = rw found at c.in_ok-left.ensures.alone in
    let pairs = c.in_ok-left.ensures.pairs in
    let magnitude = rw found at c.in_ok-left.ensures.magnitude in
    let more : c.push_list.new.lists.items ≡ c.loop-answers.answers.items ++ left ∷ [] = grind arith in
    answered_next g h k c.args.column.columns c.args.column.at c.args.rows.now c.loop-answers.answers.items c.push_list.new.lists.items c.loop-answers.parts c.next.new.self left a e.0 e.1 rest counted (λ bits x. magnitude (same_limit g h a.charged ∙ bits) x) alone pairs more

pub returns-in_err-push_list-clause-units : goal.returns-in_err-push_list-clause-units
returns-in_err-push_list-clause-units c =
    let g = c.args.meter.now in
    let h = c.loop-answers.meter in
    let k = c.next.new.meter in
    let a = c.loop-answers.invariant in
    let own = c.in_ok-left.ensures.units in
    let before = a.units in
    omega (arith, linear)

pub returns-in_err-push_list-clause-equality : goal.returns-in_err-push_list-clause-equality
returns-in_err-push_list-clause-equality c = λ q.
    let g = c.args.meter.now in
    let h = c.loop-answers.meter in
    let k = c.next.new.meter in
    let a = c.loop-answers.invariant in
    let own = c.in_ok-left.ensures.units in
    let least = c.in_ok-left.ensures.exact.1.units in
    let before = a.equality q in
    let same = before.0 in
    let none = before.1 in
    omega (arith, linear)

pub returns-clause-projection : goal.returns-clause-projection
returns-clause-projection c =
    let g = c.args.meter.now in
    let h = c.loop-answers.meter in
    let k = c.next.new.meter in
    let a = c.loop-answers.invariant in
    let found : c.in_ok-left.field-0 ≡ None = grind arith in
    let e = rw found at c.in_ok-left.ensures.exact in
    answered_all g h c.args.column.columns c.args.column.at c.args.rows.now c.loop-answers.answers.items c.loop-answers.parts a e.0

pub returns-clause-exact_column : goal.returns-clause-exact_column
returns-clause-exact_column c = λ exact none.
    let rows = c.args.rows.now in
    let found : c.in_ok-left.field-0 ≡ None = grind arith in
    let alone = rw found at c.in_ok-left.ensures.alone in
    left_all c.loop-answers.answers.items c.loop-answers.parts (exact_rows rows c.args.column.at) (c.loop-answers.invariant.exact exact none) (λ head x. sym (alone head x).0)

pub returns-clause-solved_column : goal.returns-clause-solved_column
returns-clause-solved_column c = λ equality.
    let rows = c.args.rows.now in
    let found : c.in_ok-left.field-0 ≡ None = grind arith in
    let alone = rw found at c.in_ok-left.ensures.alone in
    left_all c.loop-answers.answers.items c.loop-answers.parts (solved_rows rows c.args.column.at) (c.loop-answers.invariant.solved equality) (λ head x. sym (alone head x).0)

pub returns-clause-pairs : goal.returns-clause-pairs
returns-clause-pairs c = λ none.
    let own = c.in_ok-left.ensures.pairs in
    let before = c.loop-answers.invariant.pairs none in
    omega arith

pub returns-clause-units : goal.returns-clause-units
returns-clause-units c =
    let g = c.args.meter.now in
    let h = c.loop-answers.meter in
    let k = c.next.new.meter in
    let a = c.loop-answers.invariant in
    let own = c.in_ok-left.ensures.units in
    let before = a.units in
    omega (arith, linear)

pub returns-clause-equality : goal.returns-clause-equality
returns-clause-equality c = λ q.
    let g = c.args.meter.now in
    let h = c.loop-answers.meter in
    let k = c.next.new.meter in
    let a = c.loop-answers.invariant in
    let own = c.in_ok-left.ensures.units in
    let least = c.in_ok-left.ensures.exact.1.units in
    let before = a.equality q in
    let same = before.0 in
    let none = before.1 in
    omega (arith, linear)

pub returns-in_err-parts-clause-tame : goal.returns-in_err-parts-clause-tame
returns-in_err-parts-clause-tame c =
    let p = err_from_is_err_and c.from_residual.result c.from_residual.ensures.1 in
    rw (p.1, p.2) (tame_cut c.args.meter.now c.of.new.meter c.args.rows.now c.args.column.at c.in_err-parts.field-0.0 c.in_err-parts.ensures.tame)

pub returns-in_err-left-clause-tame : goal.returns-in_err-left-clause-tame
returns-in_err-left-clause-tame c =
    let a = c.loop-answers.invariant in
    let alone = c.in_err-left.ensures.alone in
    tame_never c.args.meter.now c.next.new.meter c.args.rows.now c.args.column.at _
    (λ exact none. let head = a.exact exact none in alone head.head head.alone) (λ equality. let head = a.solved equality in alone head.head head.alone)

pub returns-in_err-push_list-clause-tame : goal.returns-in_err-push_list-clause-tame
returns-in_err-push_list-clause-tame c =
    let g = c.args.meter.now in
    let k = c.next.new.meter in
    let rows = c.args.rows.now in
    let col = c.args.column.at in
    let p = err_from_is_err_and c.from_residual-in_err-push_list.result c.from_residual-in_err-push_list.ensures.1 in
    let few = answered_units g c.loop-answers.meter k c.args.column.columns col rows c.loop-answers.answers.items c.loop-answers.parts c.in_ok-left.field-0
    c.loop-answers.invariant c.in_ok-left.ensures.alone in
    rw (p.1, p.2) (tame_used g k rows col (Err NoMemory) refl few.0 few.1)

pub returns-clause-tame : goal.returns-clause-tame
returns-clause-tame c =
    let g = c.args.meter.now in
    let k = c.next.new.meter in
    let rows = c.args.rows.now in
    let col = c.args.column.at in
    let few = answered_units g c.loop-answers.meter k c.args.column.columns col rows c.loop-answers.answers.items c.loop-answers.parts c.in_ok-left.field-0
    c.loop-answers.invariant c.in_ok-left.ensures.alone in
    tame_ok g k rows col _ few.0 few.1
