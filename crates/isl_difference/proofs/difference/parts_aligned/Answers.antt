use Rattle.std.proofs.Common.{◌≡◌, ◌*◌, [], arith, inl, inr}
use Rattle.std.proofs.lemmas.Grind.{common_steps}
use Rattle.isl_difference.specs.Tame.{part_limit, test_work}
use Rattle.isl_difference.proofs.DifferenceLaws.{not_told, told_ok}
use Rattle.isl_difference.proofs.TameLaws.{none_left, tame_ok}
use Rattle.isl_difference.proofs.difference.parts_aligned.Goals as goal

pub returns-then-are_implied-clause-told : goal.returns-then-are_implied-clause-told
returns-then-are_implied-clause-told c = λ t. told_ok c.args.meter.now _

pub returns-then-are_implied-clause-asked : goal.returns-then-are_implied-clause-asked
returns-then-are_implied-clause-asked c = λ n.
    absurd (n (inl (rw (c.as_slice-rows.ensures, c.as_slice-others.ensures) at (c.are_implied.ensures.exact.0 c.if-are_implied.true))))

pub returns-then-are_apart-clause-told : goal.returns-then-are_apart-clause-told
returns-then-are_apart-clause-told c = λ t. told_ok c.args.meter.now _

pub returns-then-are_apart-clause-asked : goal.returns-then-are_apart-clause-asked
returns-then-are_apart-clause-asked c = λ n.
    absurd (n (inr (rw (c.as_slice-rows.ensures, c.as_slice-others.ensures) at (c.are_apart.ensures.exact.0 c.if-are_apart.true))))

pub returns-clause-told : goal.returns-clause-told
returns-clause-told c = λ t.
    absurd (not_told c.as_slice-rows.result.now c.as_slice-others.result.now c.are_implied.result c.are_apart.result c.if-are_implied.false
    c.if-are_apart.false c.are_implied.ensures.exact c.are_apart.ensures.exact (rw (c.as_slice-rows.ensures, c.as_slice-others.ensures) t))

pub returns-then-are_implied-clause-tame : goal.returns-then-are_implied-clause-tame
returns-then-are_implied-clause-tame c = λ columns bits limit room d o.
    let none : c.new.result.items ≡ [] = grind (arith, common_steps) in
    tame_ok (part_limit columns 1 * test_work columns) c.args.meter.now c.args.meter.now _ _ (omega arith)
    (none_left columns bits c.new.result.items none)

pub returns-then-are_apart-clause-tame : goal.returns-then-are_apart-clause-tame
returns-then-are_apart-clause-tame c = λ columns bits limit room d o.
    tame_ok (part_limit columns 1 * test_work columns) c.args.meter.now c.args.meter.now _ _ (omega arith) tt

pub returns-clause-tame : goal.returns-clause-tame
returns-clause-tame c = λ columns bits limit room d o. c.parts_asked.ensures.tame columns bits limit room d o
