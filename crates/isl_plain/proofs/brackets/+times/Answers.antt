use Rattle.std.proofs.Common.{◌≡◌, ◌++◌, subst}
use Rattle.std.specs.Result.{IfOk}
use Rattle.isl_tree.specs.Term.{Term}
use Rattle.isl_plain.proofs.BracketLaws.{factor_inner}
use Rattle.isl_plain.proofs.brackets.+times.Goals as goal

pub push_factor-returns-in-Inner : goal.push_factor-returns-in-Inner
push_factor-returns-in-Inner t c =
    subst (λ (made : Term). IfOk c.push_term.result (λ x. c.push_term.new.parts ≡ c.args.parts.now ++ made))
    (factor_inner c.args.negative c.args.numbers c.as_slice-in-Inner.result.now c.args.factor.now c.in-Inner.term c.as_slice.result.now
    c.in-Inner.is c.as_slice.ensures c.as_slice-in-Inner.ensures)
    c.push_term.ensures
