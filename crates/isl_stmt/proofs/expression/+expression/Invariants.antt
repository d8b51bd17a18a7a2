use Rattle.std.proofs.Common.{◌≡◌, ◌+◌, ◌*◌, ◌-◌, ℕ}
use Rattle.isl_token.specs.Reading.{rest_of}
use Rattle.isl_stmt.specs.declared.operator.Precedence.{Precedence}
use Rattle.isl_stmt.specs.declared.operator.Precedence.TheVariants.{Test, Universal, Sum, Product, Join}
use Rattle.isl_stmt.specs.Operator.{sees_operator}
use Rattle.isl_stmt.specs.Expression.{links, link, operand, pre, postfixes, postfix, sees_postfix}
use Rattle.isl_stmt.proofs.expression.+expression.Given as goal

-- how many precedences are tighter
abbrev rank : Precedence → ℕ
rank Join = 0
rank Product = 1
rank Sum = 2
rank Universal = 3
rank Test = 4

abbrev pub decreases-enclosed : goal.decreases-enclosed
decreases-enclosed l = 64 * l.depth + 1

abbrev pub decreases-atom : goal.decreases-atom
decreases-atom l = 64 * l.depth + 2

abbrev pub decreases-applied : goal.decreases-applied
decreases-applied l = 64 * l.depth + 2

abbrev pub decreases-postfix : goal.decreases-postfix
decreases-postfix l = 64 * l.depth + 3

abbrev pub decreases-postfixes : goal.decreases-postfixes
decreases-postfixes l = 64 * l.depth + 4

abbrev pub decreases-post : goal.decreases-post
decreases-post l = 64 * l.depth + 5

abbrev pub decreases-flows : goal.decreases-flows
decreases-flows l = 64 * l.depth + 6

abbrev pub decreases-prefixed : goal.decreases-prefixed
decreases-prefixed l = 64 * l.depth + 1

abbrev pub decreases-pre_level : goal.decreases-pre_level
decreases-pre_level l = 64 * l.depth + 7

abbrev pub decreases-pre : goal.decreases-pre
decreases-pre l = 64 * l.depth + 8

abbrev pub decreases-operand : goal.decreases-operand
decreases-operand l = 64 * l.depth + 9 + 4 * rank l.precedence

abbrev pub decreases-link : goal.decreases-link
decreases-link l = 64 * l.depth + 10 + 4 * rank l.precedence

abbrev pub decreases-links : goal.decreases-links
decreases-links l = 64 * l.depth + 11 + 4 * rank l.precedence

abbrev pub decreases-row : goal.decreases-row
decreases-row l = 64 * l.depth + 12 + 4 * rank l.precedence

abbrev pub decreases-expression : goal.decreases-expression
decreases-expression l = 64 * l.depth + 29

abbrev pub invariant-links-loop-turn : goal.invariant-links-loop-turn
invariant-links-loop-turn l = links l.precedence (operand (pre l.depth) l.precedence) l.fn.tokens ≡ rest_of (sees_operator l.precedence)
    (link l.precedence (operand (pre l.depth) l.precedence)) (l._turn-end - l._turn) l.found l.tokens

abbrev pub invariant-postfixes-loop-turn : goal.invariant-postfixes-loop-turn
invariant-postfixes-loop-turn l = postfixes (pre (l.depth - 1)) l.fn.tokens ≡ rest_of sees_postfix (postfix (pre (l.depth - 1)))
    (l._turn-end - l._turn) l.found l.tokens
