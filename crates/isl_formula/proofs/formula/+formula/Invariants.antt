use Rattle.std.proofs.Common.{◌≡◌, ◌+◌, ◌*◌, ◌-◌, ℕ, [], ◌∷◌}
use Rattle.isl_token.specs.Reading.{row, rest_of, sees}
use Rattle.isl_formula.specs.declared.formula.Operator.{Operator}
use Rattle.isl_formula.specs.declared.formula.Operator.TheVariants.{Implies, Or, And}
use Rattle.isl_formula.specs.Formula.{sign_of, next_of, unary}
use Rattle.isl_formula.proofs.formula.+formula.Given as goal

-- how many operators bind more tightly
abbrev rank : Operator → ℕ
rank And = 0
rank Or = 1
rank Implies = 2

abbrev pub decreases-group : goal.decreases-group
decreases-group l = 32 * l.depth + 10

abbrev pub decreases-negated : goal.decreases-negated
decreases-negated l = 32 * l.depth + 10

abbrev pub decreases-bound : goal.decreases-bound
decreases-bound l = 32 * l.depth + 11

abbrev pub decreases-bound_in_brackets : goal.decreases-bound_in_brackets
decreases-bound_in_brackets l = 32 * l.depth + 12

abbrev pub decreases-exists : goal.decreases-exists
decreases-exists l = 32 * l.depth + 13

abbrev pub decreases-other : goal.decreases-other
decreases-other l = 32 * l.depth + 13

abbrev pub decreases-unary_level : goal.decreases-unary_level
decreases-unary_level l = 32 * l.depth + 14

abbrev pub decreases-unary : goal.decreases-unary
decreases-unary l = 32 * l.depth + 15

abbrev pub decreases-operand : goal.decreases-operand
decreases-operand l = 32 * l.depth + 16 + 4 * rank l.operator

abbrev pub decreases-next_operand : goal.decreases-next_operand
decreases-next_operand l = 32 * l.depth + 17 + 4 * rank l.operator

abbrev pub decreases-others : goal.decreases-others
decreases-others l = 32 * l.depth + 18 + 4 * rank l.operator

abbrev pub decreases-row : goal.decreases-row
decreases-row l = 32 * l.depth + 19 + 4 * rank l.operator

abbrev pub decreases-formula : goal.decreases-formula
decreases-formula l = 32 * l.depth + 28

abbrev pub invariant-others-loop-turn : goal.invariant-others-loop-turn
invariant-others-loop-turn l = row (sees (sign_of l.operator)) (next_of (unary l.depth) l.operator) (l.fn.first ∷ l.fn.second ∷ [])
    l.fn.tokens ≡ rest_of (sees (sign_of l.operator)) (next_of (unary l.depth) l.operator) (l._turn-end - l._turn) l.found l.tokens
