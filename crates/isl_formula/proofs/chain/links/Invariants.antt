use Rattle.std.proofs.Common.{◌≡◌, ◌-◌, [], ◌∷◌}
use Rattle.isl_token.specs.Reading.{row, rest_of}
use Rattle.isl_formula.specs.Term.{term}
use Rattle.isl_formula.specs.Chain.{sees_compare, link}
use Rattle.isl_formula.proofs.chain.links.Given as goal

abbrev pub invariant-loop-turn : goal.invariant-loop-turn
invariant-loop-turn l = row sees_compare (link (term l.depth)) (l.fn.first ∷ []) l.fn.tokens ≡ rest_of sees_compare (link (term l.depth))
    (l._turn-end - l._turn) l.found l.tokens
