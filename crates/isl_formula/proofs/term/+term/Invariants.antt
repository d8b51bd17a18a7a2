use Rattle.std.proofs.Common.{◌≡◌, ◌+◌, ◌*◌, ◌-◌}
use Rattle.isl_token.specs.Reading.{rest_of, head_kind}
use Rattle.isl_formula.specs.Term.{terms, signed, product, is_additive}
use Rattle.isl_formula.proofs.term.+term.Given as goal

abbrev pub decreases-product : goal.decreases-product
decreases-product l = 15 * l.depth

abbrev pub decreases-product_level : goal.decreases-product_level
decreases-product_level l = 15 * l.depth + 14

abbrev pub decreases-numbered : goal.decreases-numbered
decreases-numbered l = 15 * l.depth + 13

abbrev pub decreases-named : goal.decreases-named
decreases-named l = 15 * l.depth + 13

abbrev pub decreases-inner : goal.decreases-inner
decreases-inner l = 15 * l.depth + 12

abbrev pub decreases-held : goal.decreases-held
decreases-held l = 15 * l.depth + 11

abbrev pub decreases-modded : goal.decreases-modded
decreases-modded l = 15 * l.depth + 10

abbrev pub decreases-factor : goal.decreases-factor
decreases-factor l = 15 * l.depth + 9

abbrev pub decreases-quotient : goal.decreases-quotient
decreases-quotient l = 15 * l.depth + 8

abbrev pub decreases-in_brackets : goal.decreases-in_brackets
decreases-in_brackets l = 15 * l.depth + 7

abbrev pub decreases-in_squares : goal.decreases-in_squares
decreases-in_squares l = 15 * l.depth + 7

abbrev pub decreases-divided : goal.decreases-divided
decreases-divided l = 15 * l.depth + 7

abbrev pub decreases-enclosed : goal.decreases-enclosed
decreases-enclosed l = 15 * l.depth + 7

abbrev pub decreases-ratio : goal.decreases-ratio
decreases-ratio l = 15 * l.depth + 6

abbrev pub decreases-over : goal.decreases-over
decreases-over l = 15 * l.depth + 5

abbrev pub decreases-term : goal.decreases-term
decreases-term l = 15 * l.depth + 5

abbrev pub decreases-signed : goal.decreases-signed
decreases-signed l = 15 * l.depth + 4

abbrev pub invariant-term-loop-turn : goal.invariant-term-loop-turn
invariant-term-loop-turn l = terms (product l.depth) l.fn.tokens ≡ rest_of (λ ts. is_additive (head_kind ts)) (signed (product l.depth))
    (l._turn-end - l._turn) l.found l.tokens
