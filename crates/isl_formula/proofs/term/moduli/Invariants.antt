use Rattle.std.proofs.Common.{◌≡◌, ◌-◌}
use Rattle.isl_token.specs.declared.token.Kind.TheVariants as k
use Rattle.isl_token.specs.Reading.{rest_of, sees}
use Rattle.isl_formula.specs.Term.{moduli, modulus}
use Rattle.isl_formula.proofs.term.moduli.Given as goal

abbrev pub invariant-loop-turn : goal.invariant-loop-turn
invariant-loop-turn l = moduli l.fn.tokens ≡ rest_of (sees k.Mod) modulus (l._turn-end - l._turn) l.found l.tokens
