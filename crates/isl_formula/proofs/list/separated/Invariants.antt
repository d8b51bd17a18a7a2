use Rattle.std.proofs.Common.{◌≡◌, ◌-◌}
use Rattle.isl_token.specs.Reading.{rest_of, sees, separated, after_sign}
use Rattle.isl_formula.proofs.list.separated.Given as goal

abbrev pub invariant-loop-turn : goal.invariant-loop-turn
invariant-loop-turn g l =
    separated l.fn.sign (g.R.ItemReader.reads l.fn.item) l.fn.tokens
    ≡ rest_of (sees l.sign) (after_sign (g.R.ItemReader.reads l.item)) (l._turn-end - l._turn) l.found l.tokens
