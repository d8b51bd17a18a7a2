use Rattle.std.proofs.Common.{◌∙◌, sym}
use Rattle.isl_words.proofs.NumberLemmas.{number_in, number_out, no_number}
use Rattle.isl_words.proofs.number.read_number.Goals as goal

pub returns-then-not-are_digits-clause-number : goal.returns-then-not-are_digits-clause-number
returns-then-not-are_digits-clause-number c = no_number c.args.low c.args.high c.args.text.now (sym c.are_digits.ensures
    ∙ c.if-not-are_digits.true)

pub returns-then-value-high-clause-number : goal.returns-then-value-high-clause-number
returns-then-value-high-clause-number c =
    number_in c.args.low c.args.high c.args.text.now c.saturated-value.result (sym c.are_digits.ensures
    ∙ c.if-not-are_digits.false) c.saturated-value.ensures c.requires
    c.if-low-value.true c.if-value-high.true

pub returns-else-low-value-clause-number : goal.returns-else-low-value-clause-number
returns-else-low-value-clause-number c =
    number_out c.args.low c.args.high c.args.text.now c.saturated-value.result c.saturated-value.ensures c.requires c.else-low-value.either
