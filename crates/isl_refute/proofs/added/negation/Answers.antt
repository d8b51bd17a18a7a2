use Rattle.std.proofs.Common.{rules}
use Rattle.isl_refute.proofs.WithinLaws.{negation_told, padded_out}
use Rattle.isl_refute.proofs.added.negation.Goals as goal

pub negate-requires : goal.negate-requires
negate-requires c =
    let fact = padded_out c.args.meter.now c.args.columns c.args.row.now c.requires in
    let is = c.in_ok-whole.ensures in
    search (rules, fact.formed.modulus, fact.within, is)

pub returns : goal.returns
returns c =
    negation_told c.args.meter.now c.negate.new.meter c.args.columns c.args.row.now c.in_ok-whole.whole c.negate.result
    c.in_ok-whole.ensures
    c.negate.ensures.exact c.negate.ensures.within
