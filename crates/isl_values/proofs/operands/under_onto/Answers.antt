use Rattle.std.proofs.Common.{◌↔◌, All, Contains, subst}
use Rattle.std.specs.Prelude.{IfOk, unsigned_abs}
use Rattle.isl_union.specs.Numbers.{HasNumbersUpTo}
use Rattle.isl_assumed.specs.Assumed.{names_of, Assumes, AssumesSome}
use Rattle.isl_assumed.proofs.MeterLaws.{sound_later}
use Rattle.isl_values.proofs.UnderLaws.{operand_made, over_declared}
use Rattle.isl_values.proofs.ValueLaws.{numbers_later, same_limit}
use Rattle.isl_values.proofs.operands.under_onto.Goals as goal

pub under-requires-clause-value : goal.under-requires-clause-value
under-requires-clause-value c =
    numbers_later c.args.meter.now c.onto.new.meter c.args.value.now c.in_ok-own.ensures.meter c.requires.numbers

pub under-requires-clause-assumed : goal.under-requires-clause-assumed
under-requires-clause-assumed c =
    sound_later c.args.meter.now c.onto.new.meter c.in_ok-own.own c.in_ok-own.ensures.meter c.in_ok-own.ensures.sound

pub under-requires-clause-declared : goal.under-requires-clause-declared
under-requires-clause-declared c =
    subst (λ ns. All (Contains ns) (names_of c.in_ok-own.own)) c.params.ensures.content
    (over_declared c.params.result.now c.in_ok-own.own c.in_ok-own.ensures.names)

pub returns-clause-under : goal.returns-clause-under
returns-clause-under c =
    let e = c.under.ensures in
    let value = c.args.value.now in
    operand_made c.args.meter.now c.args.assumed.now c.in_ok-own.own value c.under.result
    (λ v. subst (λ ns. Assumes c.in_ok-own.own v ↔ AssumesSome c.args.assumed.now ns v) c.params.ensures.content
    (c.in_ok-own.ensures.valuations v))
    e.kept e.params e.elements (λ plain. e.definitions plain (c.in_ok-own.ensures.plain c.requires.plain))
    (subst (λ z. IfOk c.under.result (HasNumbersUpTo (unsigned_abs z)))
    (same_limit c.args.meter.now c.onto.new.meter c.in_ok-own.ensures.meter) e.numbers)
