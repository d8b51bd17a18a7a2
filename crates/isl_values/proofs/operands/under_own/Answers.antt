use Rattle.std.proofs.Common.{◌∙◌, ap, subst, sym}
use Rattle.std.specs.Prelude.{unsigned_abs}
use Rattle.isl_meter.specs.Gauge.{limit_of}
use Rattle.isl_values.specs.Live.{narrows}
use Rattle.isl_state.specs.State.{HasNumbersUpTo}
use Rattle.isl_values.proofs.UnderLaws.{own_answer}
use Rattle.isl_values.proofs.operands.under_own.Goals as goal

pub own_copy-requires-clause-numbers : goal.own_copy-requires-clause-numbers
own_copy-requires-clause-numbers c =
    subst (HasNumbersUpTo (unsigned_abs (limit_of c.args.meter.now))) (sym c.deref.ensures) c.requires.numbers

pub returns-in-Where : goal.returns-in-Where
returns-in-Where c =
    own_answer (λ v. v.value) c.args.state.now c.assumed-in-Where.result.now c.args.meter.now c.own_copy.new.meter c.args.value.value
    c.deref.result.now c.assumed-in-Where.ensures c.deref.ensures (ap narrows (sym c.assumed.ensures ∙ c.in-Where.is)) c.own_copy.result
    c.own_copy.ensures
