use Rattle.std.proofs.Common.{◌∙◌, sym}
use Rattle.std.proofs.lemmas.Bool.{false≢true}
use Rattle.isl_assumed.proofs.RegionLaws.{none_all, none_more}
use Rattle.isl_assumed.proofs.region.hold_at_any.Goals as goal

pub loop-system-preserved : goal.loop-system-preserved
loop-system-preserved c =
    let told = c.in_ok-holds_at.ensures in
    record {
      none = none_more c.args.systems.now c.loop-system.system-index c.system-item.result c.args.point.now c.loop-system-test.true
          c.system-item.is c.loop-system.invariant.none (λ holds. false≢true (sym c.if-branch.false ∙ told.0.1 holds));
      meter = told.1 ∙ c.loop-system.invariant.meter;
    }

pub returns : goal.returns
returns c = (
  (
    (λ no. absurd (false≢true no)),
    (λ any. absurd (none_all c.args.systems.now c.loop-system.system-index c.args.point.now c.loop-system-test.false
        c.loop-system.invariant.none any)),
  ),
  c.loop-system.invariant.meter,
)
