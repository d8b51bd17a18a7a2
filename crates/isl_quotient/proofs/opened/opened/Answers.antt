use Rattle.std.proofs.Common.{◌≡◌, ◌∙◌, ◌++◌, ◌<◌, length, get_or, arith}
use Rattle.isl_elim.specs.Opened.{definition_rows}
use Rattle.isl_elim.proofs.OpenedLaws.{definition_inside, opened_step, opened_end}
use Rattle.isl_quotient.proofs.OpeningLaws.{whole_within}
use Rattle.isl_quotient.proofs.opened.opened.Goals as goal

pub push_definition-requires-clause-definition : goal.push_definition-requires-clause-definition
push_definition-requires-clause-definition c =
    let s = c.args.system.now in
    let d = c.definition-item.result in
    let i = c.loop-definition.definition-index in
    let inside : i < length s.definitions = grind arith in
    let at : d ≡ get_or s.definitions i d = grind arith in
    let same : c.loop-definition.meter ≡ c.args.meter.now = c.loop-definition.invariant.2 in
    rw same (definition_inside c.args.meter.now s i d c.requires.well_formed inside at).0

pub loop-definition-preserved : goal.loop-definition-preserved
loop-definition-preserved c =
    let s = c.args.system.now in
    let d = c.definition-item.result in
    let i = c.loop-definition.definition-index in
    let inside : i < length s.definitions = grind arith in
    let at : d ≡ get_or s.definitions i d = grind arith in
    let same : c.loop-definition.meter ≡ c.args.meter.now = c.loop-definition.invariant.2 in
    let told = c.in_ok-push_definition.ensures in (
      opened_step s i d c.loop-definition.rows c.push_definition.new.rows inside at c.loop-definition.invariant.0 told.0.0,
      rw same at
          told.0.1,
      told.1 ∙ same,
    )

pub returns : goal.returns
returns c =
    let g = c.args.meter.now in
    let s = c.args.system.now in
    let i = c.loop-definition.definition-index in
    let end : i ≡ length s.definitions = grind arith in
    let same : c.loop-definition.meter ≡ g = c.loop-definition.invariant.2 in
    let all : c.loop-definition.rows ≡ s.rows ++ definition_rows s.columns s.definitions =
    opened_end s i c.loop-definition.rows end c.loop-definition.invariant.0 in
    (whole_within g s c.loop-definition.rows c.from_rows.result c.from_rows.ensures all c.loop-definition.invariant.1, same)
