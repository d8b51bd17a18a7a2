use Rattle.std.proofs.Common.{◌≡◌, arith}
use Rattle.isl_omega.specs.Congruence.{AreMergedTo}
use Rattle.isl_omega.specs.Step.{IsSubstitutionOf}
use Rattle.isl_omega.specs.Substitution.{IsProgressionOf}
use Rattle.isl_omega.proofs.StepLemmas.{one_from_merged, step_is}
use Rattle.isl_omega.proofs.SmallSteps.{moved_up_to}
use Rattle.isl_omega.proofs.step.congruence_step.Goals as goal

pub returns-clause-exact : goal.returns-clause-exact
returns-clause-exact c =
    let sides = c.args.sides.now in
    let p = c.in_ok-progression.progression in
    let s = p.substitution in
    let merged : AreMergedTo c.args.meter.now c.args.column.columns c.args.column.at sides.divides p.merged p.residual = grind arith in
    let progression : IsProgressionOf c.args.column.columns c.args.column.at p.merged s.scale s.offsets = grind arith in
    let moved : IsSubstitutionOf c.args.meter.now c.args.column.columns c.args.column.at p.merged p.residual s.scale s.offsets sides c.in_ok-new.new = grind arith in (
      step_is c.args.meter.now c.args.column.columns c.args.column.at p.merged p.residual s.scale s.offsets sides c.in_ok-new.new
          (record { inside = c.args.column.in_range; sided = c.requires.sided; merged = one_from_merged c.args.meter.now c.args.column.columns c.args.column.at sides.divides p.merged p.residual merged; progression = progression; moved = moved }),
      grind arith,
    )

pub returns-clause-no_overflow : goal.returns-clause-no_overflow
returns-clause-no_overflow c = λ bits small few.
    let sides = c.args.sides.now in
    let p = c.in_ok-progression.progression in
    let s = p.substitution in
    let moved : IsSubstitutionOf c.args.meter.now c.args.column.columns c.args.column.at p.merged p.residual s.scale s.offsets sides c.in_ok-new.new = grind arith in
    let divides : c.as_slice.result.now ≡ sides.divides = grind arith in
    let own = c.in_ok-progression.ensures.no_overflow bits (rw divides (small.divides)) (rw divides few) in
    moved_up_to c.args.meter.now c.args.column.columns c.args.column.at p.merged p.residual s.scale s.offsets sides c.in_ok-new.new moved own.0 own.1 own.2 own.3 small
