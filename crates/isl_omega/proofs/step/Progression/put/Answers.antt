use Rattle.std.proofs.Common.{◌≡◌, map, arith}
use Rattle.isl_omega.specs.Substitution.{substituted}
use Rattle.isl_omega.proofs.StepLemmas.{moved_formed}
use Rattle.isl_omega.proofs.step.Progression.put.Goals as goal

pub copied-requires-clause-well_formed : goal.copied-requires-clause-well_formed
copied-requires-clause-well_formed c =
    let s = c.args.self.now.substitution in
    let rows = c.args.sides.now.not_divides in
    let is : c.as_slice-4.result.now ≡ map (substituted s.scale s.offsets c.args.column.at) rows = grind arith in
    rw is (moved_formed c.args.meter.now c.args.column.columns c.args.column.at s.scale s.offsets rows c.requires.progression.positive c.requires.progression.width c.requires.sided.not_divides)

pub copied-requires-2-clause-well_formed : goal.copied-requires-2-clause-well_formed
copied-requires-2-clause-well_formed c =
    let s = c.args.self.now.substitution in
    let rows = c.args.sides.now.not_divides in
    let is : c.as_slice-5.result.now ≡ map (substituted s.scale s.offsets c.args.column.at) rows = grind arith in
    rw is (moved_formed c.args.meter.now c.args.column.columns c.args.column.at s.scale s.offsets rows c.requires.progression.positive c.requires.progression.width c.requires.sided.not_divides)
