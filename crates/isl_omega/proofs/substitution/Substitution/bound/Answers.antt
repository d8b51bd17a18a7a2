use Rattle.std.proofs.Common.{◌≡◌, arith}
use Rattle.isl_omega.specs.Substitution.{substituted}
use Rattle.isl_omega.specs.Tighten.{IsTightened}
use Rattle.isl_omega.proofs.MoveLemmas.{substituted_formed, moved_bound}
use Rattle.isl_omega.proofs.substitution.Substitution.bound.Goals as goal

pub tightened-requires-clause-well_formed : goal.tightened-requires-clause-well_formed
tightened-requires-clause-well_formed c =
    let s = c.args.self.now in
    let row = c.args.row.now in
    let is : c.in_ok-moved.moved ≡ substituted s.scale s.offsets c.args.column.at row = grind arith in
    rw is (substituted_formed c.args.column.columns c.args.column.at s.scale s.offsets row c.requires.scale c.requires.lower.formed c.requires.offsets_width)

pub returns-clause-exact : goal.returns-clause-exact
returns-clause-exact c =
    let s = c.args.self.now in
    let row = c.args.row.now in
    let is : c.in_ok-moved.moved ≡ substituted s.scale s.offsets c.args.column.at row = grind arith in
    let tight : IsTightened c.args.column.columns c.in_ok-moved.moved c.in_ok-tightened.field-0 = grind arith in
    ((moved_bound c.args.column.columns c.args.column.at s.scale s.offsets row c.in_ok-moved.moved c.in_ok-tightened.field-0 c.requires.lower.formed c.requires.offsets_width c.args.column.in_range is tight, grind arith), grind arith)
