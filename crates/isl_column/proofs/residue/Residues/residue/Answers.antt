use Rattle.std.proofs.Common.{◌≡◌, [], arith}
use Rattle.isl_piece.specs.Row.{IsRowWithin}
use Rattle.isl_omega.specs.Step.{residue_row}
use Rattle.isl_omega.specs.Step.{IsSubstitutionOf}
use Rattle.isl_omega.specs.Substitution.{IsProgressionOf}
use Rattle.isl_shadows.proofs.ResidueLemmas.{residue_is}
use Rattle.isl_column.proofs.residue.Residues.residue.Goals as goal

pub returns : goal.returns
returns c =
    let g = c.args.meter.now in
    let p = c.in_ok-progression.progression in
    let s = p.substitution in
    let one = residue_row c.args.column.columns c.args.column.at c.args.self.now.period c.args.rest in
    let is : p.merged ≡ one = grind arith in
    let none : p.residual ≡ [] = grind arith in
    let within : IsRowWithin g p.merged = grind arith in
    let progression : IsProgressionOf c.args.column.columns c.args.column.at p.merged s.scale s.offsets = grind arith in
    let moved : IsSubstitutionOf g c.args.column.columns c.args.column.at p.merged p.residual s.scale s.offsets c.args.self.now.sides c.in_ok-new.new = grind arith in (
      residue_is g c.args.column.columns c.args.column.at c.args.self.now.period c.args.rest s.scale s.offsets c.args.self.now.sides c.in_ok-new.new (record {
        inside = c.args.column.in_range;
        sided = c.requires.sided;
        divides = c.requires.divides;
        period = c.requires.period;
        within = rw is at within;
        progression = rw is at progression;
        moved = rw (is, none) at moved;
      }),
      grind arith,
    )
