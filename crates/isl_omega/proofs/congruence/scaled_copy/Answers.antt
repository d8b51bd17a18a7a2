use Rattle.std.proofs.Common.{◌≡◌, pos, arith}
use Rattle.isl_piece.specs.Combine.{combination}
use Rattle.isl_omega.specs.Congruence.{reduced_row}
use Rattle.isl_omega.proofs.ReduceLemmas.{scaled_positive, scaled_row}
use Rattle.isl_omega.proofs.congruence.scaled_copy.Goals as goal

pub reduced_copy-requires-clause-modulus : goal.reduced_copy-requires-clause-modulus
reduced_copy-requires-clause-modulus c =
    let row = c.args.row.now in
    let scaled : c.in_ok-scaled.scaled ≡ combination c.args.m row (pos 0) row = grind arith in
    scaled_positive c.args.columns c.args.m row c.in_ok-scaled.scaled c.requires.m_positive c.requires.kind c.requires.well_formed scaled

pub returns : goal.returns
returns c =
    let row = c.args.row.now in
    let scaled : c.in_ok-scaled.scaled ≡ combination c.args.m row (pos 0) row = grind arith in
    let small : c.in_ok-reduced_copy.field-0 ≡ reduced_row c.in_ok-scaled.scaled = grind arith in (
      (scaled_row c.args.columns c.args.m row c.in_ok-scaled.scaled c.in_ok-reduced_copy.field-0 c.requires.m_positive c.requires.kind c.requires.well_formed scaled small, grind arith),
      grind arith,
    )
