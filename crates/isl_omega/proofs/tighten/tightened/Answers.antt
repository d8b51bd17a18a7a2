use Rattle.std.proofs.Common.{◌≡◌, arith}
use Rattle.isl_piece.specs.Normal.{Kept, normal_row}
use Rattle.isl_omega.proofs.TightenLemmas.{tightened_kept, tightened_within}
use Rattle.isl_omega.proofs.tighten.tightened.Goals as goal

pub returns-in-Stays : goal.returns-in-Stays
returns-in-Stays c =
    let is : normal_row c.args.row ≡ Kept c.settle.new.row = grind arith in
    let tight = tightened_kept c.args.columns c.args.row c.settle.new.row c.requires.kind c.requires.well_formed is in
    (tight, tightened_within c.args.meter.now c.args.columns c.args.row c.settle.new.row tight c.requires.within)
