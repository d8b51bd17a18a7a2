use Rattle.std.proofs.Common.{arith}
use Rattle.isl_blocks.proofs.WidthLaws.{total_take}
use Rattle.isl_blocks.proofs.picks.start_of.Goals as goal

pub total_of-requires : goal.total_of-requires
total_of-requires c =
    let less = total_take c.args.block c.args.widths.now in
    let fits = c.requires.fits in
    omega (arith, less, fits)
