use Rattle.std.proofs.Common.{◌≡◌, ◌-ℤ◌, pos, set, arith}
use Rattle.std.specs.Prelude.{replicate}
use Rattle.isl_meter.specs.Gauge.{IsWithin}
use Rattle.isl_piece.specs.declared.row.RowKind.TheVariants.{Zero}
use Rattle.isl_presolve.proofs.FixedLaws.{number_row_holds, number_row_proper}
use Rattle.isl_presolve.proofs.fixed.number_row.Goals as goal

pub returns : goal.returns
returns c =
    let g = c.args.meter.now in
    let columns = c.args.columns in
    let col = c.args.col in
    let row = c.new.result in
    let kind : row.kind ≡ Zero = grind arith in
    let coefs : row.coefs ≡ set (replicate columns (pos 0)) col (pos 1) = grind arith in
    let constant : row.constant ≡ pos 0 -ℤ c.args.number = grind arith in
    let k : row.k ≡ pos 1 = grind arith in
    let within : IsWithin g row.constant = grind arith in
    let same : c.sub.new.meter ≡ g = grind arith in (
      (
        number_row_proper g columns col c.args.number row c.requires.inside kind coefs constant k c.requires.one within,
        number_row_holds columns col c.args.number row c.requires.inside kind coefs constant,
      ),
      same,
    )
