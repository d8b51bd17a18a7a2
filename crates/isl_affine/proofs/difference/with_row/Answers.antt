use Rattle.std.proofs.Common.{◌≡◌, arith, to_z-of_z}
use Rattle.std.proofs.lemmas.Grind.{common_steps}
use Rattle.isl_affine.proofs.RowLaws.{row_pushed}
use Rattle.isl_affine.proofs.difference.with_row.Goals as goal

pub returns : goal.returns
returns c =
    let same : c.in_ok-k.k ≡ c.args.k = grind (arith, common_steps, to_z-of_z) in (
      row_pushed c.args.meter.now c.args.system c.args.kind c.args.k c.in_ok-k.k c.args.form c.pad.new.coefs c.new.result c.push.new.self
          c.requires.over c.requires.modulus same c.in_ok-k.ensures.1 c.in_ok-pad.ensures c.new.ensures c.in_ok-push.ensures.ok,
      c.in_ok-k.ensures.2,
    )
