use Rattle.std.proofs.Common.{◌≡◌, arith, to_z-of_z}
use Rattle.std.proofs.lemmas.Grind.{common_steps}
use Rattle.isl_piece.specs.System.{with_definition}
use Rattle.isl_affine.proofs.DivisionLaws.{defined}
use Rattle.isl_affine.proofs.division.define.Goals as goal

pub returns : goal.returns
returns c =
    let exact : c.define.new.self ≡ with_definition c.args.system.now
    (record { coefs = c.as_slice-2.result.now; constant = c.get.result; k = c.get-2.result }) = grind (arith, common_steps, to_z-of_z) in
    defined c.args.meter.now c.args.system.now c.define.new.self c.args.form.now c.args.k c.in_ok-coefs.coefs c.pad.new.coefs
    c.as_slice.result.now c.in_ok-numbers.numbers.items c.as_slice-2.result.now c.get.result c.get-2.result c.in_ok-column.column c.requires
    c.in_ok-coefs.ensures c.in_ok-pad.ensures c.as_slice.ensures c.in_ok-numbers.ensures c.as_slice-2.ensures.value c.get.ensures
    c.get-2.ensures c.in_ok-column.ensures.place exact
