use Rattle.std.proofs.Common.{◌<◌, length, arith}
use Rattle.std.proofs.lemmas.Grind.{common_steps}
use Rattle.isl_piece.proofs.IndexLaws.{found_in_slot}
use Rattle.isl_piece.proofs.index.BoundIndex.place_of.Goals as goal

pub returns : goal.returns
returns c =
    let some : 0 < length c.args.self.now = grind (arith, common_steps) in
    found_in_slot c.args.self.now c.args.rows.now c.args.row.now c.requires some
    c.index.result.now c.place_of.result (grind (arith, common_steps)) c.place_of.ensures
