use Rattle.std.proofs.Common.{◌≡◌, take, arith}
use Rattle.std.proofs.lemmas.Grind.{common_steps}
use Rattle.std.proofs.lemmas.Int.{to_z-of_z}
use Rattle.isl_piece.specs.Index.{bound_hash}
use Rattle.isl_piece.proofs.index.bound_hash.Goals as goal

pub returns : goal.returns
unfolding bound_hash
returns c =
    let whole : take c.loop-number.number-index c.args.row.now.coefs ≡ c.args.row.now.coefs = grind (arith, common_steps) in
    grind (arith, to_z-of_z)
