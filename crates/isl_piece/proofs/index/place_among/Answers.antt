use Rattle.std.proofs.Common.{◌≡◌, false, take, arith}
use Rattle.std.proofs.lemmas.Grind.{common_steps}
use Rattle.std.proofs.lemmas.List.Elements.{All-more}
use Rattle.isl_piece.specs.declared.row.Row.{Row}
use Rattle.isl_piece.specs.Normal.{same_bound}
use Rattle.isl_piece.proofs.index.place_among.Goals as goal

pub loop-place-preserved : goal.loop-place-preserved
loop-place-preserved c =
    let rows = c.args.rows.now in
    let row = c.args.row.now in
    let place = c.loop-place.place in
    All-more (λ (a : Row). same_bound a row ≡ false) rows place c.index-rows-place.result (omega arith) c.loop-place.invariant (grind arith)

pub returns : goal.returns
returns c =
    let whole : take c.loop-place.place c.args.rows.now ≡ c.args.rows.now = grind (arith, common_steps) in
    rw whole at c.loop-place.invariant
