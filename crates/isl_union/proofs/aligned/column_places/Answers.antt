use Rattle.std.proofs.Common.{◌++◌, ◌+◌, ◌∷◌, [], ◌∙◌, ap, length}
use Rattle.isl_union.specs.Moved.{places_in}
use Rattle.isl_union.proofs.PlacesLaws.{range_more}
use Rattle.isl_union.proofs.aligned.column_places.Goals as goal

pub loop-coordinate-preserved : goal.loop-coordinate-preserved
loop-coordinate-preserved c =
    let places = c.loop-coordinate.places.items in
    let n = c.loop-coordinate.coordinate in
    range_more places c.push.new.self.items (places_in c.args.all.now c.args.names.now) (length c.args.all.now) n
    c.loop-coordinate.invariant
    (c.in_ok-push.ensures.items ∙ ap (λ k. places ++ (k + n) ∷ []) c.len.ensures.len)
