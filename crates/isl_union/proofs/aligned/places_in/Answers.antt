use Rattle.std.proofs.Common.{◌<◌, length, arith}
use Rattle.isl_union.proofs.PlacesLaws.{name_there, places_more}
use Rattle.isl_union.proofs.aligned.places_in.Goals as goal

pub unreachable-requires : goal.unreachable-requires
unreachable-requires c =
    let low : c.loop-i.i < length c.args.names.now = omega arith in
    c.in-None.ensures.there (name_there c.args.all.now c.args.names.now c.loop-i.i c.name.result.now c.requires low c.name.ensures)

pub loop-i-preserved : goal.loop-i-preserved
loop-i-preserved c =
    let low : c.loop-i.i < length c.args.names.now = omega arith in
    places_more c.args.all.now c.args.names.now c.loop-i.places.items c.push.new.self.items c.loop-i.i c.in-Some.place c.name.result.now low
    c.name.ensures c.in-Some.ensures.place
    c.loop-i.invariant c.in_ok-push-in-Some.ensures.items
