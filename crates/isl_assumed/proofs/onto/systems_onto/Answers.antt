use Rattle.std.proofs.Common.{[], length, refl, subst, sym}
use Rattle.std.specs.List.{All}
use Rattle.isl_piece.specs.System.{IsSystemWithin}
use Rattle.isl_blocks.proofs.ResultLaws.{ok_case, ok_has}
use Rattle.isl_assumed.specs.Left.{AreLeftOf, IsOnto}
use Rattle.isl_assumed.proofs.OntoLaws.{all_columns, all_inside, onto_made}
use Rattle.isl_assumed.proofs.onto.systems_onto.Goals as goal

pub left_of-requires-clause-within : goal.left_of-requires-clause-within
left_of-requires-clause-within c =
    let g = c.args.meter.now in
    let params = c.args.params.now in
    let names = c.args.region.now.params in
    let systems = c.args.region.now.systems.items in
    let placed = c.in_ok-placed.placed.items in
    let told = c.in_ok-places.ensures in
    let is = rw (c.as_slice.ensures.value, c.as_slice-2.ensures.value, c.len-kept.ensures.len) at c.in_ok-placed.ensures in
    subst (All (IsSystemWithin g)) (sym c.as_slice-3.ensures.value)
    (all_inside g params names c.len-kept.ensures.well_formed.distinct c.requires.named.distinct c.in_ok-places.places.items.items
    told.places c.in_ok-places.places.new told.count systems placed [] c.requires.live is)

pub left_of-requires-clause-columns : goal.left_of-requires-clause-columns
left_of-requires-clause-columns c =
    let g = c.args.meter.now in
    let params = c.args.params.now in
    let names = c.args.region.now.params in
    let systems = c.args.region.now.systems.items in
    let placed = c.in_ok-placed.placed.items in
    let told = c.in_ok-places.ensures in
    let is = rw (c.as_slice.ensures.value, c.as_slice-2.ensures.value, c.len-kept.ensures.len) at c.in_ok-placed.ensures in
    rw (c.as_slice-3.ensures.value, c.len-kept.ensures.len)
    (all_columns g params names c.len-kept.ensures.well_formed.distinct c.requires.named.distinct c.in_ok-places.places.items.items
    told.places c.in_ok-places.places.new told.count systems placed [] c.requires.live is)

pub returns-clause-onto : goal.returns-clause-onto
returns-clause-onto c =
    let g = c.args.meter.now in
    let params = c.args.params.now in
    let names = c.args.region.now.params in
    let systems = c.args.region.now.systems.items in
    let placed = c.in_ok-placed.placed.items in
    let told = c.in_ok-places.ensures in
    let new = c.in_ok-places.places.new in
    let r = c.left_of.result in
    let is = rw (c.as_slice.ensures.value, c.as_slice-2.ensures.value, c.len-kept.ensures.len) at c.in_ok-placed.ensures in
    let left = rw (c.as_slice-3.ensures.value, c.len-kept.ensures.len) at c.left_of.ensures.left in
    ok_case r (λ made. IsOnto g names systems params made.items) (λ made at.
    onto_made g params names c.len-kept.ensures.well_formed.distinct c.requires.named.distinct c.in_ok-places.places.items.items told.places
    new told.count systems placed made.items c.requires.live is g refl
    (ok_has r made (λ m. AreLeftOf g (length params) new placed m.items) at left))
