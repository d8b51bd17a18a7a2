use Rattle.std.proofs.Common.{◌≡◌, ◌∙◌, ◌+◌, ap, length}
use Rattle.isl_loops.specs.Shared.{covers_behind}
use Rattle.isl_loops.proofs.SharedLaws.{no_rows_over, shared_told, systems_ended, systems_over}
use Rattle.isl_loops.proofs.together.shared.Goals as goal

pub of-requires-clause-own : goal.of-requires-clause-own
of-requires-clause-own c =
    no_rows_over c.args.meter.now (length c.args.place.now.frame + 1) c.new-own.result c.new-own.ensures

pub of-requires-clause-systems : goal.of-requires-clause-systems
of-requires-clause-systems c =
    let g = c.args.meter.now in
    let frame = c.args.place.now.frame in
    let extent = c.args.extent in
    let items = c.args.items.now in
    let are : c.as_slice.result.now ≡ covers_behind extent.params (length frame) items =
    c.as_slice.ensures.value ∙ c.in_ok-systems.ensures ∙ ap (λ n. covers_behind extent.params n items) c.len.ensures in
    rw are (systems_over g extent.params extent.times (length frame) c.requires.low c.requires.inner items c.requires.items)

pub of-requires-clause-ended : goal.of-requires-clause-ended
of-requires-clause-ended c =
    let g = c.args.meter.now in
    let frame = c.args.place.now.frame in
    let extent = c.args.extent in
    let items = c.args.items.now in
    let are : c.as_slice.result.now ≡ covers_behind extent.params (length frame) items =
    c.as_slice.ensures.value ∙ c.in_ok-systems.ensures ∙ ap (λ n. covers_behind extent.params n items) c.len.ensures in
    rw are (systems_ended g extent.params extent.times (length frame) c.requires.low c.requires.inner items c.requires.items)

pub returns-clause-around : goal.returns-clause-around
returns-clause-around c =
    let g = c.args.meter.now in
    let place = c.args.place.now in
    let extent = c.args.extent in
    let items = c.args.items.now in
    let are : c.as_slice.result.now ≡ covers_behind extent.params (length place.frame) items =
    c.as_slice.ensures.value ∙ c.in_ok-systems.ensures ∙ ap (λ n. covers_behind extent.params n items) c.len.ensures in
    shared_told g extent.params extent.times place c.requires.low c.requires.inner items c.requires.items c.new-own.result c.new-own.ensures
    c.as_slice.result.now are c.of.result c.of.ensures.around
