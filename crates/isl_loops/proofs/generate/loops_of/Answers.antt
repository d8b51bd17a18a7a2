use Rattle.std.proofs.Common.{◌≡◌, ◌∙◌, ◌+◌, ◌-◌, ◌<◌, ◌≤◌, ◌^◌, ap, subst, arith, length, ℕ, List}
use Rattle.std.proofs.lemmas.Result.{IfOk-weaker}
use Rattle.isl_loop.specs.Formed.{IsLoopOver}
use Rattle.isl_nest.specs.declared.place.Place.{Place}
use Rattle.isl_nest.specs.Changing.{AsksWhatChanges}
use Rattle.isl_nest.specs.Covered.{view_of}
use Rattle.isl_nest.specs.Separate.{IsSeparate}
use Rattle.isl_space.specs.Limits.{most_coordinates}
use Rattle.isl_space.specs.Name.{Name}
use Rattle.isl_space.specs.Names.{IsParameterList}
use Rattle.isl_schedule.specs.Good.{ListsCalls}
use Rattle.isl_loops.specs.Strided.{IsNeverIdle}
use Rattle.isl_loops.specs.Together.{ListsAll}
use Rattle.isl_loops.proofs.AloneLaws.{never_idle}
use Rattle.isl_loops.proofs.GenerateLaws.{items_apart, items_over, lists_value, own_long, own_place, program_made}
use Rattle.isl_loops.proofs.generate.loops_of.Goals as goal

pub together-requires-clause-place : goal.together-requires-clause-place
together-requires-clause-place c =
    own_place c.args.meter.now (record { variables = c.len-params.result; frame = c.in_ok-own_frame.field-0; context = c.new.result })
    c.in_ok-own_frame.ensures.frame (c.in_ok-own_frame.ensures.within c.args.meter.now c.limit-limit.ensures.bits_low) c.new.ensures

pub together-requires-clause-items : goal.together-requires-clause-items
together-requires-clause-items c =
    let value = c.args.value.now in
    let items = c.args.items.items in
    let e : c.len-params.result ≡ length value.params =
    c.len-params.ensures.len ∙ ap (λ (ns : List Name). length ns) c.params.ensures.content in
    items_over c.args.meter.now value items c.requires c.len-params.result c.times_of-times.result e
    (rw c.as_slice.ensures.value at (c.times_of-times.ensures.same (rw c.as_slice.ensures.value c.requires.times)))

pub together-requires-clause-apart : goal.together-requires-clause-apart
together-requires-clause-apart c =
    let value = c.args.value.now in
    let items = c.args.items.items in
    let e : c.len-params.result ≡ length value.params =
    c.len-params.ensures.len ∙ ap (λ (ns : List Name). length ns) c.params.ensures.content in
    items_apart c.args.meter.now value items c.requires c.len-params.result e
    (subst IsParameterList c.params.ensures.content c.params.ensures.well_formed)

pub together-requires-clause-low : goal.together-requires-clause-low
together-requires-clause-low c =
    let long = own_long c.len-params.result c.in_ok-own_frame.field-0 c.in_ok-own_frame.ensures.frame in
    omega (arith, long)

pub together-requires-clause-high : goal.together-requires-clause-high
together-requires-clause-high c =
    let long = own_long c.len-params.result c.in_ok-own_frame.field-0 c.in_ok-own_frame.ensures.frame in
    omega (arith, long)

pub together-requires-clause-room : goal.together-requires-clause-room
together-requires-clause-room c =
    let few = c.len-params.ensures.well_formed.few in
    let long = c.len-params.ensures.len in
    let times : c.times_of-times.result ≤ most_coordinates =
    c.times_of-times.ensures.few most_coordinates (rw c.as_slice.ensures.value c.requires.narrow) in
    omega (arith, few, long, times)

pub returns-clause-lists : goal.returns-clause-lists
returns-clause-lists c =
    let value = c.args.value.now in
    let items = c.args.items.items in
    let e : c.len-params.result ≡ length value.params =
    c.len-params.ensures.len ∙ ap (λ (ns : List Name). length ns) c.params.ensures.content in
    let place : Place = record { variables = c.len-params.result; frame = c.in_ok-own_frame.field-0; context = c.new.result } in
    IfOk-weaker c.together.result (ListsAll items place) (ListsCalls value)
    (λ tree lists. lists_value c.args.meter.now value items c.requires place tree e c.in_ok-own_frame.ensures.frame c.new.ensures lists)
    c.together.ensures.lists

pub returns-clause-over : goal.returns-clause-over
returns-clause-over c =
    let g = c.args.meter.now in
    let value = c.args.value.now in
    let e : c.len-params.result ≡ length value.params =
    c.len-params.ensures.len ∙ ap (λ (ns : List Name). length ns) c.params.ensures.content in
    IfOk-weaker c.together.result (IsLoopOver g c.len-params.result) (IsLoopOver g (length value.params))
    (λ tree over. subst (λ (n : ℕ). IsLoopOver g n tree) e over) c.together.ensures.over

pub returns-clause-strided : goal.returns-clause-strided
returns-clause-strided c levels rows only strided =
    let value = c.args.value.now in
    let items = c.args.items.items in
    let e : c.len-params.result ≡ length value.params =
    c.len-params.ensures.len ∙ ap (λ (ns : List Name). length ns) c.params.ensures.content in
    let place : Place = record { variables = c.len-params.result; frame = c.in_ok-own_frame.field-0; context = c.new.result } in
    let item = only.item in
    IfOk-weaker c.together.result (IsSeparate (view_of item) (item.params + item.levels - length place.frame) place)
    (IsNeverIdle value.params levels)
    (λ tree separate. never_idle c.args.meter.now value items c.requires place tree e c.in_ok-own_frame.ensures.frame c.new.ensures levels rows
    only strided separate) (c.together.ensures.alone item only.only)

pub returns-clause-changing : goal.returns-clause-changing
returns-clause-changing c =
    let value = c.args.value.now in
    let e : c.len-params.result ≡ length value.params =
    c.len-params.ensures.len ∙ ap (λ (ns : List Name). length ns) c.params.ensures.content in
    IfOk-weaker c.together.result (AsksWhatChanges c.len-params.result) (AsksWhatChanges (length value.params))
    (λ tree asks. subst (λ (n : ℕ). AsksWhatChanges n tree) e asks) c.together.ensures.changing

pub returns-clause-program : goal.returns-clause-program
returns-clause-program c =
    let value = c.args.value.now in
    let e : c.len-params.result ≡ length value.params =
    c.len-params.ensures.len ∙ ap (λ (ns : List Name). length ns) c.params.ensures.content in
    let few = c.len-params.ensures.well_formed.few in
    let long = c.len-params.ensures.len in
    let room : c.len-params.result < 2 ^ 64 = omega (arith, few, long) in
    program_made c.args.meter.now c.limit-limit.ensures.bits_high value.params c.len-params.result e room c.together.result
    c.together.ensures.over c.together.ensures.printable
