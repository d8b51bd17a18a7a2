use Rattle.std.proofs.Common.{length}
use Rattle.std.proofs.lemmas.Result.{err_from_is_err_and}
use Rattle.isl_meter.proofs.CutLemmas.{IsCharged_trans}
use Rattle.isl_calls.proofs.CallsLaws.{refused_later}
use Rattle.isl_calls.proofs.ItemsLaws.{calls_later, items_kept, items_made}
use Rattle.isl_calls.proofs.items.items_of.Goals as goal

pub all_items-requires : goal.all_items-requires
all_items-requires c =
    let value = c.args.value.now in
    let are = c.in_ok-calls.ensures in
    rw (c.len.ensures.len, c.params.ensures.content, c.as_slice.ensures.value)
    (calls_later c.args.meter.now c.calls_of.new.meter (length value.params) c.in_ok-calls.calls.items are.2 are.1.each)

pub returns : goal.returns
returns c =
    let g = c.args.meter.now in
    let h = c.calls_of.new.meter in
    let value = c.args.value.now in
    let calls = c.in_ok-calls.calls.items in
    let are = c.in_ok-calls.ensures in
    let items = c.in_ok-all_items.field-0.items in
    let zipped = rw (c.len.ensures.len, c.params.ensures.content, c.as_slice.ensures.value) at c.in_ok-all_items.ensures.items in (
      are.0,
      items_made g value calls are.1 items (items_kept g h (length value.params) calls items are.2 zipped),
      IsCharged_trans g h c.all_items.new.meter are.2 c.in_ok-all_items.ensures.meter,
    )

pub returns-in_err-all_items : goal.returns-in_err-all_items
returns-in_err-all_items c =
    let are = c.in_ok-calls.ensures in
    let error = err_from_is_err_and c.from_residual-in_err-all_items.result c.from_residual-in_err-all_items.ensures.1 in
    rw (error.1, error.2) (refused_later c.args.meter.now c.calls_of.new.meter c.all_items.new.meter c.args.value.now
    c.in_err-all_items.field-0.0 are.0 are.2 c.in_err-all_items.ensures.meter)
