use Rattle.isl_bounds.proofs.BoundLaws.{end_modulus, end_told, end_width}
use Rattle.isl_bounds.proofs.bound.end_bound.Goals as goal

pub divided-requires : goal.divided-requires
divided-requires c =
    end_modulus c.args.meter.now c.args.variables c.args.side c.args.row.now c.in_ok-entry.entry c.requires c.in_ok-entry.ensures.exact

pub returns : goal.returns
returns c =
    let entry = c.in_ok-entry.entry in
    let formed = end_width c.args.meter.now c.args.variables c.args.side c.args.row.now entry c.requires c.in_ok-entry.ensures.exact in
    end_told c.divided.result c.args.meter.now c.args.variables c.args.side c.args.row.now entry c.requires c.in_ok-entry.ensures.exact
    formed.width
    (c.divided.ensures.over c.args.meter.now c.args.variables c.limit-limit.ensures.bits_low c.in_ok-entry.ensures.within formed.width)
    c.divided.ensures.value
