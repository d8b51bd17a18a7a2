use Rattle.isl_state.specs.declared.list.ListPart.TheVariants.{First, Second}
use Rattle.isl_values.proofs.FlatLaws.{flat_failed, flat_made}
use Rattle.isl_values.proofs.ValueLaws.{fits_later, numbers_later}
use Rattle.isl_values.proofs.flat.flat_list_of.Goals as goal

pub flattened-requires : goal.flattened-requires
flattened-requires c =
    let both = c.in-Ok.ensures.made in
    record {
      numbers = numbers_later c.args.meter.now c.list_of.new.meter c.in-Ok.list.first.value both.1.charged both.0.0.numbers;
      live = both.0.0.live;
      fits = fits_later c.args.meter.now c.list_of.new.meter c.args.state.now both.1.charged c.requires.fits;
    }

pub returns-in-Err-flattened : goal.returns-in-Err-flattened
returns-in-Err-flattened c =
    let both = c.in-Ok.ensures.made in
    let e = c.in-Err-flattened.ensures in record {
      made = flat_failed c.args.state.now First c.args.expr.now c.args.meter.now c.list_of.new.meter c.flattened.new.meter
          c.in-Ok.list.first.value (both.0.0, both.1) c.in-Ok.ensures.goes_on c.in-Err-flattened.refusal e.made e.same;
      goes_on = tt;
    }

pub flattened-requires-2 : goal.flattened-requires-2
flattened-requires-2 c =
    let both = c.in-Ok.ensures.made in
    let one = flat_made c.args.state.now First c.args.expr.now c.args.meter.now c.list_of.new.meter c.flattened.new.meter
    c.in-Ok.list.first.value (both.0.0, both.1) c.in-Ok.ensures.goes_on c.in-Ok-flattened.first.value c.in-Ok-flattened.ensures.made.0
    c.in-Ok-flattened.ensures.made.1 c.in-Ok-flattened.ensures.same in
    record {
      numbers = numbers_later c.args.meter.now c.flattened.new.meter c.in-Ok.list.second.value one.1.charged both.0.1.numbers;
      live = both.0.1.live;
      fits = fits_later c.args.meter.now c.flattened.new.meter c.args.state.now one.1.charged c.requires.fits;
    }

pub returns-in-Ok-flattened-2 : goal.returns-in-Ok-flattened-2
returns-in-Ok-flattened-2 c =
    let state = c.args.state.now in
    let expr = c.args.expr.now in
    let g = c.args.meter.now in
    let both = c.in-Ok.ensures.made in
    let e = c.in-Ok-flattened.ensures in
    let one = flat_made state First expr g c.list_of.new.meter c.flattened.new.meter c.in-Ok.list.first.value (both.0.0, both.1)
    c.in-Ok.ensures.goes_on c.in-Ok-flattened.first.value e.made.0 e.made.1 e.same in
    let d = c.in-Ok-flattened-2.ensures in
    let two = flat_made state Second expr g c.flattened.new.meter c.flattened-2.new.meter c.in-Ok.list.second.value (both.0.1, one.1)
    c.in-Ok.ensures.goes_on c.in-Ok-flattened-2.second.value d.made.0 d.made.1 d.same in record {
      made = ((one.0, two.0), two.1);
      goes_on = c.in-Ok.ensures.goes_on;
    }

pub returns-in-Err-flattened-2 : goal.returns-in-Err-flattened-2
returns-in-Err-flattened-2 c =
    let state = c.args.state.now in
    let expr = c.args.expr.now in
    let g = c.args.meter.now in
    let both = c.in-Ok.ensures.made in
    let e = c.in-Ok-flattened.ensures in
    let one = flat_made state First expr g c.list_of.new.meter c.flattened.new.meter c.in-Ok.list.first.value (both.0.0, both.1)
    c.in-Ok.ensures.goes_on c.in-Ok-flattened.first.value e.made.0 e.made.1 e.same in
    let d = c.in-Err-flattened-2.ensures in record {
      made = flat_failed state Second expr g c.flattened.new.meter c.flattened-2.new.meter c.in-Ok.list.second.value (both.0.1, one.1)
          c.in-Ok.ensures.goes_on c.in-Err-flattened-2.refusal d.made d.same;
      goes_on = tt;
    }
