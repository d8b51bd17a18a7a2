use Rattle.isl_state.specs.declared.list.ListPart.TheVariants.{First}
use Rattle.isl_values.proofs.FlatLaws.{flat_answer}
use Rattle.isl_values.proofs.ValueLaws.{fits_later, numbers_later, ok_of}
use Rattle.isl_values.proofs.flat.flat_value_of.Goals as goal

pub flattened-requires : goal.flattened-requires
flattened-requires c =
    let one = c.in-Ok.ensures.made in record {
      numbers = numbers_later c.args.meter.now c.value_of.new.meter c.in-Ok.value.value one.1.charged one.0.numbers;
      live = one.0.live;
      fits = fits_later c.args.meter.now c.value_of.new.meter c.args.state.now one.1.charged c.requires.fits;
    }

pub returns-in-Ok : goal.returns-in-Ok
returns-in-Ok c =
    let one = c.in-Ok.ensures in
    let e = c.flattened.ensures in record {
      made = flat_answer c.args.state.now First c.args.expr.now c.args.meter.now c.value_of.new.meter c.flattened.new.meter
          c.in-Ok.value.value one.made one.goes_on (λ v. v.value) c.flattened.result e.made e.same;
      goes_on = ok_of c.flattened.result _ (λ v. one.goes_on);
    }
