use Rattle.std.proofs.Common.{◌≡◌, sym, ap, ◌∙◌, None, Some}
use Rattle.std.specs.Prelude.{slice_get}
use Rattle.std.specs.Option.{option_copied}
use Rattle.isl_loops.proofs.GenerateLaws.{first_few, first_times, none_times}
use Rattle.isl_loops.proofs.generate.times_of.Goals as goal

pub returns-in-Some-clause-same : goal.returns-in-Some-clause-same
returns-in-Some-clause-same c alike =
    let read : slice_get c.args.items.now 0 ≡ Some c.in-Some.item.now = sym c.first.ensures.value ∙ ap option_copied c.in-Some.is in
    first_times c.args.items.now c.in-Some.item.now read alike

pub returns-in-Some-clause-few : goal.returns-in-Some-clause-few
returns-in-Some-clause-few c most all =
    let read : slice_get c.args.items.now 0 ≡ Some c.in-Some.item.now = sym c.first.ensures.value ∙ ap option_copied c.in-Some.is in
    first_few c.args.items.now c.in-Some.item.now read most all

pub returns-in-None-clause-same : goal.returns-in-None-clause-same
returns-in-None-clause-same c alike =
    let read : slice_get c.args.items.now 0 ≡ None = sym c.first.ensures.value ∙ ap option_copied c.in-None.is in
    none_times c.args.items.now read
