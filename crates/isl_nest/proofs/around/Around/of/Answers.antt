use Rattle.std.proofs.Common.{◌∙◌, ◌+◌, sym, subst, length}
use Rattle.std.specs.List.{All}
use Rattle.isl_meter.specs.Gauge.{Gauge}
use Rattle.isl_frame.specs.Needed.{AreRowsOver}
use Rattle.isl_nest.specs.Around.{AreSides}
use Rattle.isl_nest.specs.Between.{IsBetween}
use Rattle.isl_nest.proofs.AroundLaws.{around_is, around_never}
use Rattle.isl_nest.proofs.around.Around.of.Goals as goal

pub of-requires-clause-systems : goal.of-requires-clause-systems
of-requires-clause-systems c =
    subst (λ (g : Gauge). All (AreRowsOver g (length c.args.place.now.frame + 1)) c.args.systems.now) (sym c.in_ok-ends.ensures.1)
    c.requires.systems

pub returns-in_default-clause-around : goal.returns-in_default-clause-around
returns-in_default-clause-around c =
    let never = rw c.in_default.is at c.in_ok-others.ensures.points in
    around_never c.args.meter.now c.args.place.now c.args.own.now c.args.systems.now c.in_ok-ends.ends c.in_ok-ends.ensures.0 never

pub between-requires-clause-others : goal.between-requires-clause-others
between-requires-clause-others c =
    let normal = rw c.in-Some.is at c.in_ok-others.ensures.normal in record {
      over = record {
        formed = rw c.in-Some.is at (c.in_ok-others.ensures.shape (c.args.place.now.variables + 1) c.in_ok-ends.ensures.0.others.formed);
        within = rw c.in-Some.is at c.in_ok-others.ensures.within;
      };
      normal = normal.settled;
    }

pub returns-clause-around : goal.returns-clause-around
returns-clause-around c =
    let g = c.args.meter.now in
    let place = c.args.place.now in
    let systems = c.args.systems.now in
    let ends = c.in_ok-ends.ends in
    let sides = c.in_ok-sides.sides in
    let others = c.in-Some.others in
    let around = c.in_ok-between.field-0 in
    let are : AreSides g place ends systems sides =
    subst (λ (h : Gauge). AreSides h place ends systems sides) c.in_ok-ends.ensures.1 c.in_ok-sides.ensures.0 in
    let between : IsBetween g place sides others around = subst (λ (h : Gauge). IsBetween h place sides others around)
    (c.in_ok-sides.ensures.1 ∙ c.in_ok-ends.ensures.1) c.in_ok-between.ensures.between in
    around_is g place c.args.own.now systems ends c.in_ok-ends.ensures.0 sides others around are
    (sym (rw c.in-Some.is at c.in_ok-others.ensures.exact))
    (rw c.in-Some.is at c.in_ok-others.ensures.points) between
