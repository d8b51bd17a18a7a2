use Rattle.isl_piece.specs.Definition.{with_defined}
use Rattle.isl_piece.proofs.system.normalise.Goals as goal

pub returns-in-Some-clause-points : goal.returns-in-Some-clause-points
returns-in-Some-clause-points c point =
    rw c.over.ensures (rw c.in-Some.is at (c.in_ok-rows.ensures.points (with_defined c.args.system.definitions point)))

pub returns-in-None-clause-points : goal.returns-in-None-clause-points
returns-in-None-clause-points c point = rw c.in-None.is at (c.in_ok-rows.ensures.points (with_defined c.args.system.definitions point))

pub returns-in-Some-clause-within : goal.returns-in-Some-clause-within
returns-in-Some-clause-within c = rw c.over.ensures (record {
  rows = rw c.in-Some.is at (c.in_ok-rows.ensures.shape c.args.system.columns c.requires.rows);
  within = rw c.in-Some.is at c.in_ok-rows.ensures.within;
  count = c.requires.count;
  definitions = c.requires.definitions;
})

pub returns-in-Some-clause-magnitudes : goal.returns-in-Some-clause-magnitudes
returns-in-Some-clause-magnitudes c b u = rw c.over.ensures (rw c.in-Some.is at (c.in_ok-rows.ensures.magnitudes b u))
