use Rattle.std.proofs.Common.{◌+◌, sym, subst}
use Rattle.std.specs.List.{All}
use Rattle.isl_frame.specs.Needed.{AreRowsOver}
use Rattle.isl_nest.proofs.equality.told_by.Goals as goal

pub equality_at-requires-clause-systems : goal.equality_at-requires-clause-systems
equality_at-requires-clause-systems c =
    subst (λ n. All (AreRowsOver c.args.meter.now (n + 1)) c.args.systems.now) (sym c.len-column.ensures) c.requires.systems
