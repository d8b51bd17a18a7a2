use Rattle.std.proofs.Common.{◌≡◌, ◌*◌, length, take, pos, IsTrue}
use Rattle.isl_omega.specs.Shadow.{IsShadow, AreNeverMet}
use Rattle.isl_meter.specs.Gauge.{IsChargedUpTo}
use Rattle.isl_omega.specs.Units.{paid}
use Rattle.isl_omega.proofs.shadow.pairs_of.Given as goal

abbrev pub invariant-loop-lower : goal.invariant-loop-lower
invariant-loop-lower l = record {
  is_shadow : IsShadow l.fn.meter l.uppers.column.columns l.uppers.column.at l.uppers.neighbours (take l.lower-index l.lowers) l.uppers.rows.now l.rows l.tails.items;
  never : IsTrue l.never → AreNeverMet l.uppers.column.columns l.uppers.column.at (take l.lower-index l.lowers) l.uppers.rows.now;
  charged : IsChargedUpTo (pos (l.lower-index * length l.uppers.rows.now)) l.fn.meter l.meter;
  exact : l.meter ≡ paid (l.lower-index * length l.uppers.rows.now) l.fn.meter;
}
