-- inner: the fields of a session: what they show, and what they keep.
use Rattle.std.specs.Prelude.{◌+◌, ◌≤◌, length, vec_capacity}
use Rattle.isl_meter.specs.Gauge.{limit_of}
use Rattle.isl_script.specs.Script.{IsOpen}
use Rattle.isl_script.specs.Cutter.{IsAt}
use Rattle.isl_values.specs.State.{Fits, IsSettled}
use Rattle.isl_session.specs.declared.session.Session.TheInside.{Inside}
use Rattle.isl_space.specs.Limits.{most_script_bytes, most_statement_bytes}
use Rattle.isl_session.specs.Counts.{AreCounts}
use Rattle.isl_session.specs.View.{View}

abbrev pub view_of : Inside → View
view_of s = record {
  state = s.state;
  rest = s.rest.items;
  room = vec_capacity s.rest;
  taken = s.taken;
  counts = s.counts;
  skips = s.skips;
  first = s.first;
  fault = s.fault;
  meter = s.meter;
  options = s.options;
}

pub record IsSound (s : Inside) : Type 0 where
  -- no statement ends in the bytes that are held, and the cutter stands behind them
  pub open_rest : IsOpen s.rest.items
  pub place : IsAt s.cutter s.rest.items
  pub held : length s.rest.items ≤ s.taken
  pub short : length s.rest.items ≤ most_statement_bytes
  pub within : s.taken ≤ most_script_bytes
  pub passed : s.counts.statements + s.skips ≤ s.taken
  pub counts : AreCounts s.counts
  pub fits : Fits (limit_of s.meter) s.state
  pub settled : IsSettled s.state
