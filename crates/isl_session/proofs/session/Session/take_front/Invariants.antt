use Rattle.std.proofs.Common.{◌≡◌, [], take}
use Rattle.isl_session.specs.View.{Fed}
use Rattle.isl_session.proofs.session.Session.take_front.Given as goal

-- the bytes so far were taken, and none ended a statement
abbrev pub invariant-loop-i : goal.invariant-loop-i
invariant-loop-i l = record {
  same : l.text.items ≡ l.fn.text.items;
  kept : l.skipped.items ≡ l.fn.skipped.items;
  fed : Fed l.fn.self (take l.i l.piece) [] l.self;
}
