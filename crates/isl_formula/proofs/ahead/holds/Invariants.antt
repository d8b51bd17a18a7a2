use Rattle.std.proofs.Common.{◌≡◌, ◌-◌, ◌≤◌, length}
use Rattle.isl_formula.specs.Ahead.{holds}
use Rattle.isl_formula.proofs.ahead.holds.Given as goal

abbrev pub invariant-loop-turn : goal.invariant-loop-turn
invariant-loop-turn l = record {
  same : holds l.mark l.initial.rest 0 ≡ holds l.mark l.rest l.level;
  few : l.level ≤ l._turn;
  left : length l.rest ≡ l._turn-end - l._turn;
}
