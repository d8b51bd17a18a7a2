use Rattle.std.proofs.Common.{◌≡◌, ◌+◌, ◌-◌, ◌≤ℤ◌, drop}
use Rattle.std.specs.Prelude.{IfSome}
use Rattle.isl_loop.specs.Turns.{turns}
use Rattle.isl_ast.specs.Run.{turns_from, ArePassed, IsTurned}
use Rattle.isl_ast.specs.Size.{loop_size, size_of_loops}
use Rattle.isl_ast.proofs.run.+run.Given as goal

abbrev pub invariant-repeat-loop-next : goal.invariant-repeat-loop-next
invariant-repeat-loop-next g l =
    let point = l.fn.run.point.items in
    let rest = turns_from l.next l.range.high l.range.step in
    let all = turns l.range.low l.range.high l.range.step in
    record {
      so_far : IsTurned g.C.Callee.called l.fn.meter l.meter l.fn.callee l.callee l.body point rest all;
      next : IfSome l.next (λ x. x ≤ℤ l.range.high);
      point : l.run.point.items ≡ point;
    }

abbrev pub decreases-repeat-loop-next : goal.decreases-repeat-loop-next
decreases-repeat-loop-next g l = l.meter.budget - l.meter.units

abbrev pub invariant-append_all-loop-part : goal.invariant-append_all-loop-part
invariant-append_all-loop-part g l =
    let point = l.fn.run.point.items in
    let rest = drop l.part-index l.parts in
    record {
      so_far : ArePassed g.C.Callee.called l.fn.meter l.meter l.fn.callee l.callee point rest l.parts;
      point : l.run.point.items ≡ point;
    }

abbrev pub decreases-repeat : goal.decreases-repeat
decreases-repeat g l = 1 + loop_size l.body.now

abbrev pub decreases-append_all : goal.decreases-append_all
decreases-append_all g l = size_of_loops l.parts.now

abbrev pub decreases-append : goal.decreases-append
decreases-append g l = loop_size l.tree.now
