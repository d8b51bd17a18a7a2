use Rattle.std.proofs.Common.{◌≡◌, map, take}
use Rattle.isl_print.specs.OrderedValue.{ordered_view}
use Rattle.isl_print.proofs.order.in_printed_order.Given as goal

abbrev pub invariant-loop-titled : goal.invariant-loop-titled
invariant-loop-titled l = l.made.items ≡ map (λ titled. ordered_view titled.piece.now) (take l.titled-index l.titled-items)
