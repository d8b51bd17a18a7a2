use Rattle.std.proofs.Common.{◌≡◌, drop, take, length}
use Rattle.std.specs.List.{All}
use Rattle.isl_piece.specs.Row.{IsRowWithin}
use Rattle.isl_omega.specs.Equality.{short_images_of}
use Rattle.isl_elim.proofs.solved.substituted.Given as goal

abbrev pub invariant-loop-i : goal.invariant-loop-i
invariant-loop-i l = record {
  front : take l.i l.short.items ≡ short_images_of l.fixed l.column.at (take l.i l.fn.rows);
  rest : drop l.i l.short.items ≡ drop l.i l.fn.rows;
  long : length l.short.items ≡ length l.fn.rows;
  within : All (IsRowWithin l.fn.meter) (take l.i l.short.items);
  same : l.meter ≡ l.fn.meter;
}
