use Rattle.std.proofs.Common.{◌≡◌, take}
use Rattle.std.specs.List.{All, AllZip}
use Rattle.isl_piece.specs.Row.{IsRowWithin}
use Rattle.isl_frame.specs.Frame.{IsThrough}
use Rattle.isl_frame.proofs.rows.all_through.Given as goal

abbrev pub invariant-loop-row : goal.invariant-loop-row
invariant-loop-row l = AllZip (λ row made. IsThrough l.variables row l.frame made) (take l.row-index l.rows) l.made
    × All (IsRowWithin l.meter) l.made × (l.meter ≡ l.fn.meter)
