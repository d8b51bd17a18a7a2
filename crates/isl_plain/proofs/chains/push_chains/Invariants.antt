use Rattle.std.proofs.Common.{◌≡◌, ◌++◌, map, drop}
use Rattle.std.specs.Prelude.{All, Any}
use Rattle.isl_piece.specs.Row.{IsRowWithin}
use Rattle.isl_plain.specs.Rows.{written_list}
use Rattle.isl_plain.specs.Width.{width_of, added_in, PassesIn}
use Rattle.isl_plain.proofs.chains.push_chains.Given as goal

abbrev pub invariant-loop-i : goal.invariant-loop-i
invariant-loop-i l =
    (l.rows ++ map (added_in l.places) (written_list (width_of l.places) (drop l.i l.formulas))
    ≡ l.fn.rows ++ map (added_in l.places) (written_list (width_of l.places) l.formulas))
    × All (IsRowWithin l.fn.meter) l.rows × (l.meter ≡ l.fn.meter)
    × (Any (PassesIn l.fn.meter l.places) (written_list (width_of l.places) (drop l.i l.formulas))
    → Any (PassesIn l.fn.meter l.places) (written_list (width_of l.places) l.formulas))
