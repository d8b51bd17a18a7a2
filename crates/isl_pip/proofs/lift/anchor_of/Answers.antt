use Rattle.std.proofs.Common.{◌≡◌, ◌<◌, sym, ap, subst, arith, List, length}
use Rattle.std.specs.List.{All}
use Rattle.isl_piece.specs.declared.row.Row.{Row}
use Rattle.isl_piece.specs.Row.{IsRowWithin, IsWellFormed}
use Rattle.isl_piece.specs.System.{IsSystemWithin, free_columns}
use Rattle.isl_pip.proofs.LevelLaws.{one_of, IsPlain}
use Rattle.isl_pip.proofs.lift.anchor_of.Goals as goal

pub found_in-requires : goal.found_in-requires
found_in-requires c =
    let g = c.args.meter.now in
    let systems = c.args.systems.now in
    let i = c.loop-system.system-index in
    let s = c.system-item.result in
    let inside : i < length systems = omega arith in
    let free = one_of (λ t. free_columns t ≡ c.args.columns) systems i s inside c.system-item.is c.requires.systems.columns in
    let plain = ap length (one_of IsPlain systems i s inside c.system-item.is c.requires.systems.plain) in
    let within = one_of (IsSystemWithin g) systems i s inside c.system-item.is c.requires.systems.within in
    let columns : s.columns ≡ c.args.columns = omega (arith, free, plain) in
    record {
      formed = subst (λ (l : List Row). All (IsWellFormed c.args.columns) l) (sym c.as_slice.ensures)
          (subst (λ n. All (IsWellFormed n) s.rows) columns within.rows);
      within = subst (λ (l : List Row). All (IsRowWithin g) l) (sym c.as_slice.ensures) within.within;
      inside = c.requires.inside;
      found = c.loop-system.invariant;
    }
