use Rattle.std.proofs.Common.{◌≡◌, subst, arith, List, map, take}
use Rattle.std.specs.List.{All}
use Rattle.std.proofs.lemmas.Grind.{common_steps}
use Rattle.isl_meter.specs.Gauge.{IsWithin}
use Rattle.isl_piece.specs.declared.row.Row.{Row}
use Rattle.isl_tower.specs.Numbers.{row_at, system_at}
use Rattle.isl_tower.proofs.NumberLaws.{system_within_at}
use Rattle.isl_tower.proofs.numbers.system_at.Goals as goal

pub returns : goal.returns
returns c =
    let g = c.args.meter.now in
    let s = c.args.system.now in
    let numbers = c.args.numbers.now in
    let i = c.loop-row.invariant in
    let whole : take c.loop-row.row-index s.rows ≡ s.rows = grind (arith, common_steps) in
    let rows : c.loop-row.rows ≡ map (row_at numbers) s.rows = rw whole at i.0 in
    let same : c.from_rows.result ≡ system_at numbers s = grind arith in
    let constants = subst (λ (rs : List Row). All (λ (r : Row). IsWithin g r.constant) rs) rows i.1 in
    record { exact = (same, rw same (system_within_at g numbers s c.requires.well_formed constants), i.2) }
