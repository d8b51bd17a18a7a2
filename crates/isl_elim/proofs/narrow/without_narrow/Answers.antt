use Rattle.std.proofs.Common.{◌≡◌, ◌<◌, sym, subst, arith, get_or, length}
use Rattle.std.proofs.lemmas.Grind.{common_steps}
use Rattle.std.proofs.lemmas.List.{length-set}
use Rattle.isl_omega.specs.Column.{IsProper}
use Rattle.isl_elim.proofs.NarrowLaws.{left_formed, left_free, left_made, left_rows, left_within, narrow_done}
use Rattle.isl_elim.proofs.narrow.without_narrow.Goals as goal

pub replace-requires-2 : goal.replace-requires-2
replace-requires-2 c =
    let rows = c.args.rows in
    let first = c.replace.new.self in
    let long : length first ≡ length rows =
    rw c.replace.ensures (length-set rows c.args.narrow.lower c.in_ok-always.field-0) in
    let low = c.requires.narrow.upper_in in
    omega (arith, long, low)

pub push_remainders-requires : goal.push_remainders-requires
push_remainders-requires c =
    let rows = c.args.rows in
    let at = c.args.narrow.lower in
    let lower = c.in_ok-row.row in
    let read : lower ≡ get_or rows at lower = grind (arith, common_steps) in
    record { row = subst (IsProper c.args.meter.now c.args.column.columns) (sym read) (c.requires.rows at lower c.requires.narrow.lower_in) }

pub settled-requires : goal.settled-requires
settled-requires c =
    let g = c.args.meter.now in
    let rows = c.args.rows in
    let narrow = c.args.narrow in
    let columns = c.args.column.columns in
    let lower = c.in_ok-row.row in
    let left = c.push_remainders.new.rows in
    let pushed = rw c.requires.column at c.in_ok-push_remainders.ensures.0 in
    let read : lower ≡ get_or rows narrow.lower lower = grind (arith, common_steps) in
    let low : narrow.col < columns = subst (λ at. at < columns) c.requires.column c.args.column.in_range in
    let made : left ≡ left_rows columns rows narrow lower =
    left_made columns rows narrow lower c.in_ok-always.field-0 c.in_ok-always-2.field-0 c.replace.new.self c.replace-2.new.self left
    c.in_ok-always.ensures c.in_ok-always-2.ensures c.replace.ensures c.replace-2.ensures pushed.0 in
    record {
      well_formed = rw made (left_formed g columns rows narrow lower c.requires.narrow c.requires.rows read);
      within = rw (c.in_ok-push_remainders.ensures.1, made)
          (left_within g columns rows narrow lower c.requires.narrow c.requires.rows pushed.1);
      free = rw (c.requires.column, made) (left_free columns rows narrow lower c.requires.narrow low);
    }

pub returns : goal.returns
returns c =
    let g = c.args.meter.now in
    let rows = c.args.rows in
    let narrow = c.args.narrow in
    let columns = c.args.column.columns in
    let lower = c.in_ok-row.row in
    let left = c.push_remainders.new.rows in
    let pushed = rw c.requires.column at c.in_ok-push_remainders.ensures.0 in
    let read : lower ≡ get_or rows narrow.lower lower = grind (arith, common_steps) in
    let low : narrow.col < columns = subst (λ at. at < columns) c.requires.column c.args.column.in_range in
    let made : left ≡ left_rows columns rows narrow lower =
    left_made columns rows narrow lower c.in_ok-always.field-0 c.in_ok-always-2.field-0 c.replace.new.self c.replace-2.new.self left
    c.in_ok-always.ensures c.in_ok-always-2.ensures c.replace.ensures c.replace-2.ensures pushed.0 in
    rw c.requires.column (narrow_done g c.settled.new.meter columns rows left narrow lower c.settled.result c.requires.narrow c.requires.rows
    read low made (rw (c.in_ok-push_remainders.ensures.1, c.requires.column) at c.settled.ensures.exact))
