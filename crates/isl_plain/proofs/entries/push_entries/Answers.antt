use Rattle.std.proofs.Common.{◌+◌, drop, get_or, map, length}
use Rattle.isl_plain.specs.Rows.{placed_entry, placed_entries}
use Rattle.isl_plain.specs.Width.{added_in, PassesIn, brings_in, entries_in}
use Rattle.isl_plain.proofs.JoinLaws.{next_rows, next_entry}
use Rattle.isl_plain.proofs.entries.push_entries.Goals as goal

pub loop-i-preserved : goal.loop-i-preserved
loop-i-preserved c =
    let places = c.args.places.now in
    let first = length places.params.now in
    let es = places.entries.now in
    let i = c.loop-i.i in
    next_rows (λ g. PassesIn g places) (added_in places) c.args.meter.now c.loop-i.meter c.push_entry.new.meter c.args.rows.now
    c.loop-i.rows c.push_entry.new.rows (placed_entries (brings_in places) (map (λ entry. entry.now) (drop i es)) (first + i))
    (placed_entry (brings_in places) (get_or es i c.index-places-i.result).now (first + i))
    (placed_entries (brings_in places) (map (λ entry. entry.now) (drop (i + 1) es)) (first + (i + 1)))
    (placed_entries (brings_in places) (entries_in places) first) c.loop-i.invariant c.in_default.ensures
    (next_entry (brings_in places) (λ entry. entry.now) es i first c.index-places-i.result c.loop-i-test.true)
