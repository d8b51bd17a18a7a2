use Rattle.std.proofs.Common.{◌≡◌, ◌+◌, ◌++◌, length, map, drop}
use Rattle.std.specs.Prelude.{All, Any}
use Rattle.isl_piece.specs.Row.{IsRowWithin}
use Rattle.isl_plain.specs.Rows.{placed_entries}
use Rattle.isl_plain.specs.Width.{added_in, PassesIn, brings_in, entries_in}
use Rattle.isl_plain.proofs.entries.push_entries.Given as goal

abbrev pub invariant-loop-i : goal.invariant-loop-i
invariant-loop-i l =
    let rest = placed_entries (brings_in l.places) (map (λ entry. entry.now) (drop l.i l.places.entries.now))
    (length l.places.params.now + l.i) in
    let all = placed_entries (brings_in l.places) (entries_in l.places) (length l.places.params.now) in
    (l.rows ++ map (added_in l.places) rest ≡ l.fn.rows ++ map (added_in l.places) all)
    × All (IsRowWithin l.fn.meter) l.rows × (l.meter ≡ l.fn.meter)
    × (Any (PassesIn l.fn.meter l.places) rest → Any (PassesIn l.fn.meter l.places) all)
