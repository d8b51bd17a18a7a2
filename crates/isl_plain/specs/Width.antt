-- inner: the columns of a piece with these names.
use Rattle.std.specs.Prelude.{ℕ, ◌+◌, ◌++◌, Bool, List, length, map, Option}
use Rattle.isl_meter.specs.Gauge.{Gauge}
use Rattle.isl_piece.specs.declared.row.Row.{Row}
use Rattle.isl_tree.specs.declared.tree.Entry.{Entry}
use Rattle.isl_tree.specs.declared.tree.Formula.{Formula}
use Rattle.isl_plain.specs.Places.{place_among, brings}
use Rattle.isl_plain.specs.Rows.{Written, added, placed_entries, written_body}
use Rattle.isl_plain.specs.Passes.{WrittenPasses}
use Rattle.isl_plain.specs.declared.places.Places.{Places}

-- the entries of the tuples, from the left
abbrev pub entries_in : Places → List Entry
entries_in places = map (λ entry. entry.now) places.entries.now

abbrev pub width_of : Places → ℕ
width_of places = length places.params.now + length (entries_in places)

abbrev pub place_in : Places → List ℕ → ℕ
place_in places = place_among places.params.now (entries_in places) (width_of places)

abbrev pub brings_in : Places → Entry → ℕ → Bool
brings_in places = brings places.params.now (entries_in places)

-- a row over these columns, added up; and where it passes the limit
abbrev pub added_in : Places → Written → Row
added_in places = added (width_of places) (place_in places)

abbrev pub PassesIn : Gauge → Places → Written → Type 0
PassesIn g places = WrittenPasses g (width_of places) (place_in places)

-- the rows of the entries, and of a body
abbrev pub placed_rows : Places → Option Formula → List Written
placed_rows places body =
    placed_entries (brings_in places) (entries_in places) (length places.params.now) ++ written_body (width_of places) body
