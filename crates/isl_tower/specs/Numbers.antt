-- public: rows and systems with numbers in the place of their first columns. (isl manual, on fixing values)
use Rattle.std.specs.Prelude.{◌-◌, ℤ, ◌+ℤ◌, List, [], length, map, take, drop}
use Rattle.isl_math.specs.Dot.{dot}
use Rattle.isl_piece.specs.declared.row.Row.{Row}
use Rattle.isl_piece.specs.declared.system.System.{System}

-- the row over the other columns
abbrev pub row_at : List ℤ → Row → Row
row_at numbers r = record {
  kind = r.kind;
  coefs = drop (length numbers) r.coefs;
  constant = dot (take (length numbers) r.coefs) numbers +ℤ r.constant;
  k = r.k;
}

-- the system over the other columns
abbrev pub system_at : List ℤ → System → System
system_at numbers s = record { columns = s.columns - length numbers; definitions = []; rows = map (row_at numbers) s.rows }
