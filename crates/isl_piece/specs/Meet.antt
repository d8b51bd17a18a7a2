-- public: two systems over the same free columns as one. Each defined column of the second is found among the columns so far, by its
-- definition, or stands behind them. (isl, on the alignment of the integer divisions of two basic sets)
use Rattle.std.specs.Prelude.{◌≡◌, ◌<◌, All, Bool, ◌&&◌, not, if◌then◌else◌, ℕ, suc, ◌+◌, ℤ, pos, Option, Some, None, List, [], ◌∷◌, ◌++◌, fold, length, map, replicate, take, drop, slice_index_or, slice_set}
use Rattle.std.specs.Bool.{nat_eq, nat_le}
use Rattle.std.specs.List.{list_any, list_all, range_with_len}
use Rattle.std.specs.Ordering.{int_eq}
use Rattle.std.specs.Cmp.Lexicographic.{pointwise}
use Rattle.isl_piece.specs.declared.row.Row.{Row}
use Rattle.isl_piece.specs.declared.definition.Definition.{Definition}
use Rattle.isl_piece.specs.declared.meeting.Meeting.{Meeting}
use Rattle.isl_piece.specs.declared.system.System.{System}
use Rattle.isl_piece.specs.System.{free_columns}

-- ---- columns at other places
-- each of the coefficients cs put at its place among all
abbrev pub put_at : List ℤ → List ℕ → List ℤ → List ℤ
put_at all [] cs = all
put_at all (place ∷ places) [] = all
put_at all (place ∷ places) (c ∷ cs) = put_at (slice_set all place c) places cs

-- the coefficients cs at their places among so many columns, and 0 at the others
abbrev pub placed : ℕ → List ℕ → List ℤ → List ℤ
placed columns places cs = put_at (replicate columns (pos 0)) places cs

-- a row whose columns stand at other places
abbrev pub placed_row : ℕ → List ℕ → Row → Row
placed_row columns places r = record { kind = r.kind; coefs = placed columns places r.coefs; constant = r.constant; k = r.k }

-- a definition whose columns stand at other places
abbrev pub placed_definition : ℕ → List ℕ → Definition → Definition
placed_definition columns places d = record { coefs = placed columns places d.coefs; constant = d.constant; k = d.k }

-- the numbers at places
abbrev pub numbers_at : List ℕ → List ℤ → List ℤ
numbers_at places xs = map (λ place. slice_index_or xs place (pos 0)) places

-- ---- the same definition
-- the second list is the first with zeros behind it
abbrev pub is_padded : List ℤ → List ℤ → Bool
is_padded few more = nat_le (length few) (length more) && pointwise int_eq few (take (length few) more) && list_all (λ z. int_eq z (pos 0)) (drop (length few) more)

-- the same definition, the second over more columns
abbrev pub is_same_definition : Definition → Definition → Bool
is_same_definition a d = int_eq a.constant d.constant && int_eq a.k d.k && is_padded a.coefs d.coefs

-- the first of the defined columns that has the definition and is not taken, where the first of them all is `column`
abbrev pub column_with : Definition → List ℕ → ℕ → List Definition → Option ℕ
column_with d taken column [] = None
column_with d taken column (a ∷ definitions) =
    if is_same_definition a d && not (list_any (λ place. nat_eq place column) taken) then Some column else column_with d taken (suc column) definitions

-- ---- the columns of two systems
-- a defined column of the second stands at the column that was found, or behind the others
abbrev pub joined_at : Meeting → Definition → Option ℕ → Meeting
joined_at m d None = record { columns = m.columns + 1; definitions = m.definitions ++ d ∷ []; places = m.places ++ m.columns ∷ [] }
joined_at m d (Some column) = record { columns = m.columns; definitions = m.definitions; places = m.places ++ column ∷ [] }

-- one more defined column of the second
abbrev pub with_column : ℕ → Meeting → Definition → Meeting
with_column free m d = let moved = placed_definition m.columns m.places d in joined_at m moved (column_with moved m.places free m.definitions)

-- the columns of the first, and the free columns of the second, which are the same
abbrev pub first_columns : ℕ → System → Meeting
first_columns free a = record { columns = free + length a.definitions; definitions = a.definitions; places = range_with_len 0 free }

-- the columns of both
abbrev pub meeting_of : System → List Definition → Meeting
meeting_of a definitions = fold (with_column (free_columns a)) (first_columns (free_columns a) a) definitions

-- the columns are the free ones and one for each definition, and each place is one of them
pub record IsPlaced (free : ℕ) (m : Meeting) : Type 0 where
  pub columns : m.columns ≡ free + length m.definitions
  pub inside : All (λ place. place < m.columns) m.places

-- ---- the system of both
-- the rows of both, over the same columns
abbrev pub over_same_columns : System → System → System
over_same_columns a b = record { columns = a.columns; definitions = a.definitions; rows = a.rows ++ b.rows }

abbrev pub over_columns : Meeting → System → System → System
over_columns m a b = record {
  columns = m.columns;
  definitions = m.definitions;
  rows = map (placed_row m.columns (range_with_len 0 a.columns)) a.rows ++ map (placed_row m.columns m.places) b.rows;
}

-- the system of both, where the columns of the second are found among those of the first or stand behind them
abbrev pub met : System → System → System
met a b = over_columns (meeting_of a b.definitions) a b
