-- The columns that the entries of a piece give to names, one entry after the other.
use Rattle.std.proofs.Common.{ℕ, ◌+◌, List, [], ◌∷◌, if◌then◌else◌, Option, Some, None}
use Rattle.std.specs.Str.{bytes_eq}
use Rattle.isl_tree.specs.declared.tree.Entry.{Entry}
use Rattle.isl_tree.specs.Literal.{new_name, known_after}

-- names with their columns
abbrev pub Columns : Type 0
Columns = List (List ℕ × ℕ)

-- the column of a name: that of its first pair, and n where it has none
unfoldable pub column_of : ℕ → Columns → List ℕ → ℕ
column_of n [] name = n
column_of n (pair ∷ columns) name = if bytes_eq pair.0 name then pair.1 else column_of n columns name

-- columns in the order of the names, from a first one on
abbrev pub columns_from : ℕ → List (List ℕ) → Columns
columns_from first [] = []
columns_from first (name ∷ names) = (name, first) ∷ columns_from (first + 1) names

abbrev pub with_column : Option (List ℕ) → ℕ → Columns → Columns
with_column None at columns = columns
with_column (Some name) at columns = (name, at) ∷ columns

-- the columns of the names that entries bring in
abbrev pub with_columns : List (List ℕ) → List Entry → ℕ → Columns → Columns
with_columns known [] first columns = columns
with_columns known (entry ∷ entries) first columns =
    with_columns (known_after known (new_name known entry)) entries (first + 1) (with_column (new_name known entry) first columns)
