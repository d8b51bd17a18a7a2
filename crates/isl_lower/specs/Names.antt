-- public: the names of the columns of a piece: those of the parameters, and then those that the entries of its tuples bring in.
use Rattle.std.specs.Prelude.{ℕ, ◌+◌, ◌==◌, ℤ, Bool, true, false, is_some, if◌then◌else◌, List, [], ◌∷◌, ◌++◌, map, Option, Some, None}
use Rattle.isl_tree.specs.declared.tree.Entry.{Entry}
use Rattle.isl_tree.specs.declared.tree.Entry.TheVariants.{Plain, Named}
use Rattle.isl_tree.specs.declared.tree.PieceTree.{PieceTree}
use Rattle.isl_tree.specs.Literal.{lone_name, piece_entries}
use Rattle.isl_affine.specs.Scope.{Scope, column_of}

abbrev pub unless_named : Scope → Option (List ℕ) → Option (List ℕ)
unless_named scope None = None
unless_named scope (Some name) = if is_some (column_of scope name) then None else Some name

-- the name that an entry brings in behind named columns: a name alone that none of them has, or the one that stands before its term
abbrev pub new_in : Scope → Entry → Option (List ℕ)
new_in scope (Plain term) = unless_named scope (lone_name term)
new_in scope (Named name term) = Some name

-- the columns of the entries behind those that are named
abbrev pub names_behind : Scope → List Entry → Scope
names_behind scope [] = scope
names_behind scope (entry ∷ entries) = names_behind (scope ++ new_in scope entry ∷ []) entries

-- each parameter has the column of its place
abbrev pub parameter_names : List (List ℕ) → Scope
parameter_names params = map (λ name. Some name) params

abbrev pub piece_names : List (List ℕ) → PieceTree → Scope
piece_names params piece = names_behind (parameter_names params) (piece_entries piece)

-- ---- the column of a term that is a name alone
abbrev pub is_at : Option ℕ → ℕ → Bool
is_at None column = false
is_at (Some at) column = at == column

abbrev pub is_name_at : Scope → Option (List ℕ) → ℕ → Bool
is_name_at scope None column = false
is_name_at scope (Some name) column = is_at (column_of scope name) column
