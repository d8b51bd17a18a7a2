-- public: where a name stands: among the parameters, or else at the first entry that consists of it alone.
use Rattle.std.specs.Prelude.{ℕ, Bool, false, ◌==◌, List, length, Option, Some, None}
use Rattle.std.specs.Str.{bytes_eq}
use Rattle.std.specs.List.{position_from}
use Rattle.isl_tree.specs.declared.tree.Entry.{Entry}
use Rattle.isl_tree.specs.declared.tree.Entry.TheVariants.{Plain, Named}
use Rattle.isl_tree.specs.Literal.{lone_name}

-- the name that an entry consists of
abbrev pub entry_name : Entry → Option (List ℕ)
entry_name (Plain term) = lone_name term
entry_name (Named name term) = Some name

abbrev pub is_name : Option (List ℕ) → List ℕ → Bool
is_name None name = false
is_name (Some m) name = bytes_eq m name

-- the place of the first entry that consists of this name, where the first of the entries stands at a column
abbrev pub entry_from : ℕ → List Entry → List ℕ → Option ℕ
entry_from first entries name = position_from (λ entry. is_name (entry_name entry) name) first entries

abbrev pub param_from : ℕ → List (List ℕ) → List ℕ → Option ℕ
param_from first params name = position_from (λ m. bytes_eq m name) first params

abbrev pub first_some : Option ℕ → Option ℕ → Option ℕ
first_some None other = other
first_some (Some at) other = Some at

-- the column of a name of a piece: that of the parameter, or else that of the first entry that consists of it
abbrev pub place_of : List (List ℕ) → List Entry → List ℕ → Option ℕ
place_of params entries name = first_some (param_from 0 params name) (entry_from (length params) entries name)

-- a column that may be missing, or n
abbrev pub or_else : Option ℕ → ℕ → ℕ
or_else None n = n
or_else (Some at) n = at

-- the columns of the names of a piece with these entries; n where a name is unknown
abbrev pub place_among : List (List ℕ) → List Entry → ℕ → List ℕ → ℕ
place_among params entries n = λ name. or_else (place_of params entries name) n

abbrev pub is_at : Option ℕ → ℕ → Bool
is_at None at = false
is_at (Some place) at = place == at

abbrev pub brings_name : List (List ℕ) → List Entry → Option (List ℕ) → ℕ → Bool
brings_name params entries None at = false
brings_name params entries (Some name) at = is_at (place_of params entries name) at

-- an entry brings in its name where that has the entry's own column
abbrev pub brings : List (List ℕ) → List Entry → Entry → ℕ → Bool
brings params entries entry at = brings_name params entries (entry_name entry) at
