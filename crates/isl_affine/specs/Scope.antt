-- public: the names of the columns of a system.
use Rattle.std.specs.Prelude.{◌≡◌, ℕ, suc, ℤ, pos, Bool, true, false, if◌then◌else◌, List, [], ◌∷◌, Option, Some, None, IfSome, is_some}
use Rattle.std.specs.Prelude.{slice_index_or}
use Rattle.std.specs.Str.{bytes_eq}
use Rattle.isl_tree.specs.Environment.{Environment, value_in}
use Rattle.isl_tree.specs.Literal.{is_among}
use Rattle.isl_tree.specs.Term.{Term}
use Rattle.isl_tree.specs.Known.{term_is_known}

-- the names of the first columns of a system, where they have one
abbrev pub Scope : Type 0
Scope = List (Option (List ℕ))

-- a column has this name
abbrev pub is_named : List ℕ → Option (List ℕ) → Bool
is_named name None = false
is_named name (Some other) = bytes_eq other name

-- the later of two columns, where it is there
abbrev pub latest : Option ℕ → Option ℕ → Option ℕ
latest earlier None = earlier
latest earlier (Some at) = Some at

-- the last column that has a name, where the first of these stands at a column
abbrev pub column_from : ℕ → Scope → List ℕ → Option ℕ
column_from first [] name = None
column_from first (entry ∷ scope) name =
    latest (if is_named name entry then Some first else None) (column_from (suc first) scope name)

-- the column of a name: the last one that has it, since a later name hides an earlier
abbrev pub column_of : Scope → List ℕ → Option ℕ
column_of scope name = column_from 0 scope name

-- each name of the scope stands in the environment for the point's number at its column
pub record IsNumbered (scope : Scope) (point : List ℤ) (env : Environment) : Type 0 where
  pub value : (name : List ℕ) → IfSome (column_of scope name) (λ at. value_in env name ≡ slice_index_or point at (pos 0))

-- the names of the scope are these
abbrev pub KnowsAll : Scope → List (List ℕ) → Type 0
KnowsAll scope known = (name : List ℕ) → is_among known name ≡ is_some (column_of scope name)

-- each name of the term is one of the scope
abbrev pub IsTermKnown : Scope → Term → Type 0
IsTermKnown scope term = (known : List (List ℕ)) × KnowsAll scope known × (term_is_known known term ≡ true)
