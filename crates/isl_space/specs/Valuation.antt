-- public: what numbers the parameters stand for. (isl manual, on parameters)
use Rattle.std.specs.Prelude.{List, [], ◌∷◌, ℤ, pos, map, if◌then◌else◌}
use Rattle.std.specs.Str.{bytes_eq}
use Rattle.isl_space.specs.Name.{Name}

-- A whole number for each of finitely many names: a list of names with their numbers, as a command line gives them.
-- "Every valuation" is then a claim for each such list, and a valuation with given numbers is written down as one.
abbrev pub Valuation : Type 0
Valuation = List (Name × ℤ)

-- the number of a name: that beside its first place in the list, and 0 for a name that is not there
abbrev pub value_at : Valuation → Name → ℤ
value_at [] name = pos 0
value_at (entry ∷ others) name = if bytes_eq entry.0 name then entry.1 else value_at others name

-- the numbers of these names, in order
abbrev pub values_of : List Name → Valuation → List ℤ
values_of names valuation = map (λ name. value_at valuation name) names
