-- public: the names of coordinates in printed text.
use Rattle.std.specs.Prelude.{ℕ, zero, suc, ◌+◌, ◌-◌, List, [], ◌∷◌, ◌++◌, length, codes, if◌then◌else◌}
use Rattle.std.specs.Fmt.{decimal}
use Rattle.std.specs.List.{sum_by}
use Rattle.isl_space.specs.Name.{Name}
use Rattle.isl_space.specs.Names.{is_among}
use Rattle.isl_space.specs.Form.{width_of}
use Rattle.isl_space.specs.SpaceForm.{SpaceForm, set_of, map_of}

-- the name with as many primes as make it none of the others, but with no more than a number
abbrev pub primed : ℕ → List Name → Name → Name
primed zero others name = name
primed (suc most) others name = if is_among others name then primed most others (name ++ codes "'") else name

-- the name with as many primes as make it none of the others; one that is longer than all of them together is none of them
abbrev pub free_name : List Name → Name → Name
free_name others name = primed (sum_by length others + 1 - length name) others name

-- coordinates counted from a first one on: a letter and the number
abbrev pub numbered : List Name → Name → ℕ → ℕ → List Name
numbered params letter first zero = []
numbered params letter first (suc count) = free_name params (letter ++ decimal first) ∷ numbered params letter (first + 1) count

-- the coordinates of a set and those that a map maps from are `i0`, `i1`, .., those that it maps to `o0`, `o1`, ..
abbrev pub coordinate_names : List Name → SpaceForm → List Name
coordinate_names params (set_of form) = numbered params (codes "i") 0 (width_of form)
coordinate_names params (map_of from to) = numbered params (codes "i") 0 (width_of from) ++ numbered params (codes "o") 0 (width_of to)

-- the names of the columns: the parameters, and then the coordinates
abbrev pub column_names : List Name → SpaceForm → List Name
column_names params space = params ++ coordinate_names params space
