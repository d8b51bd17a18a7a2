-- public: tuples as text, as in printed values. (isl manual, on named and nested tuples)
use Rattle.std.specs.Prelude.{List, [], ◌∷◌, ◌++◌, take, drop, codes}
use Rattle.isl_space.specs.Name.{Name}
use Rattle.isl_space.specs.Form.{Form, leaf, pair, width_of, name_text}
use Rattle.isl_space.specs.SpaceForm.{SpaceForm, set_of, map_of}
use Rattle.isl_row_text.specs.Joined.{Text, joined_by}

-- a tuple of the first of the names: a leaf is its name and the names in brackets, a pair is `[left -> right]`
abbrev pub tuple_text : Form → List Name → Text
tuple_text (leaf name width) names = name_text name ++ codes "[" ++ joined_by (codes ", ") (take width names) ++ codes "]"
tuple_text (pair left right) names =
    codes "[" ++ tuple_text left names ++ codes " -> " ++ tuple_text right (drop (width_of left) names) ++ codes "]"

-- a set has one tuple, a map two
abbrev pub tuples_text : SpaceForm → List Name → Text
tuples_text (set_of form) names = tuple_text form names
tuples_text (map_of from to) names = tuple_text from names ++ codes " -> " ++ tuple_text to (drop (width_of from) names)

-- declared names, where there are some
abbrev pub params_text : List Name → Text
params_text [] = []
params_text (name ∷ names) = codes "[" ++ joined_by (codes ", ") (name ∷ names) ++ codes "] -> "
