-- public: whether forms, and spaces, are equal. (isl manual, on spaces)
use Rattle.std.specs.Prelude.{Bool, false, ◌&&◌}
use Rattle.std.specs.Bool.{nat_eq}
use Rattle.std.specs.Option.{option_eq}
use Rattle.std.specs.Str.{bytes_eq}
use Rattle.isl_space.specs.Form.{Form, leaf, pair}
use Rattle.isl_space.specs.SpaceForm.{SpaceForm, set_of, map_of}

-- whether two forms are equal
abbrev pub is_same_form : Form → Form → Bool
is_same_form (leaf a m) (leaf b n) = option_eq bytes_eq a b && nat_eq m n
is_same_form (leaf a m) (pair c d) = false
is_same_form (pair a b) (leaf c n) = false
is_same_form (pair a b) (pair c d) = is_same_form a c && is_same_form b d

-- whether two spaces are equal
abbrev pub is_same_space : SpaceForm → SpaceForm → Bool
is_same_space (set_of a) (set_of b) = is_same_form a b
is_same_space (set_of a) (map_of c d) = false
is_same_space (map_of a b) (set_of c) = false
is_same_space (map_of a b) (map_of c d) = is_same_form a c && is_same_form b d
