-- public: tuples of numbers, and the elements that are made of them. (isl manual, on sets, relations and nested tuples)
use Rattle.std.specs.Prelude.{◌≡◌, List, ◌++◌, ℤ, length}
use Rattle.isl_space.specs.Form.{Form, pair, width_of}
use Rattle.isl_space.specs.SpaceForm.{set_of, map_of}
use Rattle.isl_space.specs.Element.{Element}

-- a form and numbers
pub record Point : Type 0 where
  pub form : Form
  pub numbers : List ℤ

-- as many numbers as the form has coordinates
abbrev pub IsPoint : Point → Type 0
IsPoint x = length x.numbers ≡ width_of x.form

-- the element x of a set
abbrev pub set_element : Point → Element
set_element x = record { space = set_of x.form; coordinates = x.numbers }

-- the element x → y of a map
abbrev pub map_element : Point → Point → Element
map_element x y = record { space = map_of x.form y.form; coordinates = x.numbers ++ y.numbers }

-- the nested tuple `[x -> y]`
abbrev pub paired : Point → Point → Point
paired x y = record { form = pair x.form y.form; numbers = x.numbers ++ y.numbers }

-- a set, or a map, by the elements that it has
abbrev pub Elements : Type 1
Elements = Element → Type 0

-- x is in the set
pub record HasPoint (S : Element → Type 0) (x : Point) : Type 0 where
  pub point : IsPoint x
  pub has : S (set_element x)

-- the map has x → y
pub record Relates (M : Element → Type 0) (x y : Point) : Type 0 where
  pub from : IsPoint x
  pub to : IsPoint y
  pub has : M (map_element x y)
