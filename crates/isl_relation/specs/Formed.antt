-- public: the spaces that operations form of those of their operands. (isl manual, on spaces)
use Rattle.std.specs.Prelude.{◌≡◌}
use Rattle.isl_space.specs.Form.{Form, pair}
use Rattle.isl_space.specs.SpaceForm.{SpaceForm, set_of, map_of}

abbrev pub FormsUniversal : SpaceForm → SpaceForm → SpaceForm → Type 0
FormsUniversal s t formed = (x : Form) × (y : Form) × (s ≡ set_of x) × (t ≡ set_of y) × (formed ≡ map_of x y)

abbrev pub FormsCrossSets : SpaceForm → SpaceForm → SpaceForm → Type 0
FormsCrossSets s t formed = (x : Form) × (y : Form) × (s ≡ set_of x) × (t ≡ set_of y) × (formed ≡ set_of (pair x y))

abbrev pub FormsCrossMaps : SpaceForm → SpaceForm → SpaceForm → Type 0
FormsCrossMaps s t formed =
    (x : Form) × (y : Form) × (u : Form) × (w : Form) × (s ≡ map_of x y) × (t ≡ map_of u w) × (formed ≡ map_of (pair x u) (pair y w))

-- two maps that meet in one form
abbrev pub FormsJoin : SpaceForm → SpaceForm → SpaceForm → Type 0
FormsJoin s t formed = (x : Form) × (y : Form) × (z : Form) × (s ≡ map_of x y) × (t ≡ map_of y z) × (formed ≡ map_of x z)

abbrev pub FormsIdentity : SpaceForm → SpaceForm → Type 0
FormsIdentity s formed = (x : Form) × (s ≡ set_of x) × (formed ≡ map_of x x)

abbrev pub FormsDomainMap : SpaceForm → SpaceForm → Type 0
FormsDomainMap s formed = (x : Form) × (y : Form) × (s ≡ map_of x y) × (formed ≡ map_of (pair x y) x)

abbrev pub FormsRangeMap : SpaceForm → SpaceForm → Type 0
FormsRangeMap s formed = (x : Form) × (y : Form) × (s ≡ map_of x y) × (formed ≡ map_of (pair x y) y)

-- two sets of one form
abbrev pub FormsSame : SpaceForm → SpaceForm → SpaceForm → Type 0
FormsSame s t formed = (x : Form) × (s ≡ set_of x) × (t ≡ set_of x) × (formed ≡ map_of x x)

-- two maps to one form
abbrev pub FormsAccess : SpaceForm → SpaceForm → SpaceForm → Type 0
FormsAccess s t formed = (x : Form) × (y : Form) × (a : Form) × (s ≡ map_of x a) × (t ≡ map_of y a) × (formed ≡ map_of x y)
