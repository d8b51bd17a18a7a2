-- public: which elements operations on sets select. (isl manual, set operations; the iscc chapter of the barvinok manual)
use Rattle.std.specs.Prelude.{◌≡◌, ◌⊎◌}
use Rattle.isl_space.specs.Element.{Element}
use Rattle.isl_relation.specs.Point.{Point, IsPoint, HasPoint, set_element, map_element, paired}

-- x → y, with x in the one and y in the other
abbrev pub UniversalHas : (Element → Type 0) → (Element → Type 0) → Element → Type 0
UniversalHas S T element = (x : Point) × (y : Point) × HasPoint S x × HasPoint T y × (element ≡ map_element x y)

-- `[x -> y]`, with x in the one and y in the other
abbrev pub CrossSetsHas : (Element → Type 0) → (Element → Type 0) → Element → Type 0
CrossSetsHas S T element = (x : Point) × (y : Point) × HasPoint S x × HasPoint T y × (element ≡ set_element (paired x y))

-- x → x, with x in the set
abbrev pub IdentityHas : (Element → Type 0) → Element → Type 0
IdentityHas S element = (x : Point) × HasPoint S x × (element ≡ map_element x x)

-- x → y, where `[x -> y]` is in the set
abbrev pub UnwrapHas : (Element → Type 0) → Element → Type 0
UnwrapHas S element = (x : Point) × (y : Point) × IsPoint x × IsPoint y × HasPoint S (paired x y) × (element ≡ map_element x y)
