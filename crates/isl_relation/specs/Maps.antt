-- public: which elements operations on maps select. (isl manual, relation operations; the iscc chapter of the barvinok manual)
use Rattle.std.specs.Prelude.{◌≡◌, ℤ, ◌-ℤ◌, List, [], ◌∷◌}
use Rattle.isl_space.specs.Element.{Element}
use Rattle.isl_relation.specs.Point.{Point, HasPoint, Relates, set_element, map_element}

-- ---- one map
-- the x that the map maps to some y
abbrev pub DomainHas : (Element → Type 0) → Element → Type 0
DomainHas M element = (x : Point) × (y : Point) × Relates M x y × (element ≡ set_element x)

-- the y that it maps some x to
abbrev pub RangeHas : (Element → Type 0) → Element → Type 0
RangeHas M element = (x : Point) × (y : Point) × Relates M x y × (element ≡ set_element y)

-- the numbers of the second list, less those of the first
abbrev pub differences : List ℤ → List ℤ → List ℤ
differences [] ys = []
differences (x ∷ xs) [] = []
differences (x ∷ xs) (y ∷ ys) = (y -ℤ x) ∷ differences xs ys

-- y - x, in the form of both, where the map maps x to a y of the same form
abbrev pub DeltasHas : (Element → Type 0) → Element → Type 0
DeltasHas M element =
    (x : Point) × (y : Point) × Relates M x y × (y.form ≡ x.form)
    × (element ≡ set_element (record { form = x.form; numbers = differences x.numbers y.numbers }))

-- ---- a map and a set
-- those x → y of the map whose x is in the set
abbrev pub RestrictDomainHas : (Element → Type 0) → (Element → Type 0) → Element → Type 0
RestrictDomainHas M S element = (x : Point) × (y : Point) × Relates M x y × HasPoint S x × (element ≡ map_element x y)

-- those whose y is in the set
abbrev pub RestrictRangeHas : (Element → Type 0) → (Element → Type 0) → Element → Type 0
RestrictRangeHas M S element = (x : Point) × (y : Point) × Relates M x y × HasPoint S y × (element ≡ map_element x y)

-- those whose x is not in the set
abbrev pub RemoveDomainHas : (Element → Type 0) → (Element → Type 0) → Element → Type 0
RemoveDomainHas M S element = (x : Point) × (y : Point) × Relates M x y × (¬ HasPoint S x) × (element ≡ map_element x y)

-- those whose y is not in the set
abbrev pub RemoveRangeHas : (Element → Type 0) → (Element → Type 0) → Element → Type 0
RemoveRangeHas M S element = (x : Point) × (y : Point) × Relates M x y × (¬ HasPoint S y) × (element ≡ map_element x y)

-- the y that the map maps some x of the set to
abbrev pub ApplyHas : (Element → Type 0) → (Element → Type 0) → Element → Type 0
ApplyHas M S element = (x : Point) × (y : Point) × Relates M x y × HasPoint S x × (element ≡ set_element y)

-- ---- two maps
-- x → z, where the first map maps x to some y, and the second maps that y to z
abbrev pub JoinHas : (Element → Type 0) → (Element → Type 0) → Element → Type 0
JoinHas M N element = (x : Point) × (y : Point) × (z : Point) × Relates M x y × Relates N y z × (element ≡ map_element x z)
