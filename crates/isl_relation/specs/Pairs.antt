-- public: which elements operations on nested tuples select. (isl manual, on wrapped relations; the iscc chapter of the barvinok manual)
use Rattle.std.specs.Prelude.{◌≡◌}
use Rattle.isl_space.specs.Element.{Element}
use Rattle.isl_relation.specs.Point.{Point, IsPoint, Relates, set_element, map_element, paired}

-- `[x -> y]`, where the map has x → y
abbrev pub WrapHas : (Element → Type 0) → Element → Type 0
WrapHas M element = (x : Point) × (y : Point) × Relates M x y × (element ≡ set_element (paired x y))

-- `[x -> u]` → `[y -> w]`, where the one map has x → y and the other u → w
abbrev pub CrossMapsHas : (Element → Type 0) → (Element → Type 0) → Element → Type 0
CrossMapsHas M N element =
    (x : Point) × (y : Point) × (u : Point) × (w : Point) × Relates M x y × Relates N u w × (element ≡ map_element (paired x u) (paired y w))

-- `[x -> u]` → `[y -> w]`, where the map has `[x -> y]` → `[u -> w]`
abbrev pub ZipHas : (Element → Type 0) → Element → Type 0
ZipHas M element =
    (x : Point) × (y : Point) × (u : Point) × (w : Point) × IsPoint x × IsPoint y × IsPoint u × IsPoint w
    × Relates M (paired x y) (paired u w) × (element ≡ map_element (paired x u) (paired y w))

-- `[x -> y]` → x, where the map has x → y
abbrev pub DomainMapHas : (Element → Type 0) → Element → Type 0
DomainMapHas M element = (x : Point) × (y : Point) × Relates M x y × (element ≡ map_element (paired x y) x)

-- `[x -> y]` → y
abbrev pub RangeMapHas : (Element → Type 0) → Element → Type 0
RangeMapHas M element = (x : Point) × (y : Point) × Relates M x y × (element ≡ map_element (paired x y) y)
