-- public: the least and the greatest elements of sets, and images of maps. (Feautrier; isl manual, lexicographic optimisation)
use Rattle.std.specs.Prelude.{◌≡◌, ◌⊎◌}
use Rattle.isl_space.specs.Element.{Element}
use Rattle.isl_space.specs.Valuation.{Valuation}
use Rattle.isl_union.specs.KeptValue.{KeptValue, Has}
use Rattle.isl_relation.specs.Point.{Point, HasPoint, Relates, map_element, set_element}

-- x is in the set, and nothing in it is so ordered before x
abbrev pub IsFirstOf : (Point → Point → Type 0) → (Element → Type 0) → Point → Type 0
IsFirstOf Ordered S x = HasPoint S x × ((z : Point) → HasPoint S z → ¬ Ordered z x)

-- y is an image of x, and no image of x is so ordered before y
abbrev pub IsFirstImage : (Point → Point → Type 0) → (Element → Type 0) → Point → Point → Type 0
IsFirstImage Ordered M x y = Relates M x y × ((z : Point) → Relates M x z → ¬ Ordered z y)

-- the first elements of a set, and x → y of a map with a first image y of x
abbrev pub FirstHas : (Point → Point → Type 0) → (Element → Type 0) → Element → Type 0
FirstHas Ordered Operand element =
    ((x : Point) × IsFirstOf Ordered Operand x × (element ≡ set_element x))
    ⊎ ((x : Point) × (y : Point) × IsFirstImage Ordered Operand x y × (element ≡ map_element x y))

-- of each form in which the set has elements there is a first one, and of each x and form in which x has images
pub record HasFirst (Ordered : Point → Point → Type 0) (Operand : Element → Type 0) : Type 0 where
  pub sets : (x : Point) → HasPoint Operand x → (z : Point) × (z.form ≡ x.form) × IsFirstOf Ordered Operand z
  pub maps : (x y : Point) → Relates Operand x y → (z : Point) × (z.form ≡ y.form) × IsFirstImage Ordered Operand x z

-- at every valuation
abbrev pub HasFirstEverywhere : (Point → Point → Type 0) → KeptValue → Type 0
HasFirstEverywhere Ordered value = (valuation : Valuation) → HasFirst Ordered (Has value valuation)
