-- public: lexicographic order, and which pairs operations on it select. (isl manual, lexicographic order)
use Rattle.std.specs.Prelude.{◌≡◌, ◌⊎◌}
use Rattle.isl_math.specs.Order.{IsBefore}
use Rattle.isl_space.specs.Element.{Element}
use Rattle.isl_relation.specs.Point.{Point, HasPoint, Relates, map_element}

-- of one form, and x comes before y
pub record ComesBefore (x y : Point) : Type 0 where
  pub form : x.form ≡ y.form
  pub before : IsBefore x.numbers y.numbers

-- x is not greater than y
abbrev pub IsUpTo : Point → Point → Type 0
IsUpTo x y = ComesBefore x y ⊎ (x ≡ y)

-- x is greater than y
abbrev pub ComesAfter : Point → Point → Type 0
ComesAfter x y = ComesBefore y x

-- x is not less than y
abbrev pub IsDownTo : Point → Point → Type 0
IsDownTo x y = IsUpTo y x

-- x → y of two sets, with x and y so ordered
abbrev pub OrderedSetsHas : (Point → Point → Type 0) → (Element → Type 0) → (Element → Type 0) → Element → Type 0
OrderedSetsHas Ordered S T element = (x : Point) × (y : Point) × HasPoint S x × HasPoint T y × Ordered x y × (element ≡ map_element x y)

-- x → y of two maps, with images p and q so ordered
abbrev pub OrderedMapsHas : (Point → Point → Type 0) → (Element → Type 0) → (Element → Type 0) → Element → Type 0
OrderedMapsHas Ordered M N element =
    (x : Point) × (y : Point) × (p : Point) × (q : Point) × Relates M x p × Relates N y q × Ordered p q × (element ≡ map_element x y)
