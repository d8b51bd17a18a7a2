-- public: which accesses come before others, and which are the last. (isl manual, dependence analysis; the iscc chapter of the barvinok manual)
use Rattle.std.specs.Prelude.{◌≡◌}
use Rattle.isl_space.specs.Element.{Element}
use Rattle.isl_relation.specs.Point.{Point, Relates, map_element}
use Rattle.isl_relation.specs.Orders.{ComesBefore}

-- x at p and y at q access a, x earlier
pub record Precedes (M N T : Element → Type 0) (x y a p q : Point) : Type 0 where
  pub source : Relates M x a
  pub sink : Relates N y a
  pub at : Relates T x p
  pub sink_at : Relates T y q
  pub earlier : ComesBefore p q

-- some other access of a by M comes between p and q
abbrev pub IsOverwritten : (Element → Type 0) → (Element → Type 0) → Point → Point → Point → Type 0
IsOverwritten M T a p q = (x : Point) × (r : Point) × Relates M x a × Relates T x r × ComesBefore p r × ComesBefore r q

abbrev pub AnyHas : (Element → Type 0) → (Element → Type 0) → (Element → Type 0) → Element → Type 0
AnyHas M N T element = (x : Point) × (y : Point) × (a : Point) × (p : Point) × (q : Point) × Precedes M N T x y a p q × (element ≡ map_element x y)

-- those of which none is overwritten; where several come last at one time, each is one
abbrev pub LastHas : (Element → Type 0) → (Element → Type 0) → (Element → Type 0) → Element → Type 0
LastHas M N T element =
    (x : Point) × (y : Point) × (a : Point) × (p : Point) × (q : Point) × Precedes M N T x y a p q × (¬ IsOverwritten M T a p q)
    × (element ≡ map_element x y)

-- y → a of N, where nothing comes before y at a
abbrev pub UnsourcedHas : (Element → Type 0) → (Element → Type 0) → (Element → Type 0) → Element → Type 0
UnsourcedHas M N T element =
    (y : Point) × (a : Point) × Relates N y a × ((x : Point) (p : Point) (q : Point) → ¬ Precedes M N T x y a p q) × (element ≡ map_element y a)
