-- inner: the operations of this crate as one.
use Rattle.std.specs.Prelude.{◌≡◌, ◌⊎◌, ℤ, List, Bool, true, false}
use Rattle.isl_math.specs.Order.{IsBefore}
use Rattle.isl_blocks.specs.declared.cases.Direction.{Direction}
use Rattle.isl_blocks.specs.declared.cases.Direction.TheVariants.{Before, After}
use Rattle.isl_space.specs.Element.{Element}
use Rattle.isl_space.specs.SpaceForm.{SpaceForm, IsTooWideSpace}
use Rattle.isl_relation.specs.Formed.{FormsAccess, FormsSame}
use Rattle.isl_relation.specs.Orders.{ComesAfter, ComesBefore, IsDownTo, IsUpTo, OrderedMapsHas, OrderedSetsHas}
use Rattle.isl_relation.specs.Point.{Point}
use Rattle.isl_orders.specs.declared.order.Operands.{Operands}
use Rattle.isl_orders.specs.declared.order.Operands.TheVariants.{Sets, Maps}
use Rattle.isl_orders.specs.declared.order.Order.{Order}
use Rattle.isl_orders.specs.declared.order.Order.TheVariants.{Less, UpTo, Greater, DownTo}

-- ---- orders
abbrev pub IsOrdered : Order → Point → Point → Type 0
IsOrdered Less = ComesBefore
IsOrdered UpTo = IsUpTo
IsOrdered Greater = ComesAfter
IsOrdered DownTo = IsDownTo

-- the same of lists of numbers
abbrev pub AreOrdered : Order → List ℤ → List ℤ → Type 0
AreOrdered Less xs ys = IsBefore xs ys
AreOrdered UpTo xs ys = IsBefore xs ys ⊎ (xs ≡ ys)
AreOrdered Greater xs ys = IsBefore ys xs
AreOrdered DownTo xs ys = IsBefore ys xs ⊎ (xs ≡ ys)

-- one list is before the other, or behind it
abbrev pub IsApart : Direction → List ℤ → List ℤ → Type 0
IsApart Before xs ys = IsBefore xs ys
IsApart After xs ys = IsBefore ys xs

abbrev pub direction_of : Order → Direction
direction_of Less = Before
direction_of UpTo = Before
direction_of Greater = After
direction_of DownTo = After

-- whether what is the same is so ordered
abbrev pub has_same : Order → Bool
has_same Less = false
has_same UpTo = true
has_same Greater = false
has_same DownTo = true

-- ---- operations
abbrev pub OrderedHas : Operands → Order → (Element → Type 0) → (Element → Type 0) → Element → Type 0
OrderedHas Sets order M N element = OrderedSetsHas (IsOrdered order) M N element
OrderedHas Maps order M N element = OrderedMapsHas (IsOrdered order) M N element

abbrev pub Forms : Operands → SpaceForm → SpaceForm → SpaceForm → Type 0
Forms Sets = FormsSame
Forms Maps = FormsAccess

-- the space that is formed of two is too wide
abbrev pub IsWide : Operands → SpaceForm → SpaceForm → Type 0
IsWide operands s t = (formed : SpaceForm) × Forms operands s t formed × IsTooWideSpace formed
