-- inner: which elements are put together of those of two operands, in the words of their pieces and of their values.
use Rattle.std.specs.Prelude.{◌≡◌, ◌↔◌, [], Some, All, Any, List, map, unsigned_abs}
use Rattle.isl_meter.specs.Gauge.{Gauge, limit_of}
use Rattle.isl_space.specs.Element.{Element, IsElement}
use Rattle.isl_space.specs.Form.{Form}
use Rattle.isl_space.specs.Name.{Name}
use Rattle.isl_space.specs.SpaceForm.{SpaceForm, map_of}
use Rattle.isl_space.specs.Valuation.{Valuation}
use Rattle.isl_piece.specs.declared.system.System.{System}
use Rattle.isl_piece.specs.Piece.{PieceView}
use Rattle.isl_piece.specs.System.{HoldsSystem, IsSystemWithin, free_columns}
use Rattle.isl_union.specs.KeptValue.{KeptPiece, KeptValue, HasElement, columns_of, point_of}
use Rattle.isl_elim.specs.Elimination.{HoldsAtAny}
use Rattle.isl_union.specs.Numbers.{IsPieceUpTo}
use Rattle.isl_union.specs.Piece.{kept_piece, IsPieceOf}
use Rattle.isl_relation.specs.Point.{Point, HasPoint, Relates, map_element}
use Rattle.isl_relation.specs.Wide.{IsLiveIn}
use Rattle.isl_products.specs.declared.layout.Pick.{Pick}
use Rattle.isl_products.specs.declared.layout.Place.{Place}
use Rattle.isl_products.specs.declared.layout.Place.TheVariants.{Domain, Range}
use Rattle.isl_products.specs.declared.layout.Product.{Product}
use Rattle.isl_products.specs.declared.layout.Product.TheVariants.{Restrict}
use Rattle.isl_products.specs.Layout.{LayoutView, layout_of, part, IsWide}

-- ---- systems
-- a system over the columns of a space
pub record IsSystemOver (g : Gauge) (params : List Name) (space : SpaceForm) (s : System) : Type 0 where
  pub within : IsSystemWithin g s
  pub free : free_columns s ≡ columns_of params space

-- it holds at the elements of the space whose picked part the piece has
pub record IsPlacedAt (g : Gauge) (params : List Name) (space : SpaceForm) (pick : Pick) (piece : PieceView) (s : System) : Type 0 where
  pub over : IsSystemOver g params space s
  pub plain : piece.system.definitions ≡ [] → s.definitions ≡ []
  pub holds : (valuation : Valuation) (element : Element) → IsElement element → space ≡ element.space
      → HoldsSystem s (point_of params valuation element)
      ↔ HasElement params valuation (part piece.space pick element) (kept_piece piece)

-- it holds at the elements of the layout's space whose parts the two pieces have
pub record IsJoinedAt (g : Gauge) (params : List Name) (layout : LayoutView) (a b : PieceView) (s : System) : Type 0 where
  pub over : IsSystemOver g params layout.space s
  pub plain : a.system.definitions ≡ [] → b.system.definitions ≡ [] → s.definitions ≡ []
  pub holds : (valuation : Valuation) (element : Element) → IsElement element → layout.space ≡ element.space
      → HoldsSystem s (point_of params valuation element)
      ↔ (HasElement params valuation (part a.space layout.own element) (kept_piece a)
      × HasElement params valuation (part b.space layout.other element) (kept_piece b))

-- ---- pieces
-- the product puts the element together of one of each piece
pub record IsMadeOf (product : Product) (params : List Name) (valuation : Valuation) (element : Element) (a b : KeptPiece) : Type 0 where
  pub layout : LayoutView
  pub forms : layout_of product a.space b.space ≡ Some layout
  pub numbers : IsElement element
  pub lies : layout.space ≡ element.space
  pub own : HasElement params valuation (part a.space layout.own element) a
  pub other : HasElement params valuation (part b.space layout.other element) b

-- of one of the piece and one of some of the others
abbrev pub IsMadeWith : Product → List Name → List KeptPiece → Valuation → Element → KeptPiece → Type 0
IsMadeWith product params others valuation element a = Any (IsMadeOf product params valuation element a) others

-- systems that hold at those elements of the piece that have at the place what one of the others has
pub record AreBeside (g : Gauge) (place : Place) (params : List Name) (piece : PieceView) (others : List PieceView) (systems : List System)
    : Type 0 where
  pub over : All (IsSystemOver g params piece.space) systems
  pub plain : All (λ other. other.system.definitions ≡ []) others → All (λ s. s.definitions ≡ []) systems
  pub holds : (valuation : Valuation) (element : Element) → HasElement params valuation element (kept_piece piece)
      → HoldsAtAny systems (point_of params valuation element)
      ↔ IsMadeWith (Restrict place) params (map kept_piece others) valuation element (kept_piece piece)

-- pieces that a value may have, within the limit, of those elements of the piece at which none of the systems holds
pub record AreLeft (g : Gauge) (params : List Name) (piece : PieceView) (systems : List System) (left : List PieceView) : Type 0 where
  pub sound : All (IsPieceOf params) left
  pub numbers : All (IsPieceUpTo (unsigned_abs (limit_of g))) (map kept_piece left)
  pub plain : piece.system.definitions ≡ [] → All (λ s. s.definitions ≡ []) systems
      → All (λ part. part.definitions ≡ []) (map kept_piece left)
  pub elements : (valuation : Valuation) (element : Element) → Any (HasElement params valuation element) (map kept_piece left)
      ↔ (HasElement params valuation element (kept_piece piece) × ¬ HoldsAtAny systems (point_of params valuation element))

-- the piece is one of a map and has the element, and none of the others has what the element has at the place
pub record IsApartFrom (place : Place) (params : List Name) (others : List KeptPiece) (valuation : Valuation) (element : Element)
    (piece : KeptPiece) : Type 0 where
  pub from : Form
  pub to : Form
  pub space : piece.space ≡ map_of from to
  pub has : HasElement params valuation element piece
  pub apart : ¬ IsMadeWith (Restrict place) params others valuation element piece

-- some of the pieces and some of the others are put together in a space that is too wide
abbrev pub AreWide : Product → List KeptPiece → List KeptPiece → Type 0
AreWide product pieces others = Any (λ a. Any (λ b. IsWide product a.space b.space) others) pieces

-- ---- values
-- the element is put together of one of each, by what has them
pub record ProductHas (product : Product) (M N : Element → Type 0) (element : Element) : Type 0 where
  pub s : SpaceForm
  pub t : SpaceForm
  pub layout : LayoutView
  pub forms : layout_of product s t ≡ Some layout
  pub numbers : IsElement element
  pub lies : layout.space ≡ element.space
  pub own : M (part s layout.own element)
  pub other : N (part t layout.other element)

-- the point at a place of x → y
abbrev pub point_at : Place → Point → Point → Point
point_at Domain x y = x
point_at Range x y = y

-- those x → y of the map of which the set has not the one at the place
abbrev pub RemoveHas : Place → (Element → Type 0) → (Element → Type 0) → Element → Type 0
RemoveHas place M S element =
    (x : Point) × (y : Point) × Relates M x y × (¬ HasPoint S (point_at place x y)) × (element ≡ map_element x y)

-- the product puts elements of two of the values' spaces together in a space that is too wide
pub record IsWidePair (product : Product) (a b : KeptValue) : Type 0 where
  pub s : SpaceForm
  pub t : SpaceForm
  pub own : IsLiveIn a s
  pub other : IsLiveIn b t
  pub wide : IsWide product s t
