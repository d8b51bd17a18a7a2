-- public: the affine hulls of values. (isl manual, on affine hulls)
use Rattle.std.specs.Prelude.{◌≡◌, ◌≢◌, ◌↔◌, List, All, AllPairs, ℤ, pos, ◌+ℤ◌, length}
use Rattle.isl_math.specs.Dot.{dot}
use Rattle.isl_space.specs.Element.{Element, IsElement}
use Rattle.isl_space.specs.Name.{Name}
use Rattle.isl_space.specs.SpaceForm.{SpaceForm}
use Rattle.isl_space.specs.Valuation.{Valuation}
use Rattle.isl_piece.specs.declared.row.RowKind.TheVariants.{Zero}
use Rattle.isl_span.specs.Independent.{AreIndependent}
use Rattle.isl_union.specs.KeptValue.{KeptValue, Has, HasNoDefinitions, columns_of, point_of}

-- ---- elements
-- the form over these names and the coordinates of the space is 0 at each element in it, at every valuation
abbrev pub VanishesOn : List Name → (Valuation → Element → Type 0) → SpaceForm → List ℤ → ℤ → Type 0
VanishesOn names There space coefs constant =
    (valuation : Valuation) (element : Element) → There valuation element → element.space ≡ space
    → dot coefs (point_of names valuation element) +ℤ constant ≡ pos 0

-- there is no element in the space, at any valuation
abbrev pub HasNoneIn : (Valuation → Element → Type 0) → SpaceForm → Type 0
HasNoneIn There space = (valuation : Valuation) (element : Element) → There valuation element → ¬ (element.space ≡ space)

-- in a space in which there are elements: each form over names and coordinates that is 0 at all of these is 0 there
pub record HullHas (names : List Name) (There : Valuation → Element → Type 0) (valuation : Valuation) (element : Element) : Type 0 where
  pub numbers : IsElement element
  pub live : ¬ HasNoneIn There element.space
  pub zero : (coefs : List ℤ) (constant : ℤ) → length coefs ≡ columns_of names element.space
      → VanishesOn names There element.space coefs constant → dot coefs (point_of names valuation element) +ℤ constant ≡ pos 0

-- ---- values
-- one piece for each space, of equations, none of which is implied by the others; at each valuation exactly the elements of the hull
pub record IsHullOf (value hull : KeptValue) : Type 0 where
  pub params : hull.params ≡ value.params
  pub elements : (valuation : Valuation) (element : Element) → Has hull valuation element
      ↔ HullHas value.params (Has value) valuation element
  pub spaces : AllPairs (λ p q. p.space ≢ q.space) hull.pieces
  pub plain : HasNoDefinitions hull
  pub equations : All (λ p. All (λ r. r.kind ≡ Zero) p.rows) hull.pieces
  pub independent : All (λ p. AreIndependent (columns_of hull.params p.space) p.rows) hull.pieces
