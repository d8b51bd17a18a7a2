-- public: the elements at which one of several systems holds.
use Rattle.std.specs.Prelude.{◌≡◌, List}
use Rattle.isl_space.specs.Name.{Name}
use Rattle.isl_space.specs.SpaceForm.{SpaceForm}
use Rattle.isl_space.specs.Element.{Element, IsElement}
use Rattle.isl_space.specs.Valuation.{Valuation}
use Rattle.isl_piece.specs.declared.system.System.{System}
use Rattle.isl_elim.specs.Elimination.{HoldsAtAny}
use Rattle.isl_union.specs.KeptValue.{point_of}

-- the element lies in the space, and one of the systems holds there
pub record IsOfAny (params : List Name) (space : SpaceForm) (systems : List System) (valuation : Valuation) (element : Element)
    : Type 0 where
  pub numbers : IsElement element
  pub lies : element.space ≡ space
  pub holds : HoldsAtAny systems (point_of params valuation element)
