-- inner: the elements that a system over more coordinates has when some of these are left out. (isl manual, on projecting out)
use Rattle.std.specs.Prelude.{◌≡◌, ◌+◌, ◌≤◌, ℤ, List, ◌++◌, length}
use Rattle.isl_space.specs.Name.{Name}
use Rattle.isl_space.specs.SpaceForm.{SpaceForm, coordinates_of}
use Rattle.isl_space.specs.Element.{Element, IsElement}
use Rattle.isl_space.specs.Valuation.{Valuation, values_of}
use Rattle.isl_piece.specs.declared.system.System.{System}
use Rattle.isl_piece.specs.System.{HoldsSystem, free_columns}
use Rattle.isl_union.specs.Project.{put_between}
use Rattle.isl_images.specs.declared.shadow.Gap.{Gap}

-- the system is one over the parameters, the coordinates of the space, and those that are left out, which stand among these
pub record HasGap (params : List Name) (space : SpaceForm) (system : System) (gap : Gap) : Type 0 where
  pub inside : gap.from ≤ coordinates_of space
  pub columns : free_columns system ≡ length params + (coordinates_of space + gap.count)

-- the element lies in the space, and some numbers for the coordinates that are left out make the system hold
pub record IsShadow (params : List Name) (space : SpaceForm) (system : System) (gap : Gap) (valuation : Valuation) (element : Element)
    : Type 0 where
  pub numbers : IsElement element
  pub lies : element.space ≡ space
  pub middle : List ℤ
  pub long : length middle ≡ gap.count
  pub holds : HoldsSystem system (values_of params valuation ++ put_between gap.from middle element.coordinates)
