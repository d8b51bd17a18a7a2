-- public: trees of the least images of what an expression selects. (Feautrier, parametric integer programming)
use Rattle.std.specs.Prelude.{◌≡◌, ◌↔◌, ℕ, List}
use Rattle.isl_space.specs.Element.{Element}
use Rattle.isl_space.specs.Name.{Name}
use Rattle.isl_space.specs.Valuation.{Valuation}
use Rattle.isl_union.specs.KeptValue.{KeptValue, Has, IsKeptValue}
use Rattle.isl_quast.specs.ForestText.{ForestView, forest_text}
use Rattle.isl_pip.specs.Least.{IsForestOf}
use Rattle.isl_values.specs.State.{StateView}
use Rattle.isl_values.specs.Ends.{Elements}
use Rattle.isl_eval.specs.Coded.{AtAssumedNumbers}

-- They are those of a value over these names that has exactly these elements at assumed valuations, and each piece of which has some: a tree
-- for each space in which there are some, that gives the least one, or the least image, at every assumed valuation.
pub record IsForestFor (state : StateView) (names : List Name) (P : Elements) (forest : ForestView) : Type 0 where
  pub value : KeptValue
  pub params : value.params ≡ names
  pub kept : IsKeptValue value
  pub elements : (valuation : Valuation) (element : Element) → Has value valuation element ↔ AtAssumedNumbers state names P valuation element
  pub trees : IsForestOf value forest

-- the text of such trees; which ones is free
abbrev pub IsTextOfTrees : StateView → List Name → Elements → List ℕ → Type 0
IsTextOfTrees state names P text = (forest : ForestView) × IsForestFor state names P forest × (text ≡ forest_text forest)
