-- public: the elements of a value at one valuation, listed. (the iscc chapter of the barvinok manual, on `scan`)
use Rattle.std.specs.Prelude.{◌≡◌, ◌⊎◌, ◌↔◌, List, AllPairs, Contains}
use Rattle.std.specs.Cmp.Lexicographic.{slice_cmp}
use Rattle.std.specs.Ordering.{nat_cmp}
use Rattle.std.specs.declared.cmp.Ordering.TheVariants.{Less}
use Rattle.isl_math.specs.Order.{IsBefore}
use Rattle.isl_space.specs.Element.{Element}
use Rattle.isl_space.specs.SpaceForm.{SpaceForm, space_text_of}
use Rattle.isl_space.specs.Valuation.{Valuation}
use Rattle.isl_union.specs.KeptValue.{KeptValue, Has}

-- the bytes of the text of the one space come before those of the other
abbrev pub IsSpaceBefore : SpaceForm → SpaceForm → Type 0
IsSpaceBefore a b = slice_cmp nat_cmp (space_text_of a) (space_text_of b) ≡ Less

-- the element comes before the other: its space does, or both lie in one space and its numbers come first, from the left
abbrev pub IsElementBefore : Element → Element → Type 0
IsElementBefore a b = IsSpaceBefore a.space b.space ⊎ ((a.space ≡ b.space) × IsBefore a.coordinates b.coordinates)

-- the listing has exactly the elements that the value has at the valuation; each comes before all that are listed after it, so none is
-- listed twice
pub record IsListingOf (value : KeptValue) (valuation : Valuation) (listing : List Element) : Type 0 where
  pub exact : (element : Element) → Contains listing element ↔ Has value valuation element
  pub ordered : AllPairs IsElementBefore listing
