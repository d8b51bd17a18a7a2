-- public: what values say of one another, at every valuation of the parameters. (isl manual, on comparing sets and relations)
use Rattle.isl_space.specs.Element.{Element}
use Rattle.isl_space.specs.Valuation.{Valuation}
use Rattle.isl_union.specs.KeptValue.{KeptValue, Has}

-- the value has no element at any valuation
abbrev pub IsEmpty : KeptValue → Type 0
IsEmpty value = (valuation : Valuation) (element : Element) → ¬ Has value valuation element

-- at every valuation each element of the first is one of the second
abbrev pub IsSubset : KeptValue → KeptValue → Type 0
IsSubset a b = (valuation : Valuation) (element : Element) → Has a valuation element → Has b valuation element

-- at every valuation both have the same elements
abbrev pub AreEqual : KeptValue → KeptValue → Type 0
AreEqual a b = IsSubset a b × IsSubset b a
