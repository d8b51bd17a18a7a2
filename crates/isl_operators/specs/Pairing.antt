-- inner: what operators make of two sets, and of two maps.
use Rattle.std.specs.Prelude.{◌⊎◌}
use Rattle.isl_space.specs.Element.{Element}
use Rattle.isl_space.specs.SpaceForm.{SpaceForm, IsTooWideSpace}
use Rattle.isl_relation.specs.Formed.{FormsAccess, FormsCrossMaps, FormsCrossSets, FormsSame}
use Rattle.isl_relation.specs.Orders.{ComesAfter, ComesBefore, IsDownTo, IsUpTo, OrderedMapsHas, OrderedSetsHas}
use Rattle.isl_relation.specs.Pairs.{CrossMapsHas}
use Rattle.isl_relation.specs.Sets.{CrossSetsHas}
use Rattle.isl_operators.specs.declared.pairing.Pairing.{Pairing}
use Rattle.isl_operators.specs.declared.pairing.Pairing.TheVariants as pairs

-- ---- elements
abbrev pub SetsHave : Pairing → (Element → Type 0) → (Element → Type 0) → Element → Type 0
SetsHave pairs.Cross Left Right element = CrossSetsHas Left Right element
SetsHave pairs.Less Left Right element = OrderedSetsHas ComesBefore Left Right element
SetsHave pairs.LessEqual Left Right element = OrderedSetsHas IsUpTo Left Right element
SetsHave pairs.Greater Left Right element = OrderedSetsHas ComesAfter Left Right element
SetsHave pairs.GreaterEqual Left Right element = OrderedSetsHas IsDownTo Left Right element

abbrev pub MapsHave : Pairing → (Element → Type 0) → (Element → Type 0) → Element → Type 0
MapsHave pairs.Cross Left Right element = CrossMapsHas Left Right element
MapsHave pairs.Less Left Right element = OrderedMapsHas ComesBefore Left Right element
MapsHave pairs.LessEqual Left Right element = OrderedMapsHas IsUpTo Left Right element
MapsHave pairs.Greater Left Right element = OrderedMapsHas ComesAfter Left Right element
MapsHave pairs.GreaterEqual Left Right element = OrderedMapsHas IsDownTo Left Right element

abbrev pub PairingHas : Pairing → (Element → Type 0) → (Element → Type 0) → Element → Type 0
PairingHas pairing Left Right element = SetsHave pairing Left Right element ⊎ MapsHave pairing Left Right element

-- ---- spaces
abbrev pub SetsForm : Pairing → SpaceForm → SpaceForm → SpaceForm → Type 0
SetsForm pairs.Cross s t formed = FormsCrossSets s t formed
SetsForm pairs.Less s t formed = FormsSame s t formed
SetsForm pairs.LessEqual s t formed = FormsSame s t formed
SetsForm pairs.Greater s t formed = FormsSame s t formed
SetsForm pairs.GreaterEqual s t formed = FormsSame s t formed

abbrev pub MapsForm : Pairing → SpaceForm → SpaceForm → SpaceForm → Type 0
MapsForm pairs.Cross s t formed = FormsCrossMaps s t formed
MapsForm pairs.Less s t formed = FormsAccess s t formed
MapsForm pairs.LessEqual s t formed = FormsAccess s t formed
MapsForm pairs.Greater s t formed = FormsAccess s t formed
MapsForm pairs.GreaterEqual s t formed = FormsAccess s t formed

abbrev pub PairingForms : Pairing → SpaceForm → SpaceForm → SpaceForm → Type 0
PairingForms pairing s t formed = SetsForm pairing s t formed ⊎ MapsForm pairing s t formed

-- the space that is formed of two sets' is too wide
abbrev pub IsWideOfSets : Pairing → SpaceForm → SpaceForm → Type 0
IsWideOfSets pairing s t = (formed : SpaceForm) × SetsForm pairing s t formed × IsTooWideSpace formed
