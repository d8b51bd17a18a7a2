-- inner: how a listing is stored, which a model asks for: each element as the pair of its parts.
use Rattle.std.specs.Prelude.{ℤ, List, refl}
use Rattle.std.specs.Coded.{Coded, code_by, coded×, coded_list, coded_ℤ}
use Rattle.isl_space.specs.Element.{Element}
use Rattle.isl_space.specs.SpaceForm.{SpaceForm}
use Rattle.isl_space.specs.FormCode.{space_form_code}

abbrev pub element_code : Coded Element
element_code =
    code_by (SpaceForm × List ℤ) (coded× space_form_code (coded_list coded_ℤ)) (λ element. (element.space, element.coordinates))
    (λ parts. record { space = parts.0; coordinates = parts.1 }) (λ _. refl)

abbrev pub listing_code : Coded (List Element)
listing_code = coded_list element_code
