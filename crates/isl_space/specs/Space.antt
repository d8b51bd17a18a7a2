-- public: a space by content: what it is when the sharing of its parts is forgotten.
use Rattle.isl_space.specs.declared.space.Space.{Space}
use Rattle.isl_space.specs.declared.space.Space.TheVariants.{Set, Map}
use Rattle.isl_space.specs.SpaceForm.{SpaceForm, set_of, map_of}
use Rattle.isl_space.specs.Shape.{form_of}

abbrev pub space_form_of : Space → SpaceForm
space_form_of (Set shape) = set_of (form_of shape.value)
space_form_of (Map from to) = map_of (form_of from.value) (form_of to.value)
