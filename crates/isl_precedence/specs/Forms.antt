-- public: the forms of two accesses and of their times. (isl manual, dependence analysis)
use Rattle.std.specs.Prelude.{◌≡◌, ◌≤◌, ℕ, List, [], ◌∷◌, length}
use Rattle.isl_space.specs.Form.{Form, width_of}
use Rattle.isl_space.specs.Limits.{most_coordinates}
use Rattle.isl_space.specs.Name.{Name}
use Rattle.isl_space.specs.Shape.{form_of}
use Rattle.isl_space.specs.SpaceForm.{SpaceForm, map_of}
use Rattle.isl_precedence.specs.declared.forms.Forms.{Forms}

-- x → a, y → a, x → p and y → p
pub record AreForms (m n t u : SpaceForm) (x y a p : Form) : Type 0 where
  pub source : m ≡ map_of x a
  pub sink : n ≡ map_of y a
  pub start : t ≡ map_of x p
  pub stop : u ≡ map_of y p

abbrev pub AreFormsOf : SpaceForm → SpaceForm → SpaceForm → SpaceForm → Forms → Type 0
AreFormsOf source sink start stop f =
    AreForms source sink start stop (form_of f.source.value) (form_of f.sink.value) (form_of f.access.value) (form_of f.time.value)

-- the spaces are not such
abbrev pub AreApartForms : SpaceForm → SpaceForm → SpaceForm → SpaceForm → Type 0
AreApartForms source sink start stop = (x y a p : Form) → ¬ AreForms source sink start stop x y a p

-- the same forms, in other places of memory
pub record AreSameForms (f h : Forms) : Type 0 where
  pub source : form_of f.source.value ≡ form_of h.source.value
  pub sink : form_of f.sink.value ≡ form_of h.sink.value
  pub access : form_of f.access.value ≡ form_of h.access.value
  pub time : form_of f.time.value ≡ form_of h.time.value

-- none has more coordinates than a space may have
pub record AreNarrowForms (f : Forms) : Type 0 where
  pub source : width_of (form_of f.source.value) ≤ most_coordinates
  pub sink : width_of (form_of f.sink.value) ≤ most_coordinates
  pub access : width_of (form_of f.access.value) ≤ most_coordinates
  pub time : width_of (form_of f.time.value) ≤ most_coordinates

-- how many columns the blocks have: parameters, source, sink, access, and two times
abbrev pub widths_for : List Name → Forms → List ℕ
widths_for params f =
    length params ∷ width_of (form_of f.source.value) ∷ width_of (form_of f.sink.value) ∷ width_of (form_of f.access.value)
    ∷ width_of (form_of f.time.value) ∷ width_of (form_of f.time.value) ∷ []
