-- inner: how forms are stored, which a model asks for whose value holds them: as the list of their leaves, with a mark before each pair.
use Rattle.std.specs.Prelude.{◌≡◌, ◌⊎◌, ℕ, List, [], ◌∷◌, ◌++◌, Option, Some, None, refl}
use Rattle.std.specs.Coded.{Coded, code_by, coded×, coded⊎, coded_list, coded_option, coded_ℕ}
use Rattle.std.proofs.Common.{◌∙◌, ap, sym, append_assoc, append-nil, inl, inr}
use Rattle.isl_space.specs.Name.{Name}
use Rattle.isl_space.specs.Form.{Form, leaf, pair}
use Rattle.isl_space.specs.SpaceForm.{SpaceForm, set_of, map_of}

abbrev pub Marks : Type 0
Marks = List (Option (Option Name × ℕ))

abbrev pub marks_of : Form → Marks
marks_of (leaf name width) = Some (name, width) ∷ []
marks_of (pair left right) = None ∷ (marks_of left ++ marks_of right)

-- the first two forms as one
abbrev pub paired : List Form → List Form
paired [] = []
paired (a ∷ []) = []
paired (a ∷ (b ∷ forms)) = pair a b ∷ forms

abbrev pub forms_of : Marks → List Form
forms_of [] = []
forms_of (None ∷ marks) = paired (forms_of marks)
forms_of (Some node ∷ marks) = leaf node.0 node.1 ∷ forms_of marks

abbrev pub first_form : List Form → Form
first_form [] = leaf None 0
first_form (form ∷ forms) = form

pub forms_of-marks_of : (form : Form) (marks : Marks) → forms_of (marks_of form ++ marks) ≡ form ∷ forms_of marks
forms_of-marks_of (leaf name width) marks = refl
forms_of-marks_of (pair left right) marks =
    ap (λ l. paired (forms_of l)) (append_assoc (marks_of left) (marks_of right) marks)
    ∙ (ap paired (forms_of-marks_of left (marks_of right ++ marks))
    ∙ ap (λ l. paired (left ∷ l)) (forms_of-marks_of right marks))

pub form_back : (form : Form) → first_form (forms_of (marks_of form)) ≡ form
form_back form = ap (λ l. first_form (forms_of l)) (sym (append-nil (marks_of form))) ∙ ap first_form (forms_of-marks_of form [])

abbrev pub form_code : Coded Form
form_code =
    code_by Marks (coded_list (coded_option (coded× (coded_option (coded_list coded_ℕ)) coded_ℕ))) marks_of
    (λ marks. first_form (forms_of marks)) form_back

abbrev pub parts_of : SpaceForm → Form ⊎ (Form × Form)
parts_of (set_of form) = inl form
parts_of (map_of from to) = inr (from, to)

abbrev pub space_of_parts : Form ⊎ (Form × Form) → SpaceForm
space_of_parts (inl form) = set_of form
space_of_parts (inr forms) = map_of forms.0 forms.1

pub space_back : (space : SpaceForm) → space_of_parts (parts_of space) ≡ space
space_back (set_of form) = refl
space_back (map_of from to) = refl

abbrev pub space_form_code : Coded SpaceForm
space_form_code = code_by (Form ⊎ (Form × Form)) (coded⊎ form_code (coded× form_code form_code)) parts_of space_of_parts space_back
