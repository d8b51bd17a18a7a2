-- Places under the texts of spaces.
use Rattle.std.proofs.Common.{◌≡◌, sym, ap, ◌∙◌, subst, None, is_some, ℕ, List, [], ◌∷◌, ◌++◌}
use Rattle.std.specs.List.{Any}
use Rattle.std.specs.Map.{lookup}
use Rattle.std.specs.Str.{bytes_eq}
use Rattle.std.proofs.lemmas.Bool.{false≢true}
use Rattle.std.proofs.lemmas.List.Elements.{All-nil, All-push, All-weaker}
use Rattle.isl_space.specs.Name.{Name}
use Rattle.isl_space.specs.Space.{space_form_of}
use Rattle.isl_space.specs.SpaceForm.{SpaceForm, space_text_of}
use Rattle.isl_space.specs.declared.space.Space.{Space}
use Rattle.isl_by_space.specs.Titles.{HasPlace, HavePlaces}

-- no space has a place to have
pub placed_none : (places : List (Name × ℕ)) → HavePlaces [] places
placed_none places = All-nil (λ (s : Space). HasPlace (space_text_of (space_form_of s)) places)

-- one space more
pub placed_more : (spaces : List Space) (space : Space) (old new : List (Name × ℕ)) → ((other : List ℕ) → HasPlace other old → HasPlace other new)
    → HavePlaces spaces old → HasPlace (space_text_of (space_form_of space)) new → HavePlaces (spaces ++ space ∷ []) new
placed_more spaces space old new more placed own =
    All-push (λ (s : Space). HasPlace (space_text_of (space_form_of s)) new) spaces space
    (All-weaker (λ (s : Space). HasPlace (space_text_of (space_form_of s)) old) (λ s. HasPlace (space_text_of (space_form_of s)) new)
    (λ s h. more (space_text_of (space_form_of s)) h) spaces placed) own

-- a space whose text has no place is none of those that have one
pub unplaced : (space : SpaceForm) (spaces : List Space) (places : List (Name × ℕ)) (title : Name) → title ≡ space_text_of space
    → None ≡ lookup (bytes_eq title) places → HavePlaces spaces places → ¬ Any (λ other. space ≡ space_form_of other) spaces
unplaced space spaces places title text none placed any =
    let there : HasPlace (space_text_of (space_form_of any.1)) places =
    subst (λ (s : Space). HasPlace (space_text_of (space_form_of s)) places) any.3 (placed any.0 any.1 any.2) in
    let here : HasPlace title places = subst (λ (t : Name). HasPlace t places) (sym (text ∙ ap space_text_of any.4)) there in
    false≢true (ap is_some none ∙ here)
