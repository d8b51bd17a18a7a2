-- Pieces that are found under a text are those of the space, or of the first form, that has it.
use Rattle.std.proofs.Common.{◌≡◌, ◌∙◌, refl, sym, ap, ap₂, Bool, true, false, cond, filter, get_or, Option, List, [], ◌∷◌, arith}
use Rattle.std.specs.Prelude.{unwrap_or, All}
use Rattle.std.specs.Map.{lookup}
use Rattle.std.specs.Str.{bytes_eq}
use Rattle.std.proofs.lemmas.Bool.{false≢true, false_from_ne_true}
use Rattle.std.proofs.lemmas.List.Elements.{All-head, All-tail}
use Rattle.std.proofs.lemmas.Slice.Eq.{bytes_eq-Decides}
use Rattle.isl_space.specs.Form.{Form, text_of, IsWellFormed}
use Rattle.isl_space.specs.Name.{Name}
use Rattle.isl_space.specs.SpaceForm.{SpaceForm, set_of, map_of, space_text_of, IsWellFormedSpace}
use Rattle.isl_piece.specs.Piece.{PieceView}
use Rattle.isl_index.specs.Found.{begins_with, first_form, lies_in}
use Rattle.isl_index.specs.Groups.{begins_with_title, has_title, under}
use Rattle.isl_index.specs.Same.{is_same_form, is_same_space}
use Rattle.isl_index.proofs.SameLaws.{form_is, form_itself, space_is, space_itself}
use Rattle.isl_index.proofs.TextLaws.{same_shape, same_space}

abbrev Entries : Type 0
Entries = List (Name × List PieceView)

-- ---- what is found
space_told : (a b : SpaceForm) → IsWellFormedSpace a → IsWellFormedSpace b → bytes_eq (space_text_of a) (space_text_of b) ≡ is_same_space a b
space_told a b h k = by (bytes_eq (space_text_of a) (space_text_of b)) refl
  where
    by : (c : Bool) → bytes_eq (space_text_of a) (space_text_of b) ≡ c → c ≡ is_same_space a b
    by true e =
        let same = same_space a b h k ((bytes_eq-Decides (space_text_of a) (space_text_of b)).0 e) in
        sym (ap (is_same_space a) (sym same) ∙ space_itself a)
    by false e = sym (false_from_ne_true (is_same_space a b) (λ s. false≢true (sym e ∙
        (bytes_eq-Decides (space_text_of a) (space_text_of b)).1 (ap space_text_of (space_is a b s)))))

form_told : (a b : Form) → IsWellFormed a → IsWellFormed b → bytes_eq (text_of a) (text_of b) ≡ is_same_form a b
form_told a b h k = by (bytes_eq (text_of a) (text_of b)) refl
  where
    by : (c : Bool) → bytes_eq (text_of a) (text_of b) ≡ c → c ≡ is_same_form a b
    by true e =
        let same = same_shape a b h k ((bytes_eq-Decides (text_of a) (text_of b)).0 e) in
        sym (ap (is_same_form a) (sym same) ∙ form_itself a)
    by false e = sym (false_from_ne_true (is_same_form a b) (λ s. false≢true (sym e ∙
        (bytes_eq-Decides (text_of a) (text_of b)).1 (ap text_of (form_is a b s)))))

-- tests that agree on the pieces find the same of them
agreeing : (p q : PieceView → Bool) (pieces : List PieceView) → All (λ piece. p piece ≡ q piece) pieces → filter p pieces ≡ filter q pieces
agreeing p q [] all = refl
agreeing p q (piece ∷ pieces) all =
    ap₂ (λ (b : Bool) (l : List PieceView). cond b (piece ∷ l) l) (All-head (λ piece. p piece ≡ q piece) piece pieces all)
    (agreeing p q pieces (All-tail (λ piece. p piece ≡ q piece) piece pieces all))

pub found_in : (space : SpaceForm) (pieces : List PieceView) → IsWellFormedSpace space → All (λ piece. IsWellFormedSpace piece.space) pieces
    → filter (has_title (space_text_of space)) pieces ≡ filter (lies_in space) pieces
found_in space pieces h all =
    agreeing (has_title (space_text_of space)) (lies_in space) pieces (λ k d l. space_told space (get_or pieces k d).space h (all k d l))

first_formed : (space : SpaceForm) → IsWellFormedSpace space → IsWellFormed (first_form space)
first_formed (set_of form) h =
    let coordinates = h.narrow.coordinates in
    let leaves = h.narrow.leaves in
    record { named = h.named; narrow = record { coordinates = omega arith; leaves = omega arith } }
first_formed (map_of from to) h =
    let coordinates = h.narrow.coordinates in
    let leaves = h.narrow.leaves in
    record { named = h.named.0; narrow = record { coordinates = omega arith; leaves = omega arith } }

pub found_with : (form : Form) (pieces : List PieceView) → IsWellFormed form → All (λ piece. IsWellFormedSpace piece.space) pieces
    → filter (begins_with_title (text_of form)) pieces ≡ filter (begins_with form) pieces
found_with form pieces h all =
    agreeing (begins_with_title (text_of form)) (begins_with form) pieces (λ k d l.
    form_told form (first_form (get_or pieces k d).space) h (first_formed (get_or pieces k d).space (all k d l)))

-- of what was looked up under the text
pub taken_in : (space : SpaceForm) (pieces : List PieceView) (entries : Entries) (title : Name) (found : Option (List PieceView))
    → IsWellFormedSpace space → All (λ piece. IsWellFormedSpace piece.space) pieces
    → ((q : Name) → under q entries ≡ filter (has_title q) pieces) → title ≡ space_text_of space → found ≡ lookup (bytes_eq title) entries
    → unwrap_or found [] ≡ filter (lies_in space) pieces
taken_in space pieces entries title found h all is text at =
    ap (λ (o : Option (List PieceView)). unwrap_or o []) at ∙ is title ∙ ap (λ (t : Name). filter (has_title t) pieces) text
    ∙ found_in space pieces h all

pub taken_with : (form : Form) (pieces : List PieceView) (entries : Entries) (title : Name) (found : Option (List PieceView))
    → IsWellFormed form → All (λ piece. IsWellFormedSpace piece.space) pieces
    → ((q : Name) → under q entries ≡ filter (begins_with_title q) pieces) → title ≡ text_of form → found ≡ lookup (bytes_eq title) entries
    → unwrap_or found [] ≡ filter (begins_with form) pieces
taken_with form pieces entries title found h all is text at =
    ap (λ (o : Option (List PieceView)). unwrap_or o []) at ∙ is title ∙ ap (λ (t : Name). filter (begins_with_title t) pieces) text
    ∙ found_with form pieces h all
