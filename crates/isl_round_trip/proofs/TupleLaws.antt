-- The tuples of printed pieces: their entries are the names of the coordinates, and their space is the value's.
use Rattle.std.proofs.Common.{◌≡◌, ◌≤◌, ◌+◌, ◌∙◌, ℕ, zero, suc, List, [], ◌∷◌, ◌++◌, length, map, take, drop, ap, ap₂, sym, refl, arith}
use Rattle.std.proofs.lemmas.List.{append-nil, map-append, length-map, length-take, length-drop, take_all}
use Rattle.isl_space.specs.Name.{Name}
use Rattle.isl_space.specs.Form.{Form, leaf, pair, width_of}
use Rattle.isl_space.specs.SpaceForm.{SpaceForm, set_of, map_of, coordinates_of}
use Rattle.isl_union.specs.KeptValue.{KeptPiece}
use Rattle.isl_print.specs.Naming.{coordinate_names}
use Rattle.isl_print.proofs.TextLaws.{length-coordinate_names}
use Rattle.isl_tree.specs.declared.tree.Entry.{Entry}
use Rattle.isl_tree.specs.declared.tree.Tuple.{Tuple}
use Rattle.isl_tree.specs.declared.tree.Tuple.TheVariants.{Pair}
use Rattle.isl_tree.specs.declared.tree.Tuple.TheBlock.{hidden-the_row-Tuple-0}
use Rattle.isl_tree.specs.Literal.{entries_of, second_entries, piece_entries, form_of_tuple, space_of_tuples, space_of_piece}
use Rattle.isl_plain.proofs.TupleLaws.{entries_of-Pair}
use Rattle.isl_round_trip.specs.Tree.{name_entry, tuple_tree, first_tree, second_tree, piece_tree}

form-Pair : (first second : Tuple) → form_of_tuple (Pair first second) ≡ pair (form_of_tuple first) (form_of_tuple second)
unfolding hidden-the_row-Tuple-0 denote.Hole.Carrier.hidden
form-Pair first second = refl

no_names : (n : ℕ) → take {A = Name} n [] ≡ []
no_names zero = refl
no_names (suc n) = refl

-- the first names, and those behind them
take_both : (m n : ℕ) (names : List Name) → take m names ++ take n (drop m names) ≡ take (m + n) names
take_both zero n names = let none : 0 + n ≡ n = omega arith in ap (λ k. take k names) (sym none)
take_both (suc m) n [] = no_names n ∙ sym (no_names (suc m + n))
take_both (suc m) n (name ∷ names) = let more : suc m + n ≡ suc (m + n) = omega arith in ap (λ l. name ∷ l) (take_both m n names) ∙ ap (λ k. take k (name ∷ names)) (sym more)

entries_of_tree : (form : Form) (names : List Name) → entries_of (tuple_tree form names) ≡ map name_entry (take (width_of form) names)
entries_of_tree (leaf name width) names = refl
entries_of_tree (pair left right) names =
    entries_of-Pair (tuple_tree left names) (tuple_tree right (drop (width_of left) names))
    ∙ ap₂ (λ (xs ys : List Entry). xs ++ ys) (entries_of_tree left names) (entries_of_tree right (drop (width_of left) names))
    ∙ sym (map-append name_entry (take (width_of left) names) (take (width_of right) (drop (width_of left) names)))
    ∙ ap (map name_entry) (take_both (width_of left) (width_of right) names)

form_of_tree : (form : Form) (names : List Name) → width_of form ≤ length names → form_of_tuple (tuple_tree form names) ≡ form
form_of_tree (leaf name width) names enough =
    let count : length (map name_entry (take width names)) ≡ width = length-map (take width names) name_entry ∙ length-take width names ∙ omega (arith, enough) in
    ap (λ n. leaf name n) count
form_of_tree (pair left right) names enough =
    form-Pair (tuple_tree left names) (tuple_tree right (drop (width_of left) names))
    ∙ ap₂ (λ (a b : Form). pair a b) (form_of_tree left names (omega (arith, enough))) (form_of_tree right (drop (width_of left) names) (omega (arith, enough, length-drop (width_of left) names)))

-- one entry for each coordinate
tree_entries : (space : SpaceForm) (names : List Name) → length names ≡ coordinates_of space → entries_of (first_tree space names) ++ second_entries (second_tree space names) ≡ map name_entry names
tree_entries (set_of form) names count =
    append-nil (entries_of (tuple_tree form names)) ∙ entries_of_tree form names ∙ ap (map name_entry) (take_all (width_of form) names (omega (arith, count)))
tree_entries (map_of from to) names count =
    ap₂ (λ (xs ys : List Entry). xs ++ ys) (entries_of_tree from names) (entries_of_tree to (drop (width_of from) names))
    ∙ sym (map-append name_entry (take (width_of from) names) (take (width_of to) (drop (width_of from) names)))
    ∙ ap (map name_entry) (take_both (width_of from) (width_of to) names ∙ take_all (width_of from + width_of to) names (omega (arith, count)))

tree_space : (space : SpaceForm) (names : List Name) → length names ≡ coordinates_of space → space_of_tuples (form_of_tuple (first_tree space names)) (second_tree space names) ≡ space
tree_space (set_of form) names count = ap set_of (form_of_tree form names (omega (arith, count)))
tree_space (map_of from to) names count =
    ap₂ (λ (a b : Form). map_of a b) (form_of_tree from names (omega (arith, count))) (form_of_tree to (drop (width_of from) names) (omega (arith, count, length-drop (width_of from) names)))

pub entries-piece_tree : (params : List Name) (piece : KeptPiece) → piece_entries (piece_tree params piece) ≡ map name_entry (coordinate_names params piece.space)
entries-piece_tree params piece = tree_entries piece.space (coordinate_names params piece.space) (length-coordinate_names params piece.space)

pub space-piece_tree : (params : List Name) (piece : KeptPiece) → space_of_piece (piece_tree params piece) ≡ piece.space
space-piece_tree params piece = tree_space piece.space (coordinate_names params piece.space) (length-coordinate_names params piece.space)
