-- Printed trees keep the rules on names.
use Rattle.std.proofs.Common.{◌≡◌, ◌∙◌, inl, inr, Bool, true, false, not, List, [], ◌∷◌, map, ap, sym, refl}
use Rattle.std.specs.Prelude.{◌&&◌, ◌||◌, is_some, is_none}
use Rattle.std.specs.List.{list_all, AllByRecursion}
use Rattle.std.specs.Str.{bytes_eq}
use Rattle.std.proofs.lemmas.Bool.{and_from, false_from_ne_true}
use Rattle.std.proofs.lemmas.List.Elements.{recursion_from_All}
use Rattle.std.proofs.lemmas.Slice.Eq.{bytes_eq-Decides}
use Rattle.isl_space.specs.Name.{Name}
use Rattle.isl_space.specs.SpaceForm.{SpaceForm, set_of, map_of}
use Rattle.isl_union.specs.KeptValue.{KeptPiece, KeptValue, IsKeptValue}
use Rattle.isl_print.specs.Naming.{coordinate_names}
use Rattle.isl_print.specs.Ordered.{in_order}
use Rattle.isl_print.specs.PieceOrder.{piece_before}
use Rattle.isl_space.proofs.DistinctLaws.{Differs, Distinct, distinct_from}
use Rattle.isl_print.proofs.TextLaws.{All-in_order}
use Rattle.isl_tree.specs.Literal.{is_among}
use Rattle.isl_text.specs.Formed.{are_distinct, are_sets, are_maps, are_alike, standing_name, with_name, names_are_new, piece_is_formed, is_formed}
use Rattle.isl_round_trip.specs.Tree.{name_entry, second_tree, piece_tree, printed_tree}
use Rattle.isl_round_trip.specs.Written.{IsSet, IsMap, IsUniform}
use Rattle.isl_round_trip.proofs.TupleLaws.{entries-piece_tree}

-- ---- the parameters are distinct
among_none : (names : List Name) (name : Name) → Differs name names → is_among names name ≡ false
among_none [] name differs = refl
among_none (other ∷ names) name differs =
    ap (λ (b : Bool). b || is_among names name) (false_from_ne_true (bytes_eq other name) (λ e. differs.0 (sym ((bytes_eq-Decides other name).0 e)))) ∙ among_none names name differs.1

params_distinct : (names : List Name) → Distinct names → are_distinct names ≡ true
params_distinct [] distinct = refl
params_distinct (name ∷ names) distinct = and_from (not (is_among names name)) (are_distinct names) (ap not (among_none names name distinct.0)) (params_distinct names distinct.1)

-- ---- all pieces are sets, or all are maps
no_second : (space : SpaceForm) (names : List Name) → IsSet space → is_none (second_tree space names) ≡ true
no_second (set_of form) names set = refl
no_second (map_of from to) names set = absurd set

some_second : (space : SpaceForm) (names : List Name) → IsMap space → is_some (second_tree space names) ≡ true
some_second (set_of form) names maps = absurd maps
some_second (map_of from to) names maps = refl

module _ (params : List Name) where
  sets_alike : (pieces : List KeptPiece) → AllByRecursion (λ p. IsSet p.space) pieces → are_sets (map (piece_tree params) pieces) ≡ true
  sets_alike [] all = refl
  sets_alike (piece ∷ pieces) all = and_from _ _ (no_second piece.space (coordinate_names params piece.space) all.0) (sets_alike pieces all.1)

  maps_alike : (pieces : List KeptPiece) → AllByRecursion (λ p. IsMap p.space) pieces → are_maps (map (piece_tree params) pieces) ≡ true
  maps_alike [] all = refl
  maps_alike (piece ∷ pieces) all = and_from _ _ (some_second piece.space (coordinate_names params piece.space) all.0) (maps_alike pieces all.1)

either_left : (a b : Bool) → a ≡ true → (a || b) ≡ true
either_left a b is = ap (λ (x : Bool). x || b) is

either_right : (a b : Bool) → b ≡ true → (a || b) ≡ true
either_right true b is = refl
either_right false b is = is

pieces_alike : (value : KeptValue) → IsUniform value → are_alike (map (piece_tree value.params) (in_order piece_before value.pieces)) ≡ true
pieces_alike value (inl sets) =
    let pieces = in_order piece_before value.pieces in
    either_left (are_sets (map (piece_tree value.params) pieces)) (are_maps (map (piece_tree value.params) pieces))
    (sets_alike value.params pieces (recursion_from_All (λ p. IsSet p.space) pieces (All-in_order piece_before (λ p. IsSet p.space) value.pieces sets)))
pieces_alike value (inr maps) =
    let pieces = in_order piece_before value.pieces in
    either_right (are_sets (map (piece_tree value.params) pieces)) (are_maps (map (piece_tree value.params) pieces))
    (maps_alike value.params pieces (recursion_from_All (λ p. IsMap p.space) pieces (All-in_order piece_before (λ p. IsMap p.space) value.pieces maps)))

-- ---- no name stands before `=`
entries_new : (known names : List Name) → names_are_new known (map name_entry names) ≡ true
entries_new known [] = refl
entries_new known (name ∷ names) = entries_new (with_name known (standing_name (name_entry name))) names

pieces_formed : (params : List Name) (pieces : List KeptPiece) → list_all (piece_is_formed params) (map (piece_tree params) pieces) ≡ true
pieces_formed params [] = refl
pieces_formed params (piece ∷ pieces) =
    and_from (piece_is_formed params (piece_tree params piece)) (list_all (piece_is_formed params) (map (piece_tree params) pieces))
    (ap (names_are_new params) (entries-piece_tree params piece) ∙ entries_new params (coordinate_names params piece.space)) (pieces_formed params pieces)

pub tree_formed : (value : KeptValue) → IsKeptValue value → IsUniform value → is_formed (printed_tree value) ≡ true
tree_formed value kept uniform =
    let trees = map (piece_tree value.params) (in_order piece_before value.pieces) in
    and_from (are_distinct value.params && are_alike trees) (list_all (piece_is_formed value.params) trees)
    (and_from (are_distinct value.params) (are_alike trees) (params_distinct value.params (distinct_from value.params kept.params.distinct)) (pieces_alike value uniform))
    (pieces_formed value.params (in_order piece_before value.pieces))
