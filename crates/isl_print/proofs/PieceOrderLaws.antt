-- The order of pieces is total.
use Rattle.std.proofs.Common.{◌≡◌, ◌∙◌, ◌<◌, ◌+◌, ℕ, List, [], ◌∷◌, ◌++◌, ap, ap₂, get_or, length, map, sym, take}
use Rattle.std.proofs.lemmas.List.{map-append, take_more}
use Rattle.std.specs.Cmp.{IsTotalOrder}
use Rattle.std.specs.declared.cmp.Ordering.{Ordering}
use Rattle.std.proofs.lemmas.Cmp.{on_total, nat_list_cmp_total}
use Rattle.isl_space.specs.SpaceForm.{space_text_of}
use Rattle.isl_union.specs.KeptValue.{KeptPiece}
use Rattle.isl_piece.specs.Piece.{PieceView}
use Rattle.isl_union.specs.Piece.{kept_piece}
use Rattle.isl_print.specs.PieceOrder.{piece_cmp}

pub piece_cmp_total : IsTotalOrder piece_cmp
piece_cmp_total = on_total (λ (piece : KeptPiece). space_text_of piece.space) nat_list_cmp_total

abbrev pub view_cmp : PieceView → PieceView → Ordering
view_cmp a b = piece_cmp (kept_piece a) (kept_piece b)

pub view_cmp_total : IsTotalOrder view_cmp
view_cmp_total = on_total kept_piece piece_cmp_total

-- ---- one more item
pub pushed_more : {A X : Type 0} (f : A → X) (items : List A) (item : A) (i : ℕ) (made pushed : List X) (x : X) → i < length items
    → item ≡ get_or items i item → x ≡ f item → pushed ≡ made ++ x ∷ [] → made ≡ map f (take i items)
    → pushed ≡ map f (take (i + 1) items)
pushed_more {A} {X} f items item i made pushed x low at is push so_far =
    push ∙ ap₂ (λ (xs : List X) (y : X). xs ++ y ∷ []) so_far (is ∙ ap f at)
    ∙ sym (ap (map f) (take_more items i item low) ∙ map-append f (take i items) (get_or items i item ∷ []))
