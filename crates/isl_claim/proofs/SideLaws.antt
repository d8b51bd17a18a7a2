-- The pieces of a side, in printed order.
use Rattle.std.proofs.Common.{◌≡◌, ◌↔◌, ◌∙◌, sym, ap, subst, List, [], All, Any, get_or, map}
use Rattle.std.proofs.lemmas.List.Elements.{All-map, All-weaker}
use Rattle.std.proofs.lemmas.Simd.{map-map}
use Rattle.isl_meter.specs.Gauge.{Gauge}
use Rattle.isl_piece.specs.Piece.{PieceView}
use Rattle.isl_piece.specs.Row.{IsRowWithin, IsWellFormed}
use Rattle.isl_piece.specs.System.{IsSystemWithin}
use Rattle.isl_print.proofs.OrderedValueLaws.{Has-ordered, kept_in_order, pieces_twice, rows_twice}
use Rattle.isl_print.proofs.TextLaws.{All-in_order}
use Rattle.isl_print.specs.OrderedValue.{ordered_piece, ordered_view, view_before}
use Rattle.isl_print.specs.PieceOrder.{piece_before}
use Rattle.isl_row_text.proofs.OrderedLaws.{map-in_order}
use Rattle.isl_row_text.specs.Ordered.{in_order}
use Rattle.isl_row_text.specs.RowOrder.{row_before}
use Rattle.isl_space.specs.Element.{Element}
use Rattle.isl_space.specs.Name.{Name}
use Rattle.isl_space.specs.Valuation.{Valuation}
use Rattle.isl_union.specs.KeptValue.{KeptPiece, KeptValue, Has, HasElement, HasNoDefinitions}
use Rattle.isl_union.specs.Minus.{ArePiecesOver}
use Rattle.isl_union.specs.Numbers.{AreWithinLimit}
use Rattle.isl_union.specs.Piece.{kept_piece, IsPieceOf}
use Rattle.isl_claim.specs.Sides.{IsSideOf, value_of}

-- ---- in printed order
abbrev pub shown : List PieceView → List PieceView
shown pieces = map ordered_view (in_order view_before pieces)

-- what pieces have
shown_all : (P Q : PieceView → Type 0) → ((piece : PieceView) → P piece → Q (ordered_view piece)) → (pieces : List PieceView)
    → All P pieces → All Q (shown pieces)
shown_all P Q keeps pieces all =
    All-map Q ordered_view (in_order view_before pieces)
    (All-weaker P (λ piece. Q (ordered_view piece)) keeps (in_order view_before pieces) (All-in_order view_before P pieces all))

shown_kept : (pieces : List PieceView)
    → map kept_piece (shown pieces) ≡ map ordered_piece (in_order piece_before (map kept_piece pieces))
shown_kept pieces =
    map-map kept_piece ordered_view (in_order view_before pieces)
    ∙ sym (map-map ordered_piece kept_piece (in_order view_before pieces))
    ∙ ap (map ordered_piece) (map-in_order kept_piece piece_before pieces)

sound_view : (params : List Name) (piece : PieceView) → IsPieceOf params piece → IsPieceOf params (ordered_view piece)
sound_view params piece sound = record { columns = sound.columns; kept = kept_in_order params (kept_piece piece) sound.kept }

within_view : (g : Gauge) (piece : PieceView) → IsSystemWithin g piece.system → IsSystemWithin g (ordered_view piece).system
within_view g piece within = record {
  rows = All-in_order row_before (IsWellFormed piece.system.columns) piece.system.rows within.rows;
  within = All-in_order row_before (IsRowWithin g) piece.system.rows within.within;
  count = within.count;
  definitions = within.definitions;
}

abbrev IsPlain : PieceView → Type 0
IsPlain piece = piece.system.definitions ≡ []

abbrev IsInOrder : PieceView → Type 0
IsInOrder piece = in_order row_before piece.system.rows ≡ piece.system.rows

-- every element is in order, whatever it was before
in_order_view : (piece : PieceView) → IsInOrder (ordered_view piece)
in_order_view piece = rows_twice piece.system.rows

shown_has : (params : List Name) (pieces : List PieceView) (valuation : Valuation) (element : Element)
    → Any (HasElement params valuation element) (map kept_piece (shown pieces))
    ↔ Any (HasElement params valuation element) (map kept_piece pieces)
shown_has params pieces valuation element =
    subst (λ (ps : List KeptPiece). Any (HasElement params valuation element) ps
    ↔ Any (HasElement params valuation element) (map kept_piece pieces)) (sym (shown_kept pieces))
    (Has-ordered (value_of params pieces) valuation element)

-- ---- the side of a value without definitions
plain_pieces : (g : Gauge) (params : List Name) (flat : KeptValue) (pieces : List PieceView) → ArePiecesOver g params flat pieces
    → HasNoDefinitions flat → All IsPlain pieces
plain_pieces g params flat pieces over none = over.definitions none

pub side_is : (g : Gauge) (params : List Name) (value flat : KeptValue) (pieces made : List PieceView) → made ≡ shown pieces
    → ArePiecesOver g params flat pieces → HasNoDefinitions flat
    → ((valuation : Valuation) (element : Element) → Has flat valuation element ↔ Has value valuation element)
    → IsSideOf g params value made
side_is g params value flat pieces made is over none same = rw is (record {
  sound = shown_all (IsPieceOf params) (IsPieceOf params) (sound_view params) pieces over.sound;
  within = shown_all (λ p. IsSystemWithin g p.system) (λ p. IsSystemWithin g p.system) (within_view g) pieces over.within;
  plain = shown_all IsPlain IsPlain (λ piece plain. plain) pieces (plain_pieces g params flat pieces over none);
  order = ap (in_order piece_before) (shown_kept pieces) ∙ pieces_twice (map kept_piece pieces) ∙ sym (shown_kept pieces);
  rows = All-map IsInOrder ordered_view (in_order view_before pieces) (λ k d l. in_order_view (get_or (in_order view_before pieces) k d));
  elements = λ valuation element. (
    (λ has. (same valuation element).0 ((over.elements valuation element).0 ((shown_has params pieces valuation element).0 has))),
    (λ has. (shown_has params pieces valuation element).1 ((over.elements valuation element).1 ((same valuation element).1 has))),
  );
})
