-- inner: the two sides of a claim as pieces over its parameters.
use Rattle.std.specs.Prelude.{◌≡◌, ◌↔◌, ◌≤◌, ℕ, true, All, Any, List, [], length, map}
use Rattle.isl_claim.specs.Claim.{Part}
use Rattle.isl_meter.specs.Gauge.{Gauge}
use Rattle.isl_piece.specs.Piece.{PieceView}
use Rattle.isl_piece.specs.declared.system.System.{System}
use Rattle.isl_print.specs.PieceOrder.{piece_before}
use Rattle.isl_refute.specs.Refutes.{refutes, rows_of}
use Rattle.isl_refute.specs.declared.tree.Cert.{Cert}
use Rattle.isl_row_text.specs.Ordered.{in_order}
use Rattle.isl_row_text.specs.RowOrder.{row_before}
use Rattle.isl_space.specs.Element.{Element}
use Rattle.isl_space.specs.Name.{Name}
use Rattle.isl_space.specs.Valuation.{Valuation}
use Rattle.isl_union.specs.KeptValue.{KeptValue, Has, HasElement, columns_of}
use Rattle.isl_union.specs.Minus.{systems_in}
use Rattle.isl_union.specs.Numbers.{AreWithinLimit}
use Rattle.isl_union.specs.Piece.{kept_piece, IsPieceOf}

-- the value of pieces
abbrev pub value_of : List Name → List PieceView → KeptValue
value_of params pieces = record { params = params; pieces = map kept_piece pieces }

-- pieces that the value over these parameters may have, without defined columns, within the limit and in printed order; together they have
-- its elements
pub record IsSideOf (g : Gauge) (params : List Name) (value : KeptValue) (pieces : List PieceView) : Type 0 where
  pub sound : All (IsPieceOf params) pieces
  pub within : AreWithinLimit g pieces
  pub plain : All (λ piece. piece.system.definitions ≡ []) pieces
  pub order : in_order piece_before (map kept_piece pieces) ≡ map kept_piece pieces
  pub rows : All (λ piece. in_order row_before piece.system.rows ≡ piece.system.rows) pieces
  pub elements : (valuation : Valuation) (element : Element)
      → Any (HasElement params valuation element) (map kept_piece pieces) ↔ Has value valuation element

-- a piece with its proof
abbrev pub part_of : PieceView → Cert → Part
part_of piece cert = record { piece = kept_piece piece; cert = cert }

-- the proof refutes the rows of the piece outside those of the others that lie in its space
abbrev pub IsProvedBy : List Name → List PieceView → PieceView → Cert → Type 0
IsProvedBy params others piece cert =
    refutes (map rows_of (systems_in piece.space others)) (columns_of params piece.space) piece.system.rows cert ≡ true

-- a proof is looked for where no system has more rows than these: the search compares each with each
abbrev pub most_rows : ℕ
most_rows = 500

abbrev pub HasFewRows : System → Type 0
HasFewRows system = length system.rows ≤ most_rows
